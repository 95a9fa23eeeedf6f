use Rattle.std.proofs.Common.{ℕ, List, [], ◌∷◌, ◌++◌, map, replicate, ap, sym, subst, ◌∙◌, arith}
use Rattle.std.specs.Prelude.{All}
use Rattle.std.specs.List.{range_with_len}
use Rattle.std.proofs.lemmas.List.{map-append}
use Rattle.std.proofs.lemmas.List.Elements.{All-push}
use Rattle.std.proofs.lemmas.List.FromFn.{map-range_with_len_more}
use Rattle.made_chain.specs.declared.plan.Session.{Session}
use Rattle.made_chain.specs.Sessions.{items_in, items_of, IsShort}
use Rattle.made_chain.specs.Soak.{Stop, stop_of, stop_at}
use Rattle.made_chain.proofs.SoakLemmas.{replicate-push}
use Rattle.made_chain.proofs.soaking.sessions_over.Goals as goal

pub stopping-preserved : goal.stopping-preserved
stopping-preserved c =
    let one : Session = c.in_ok-stopped_session.stopped_session in
    let before : List Session = c.stopping.sessions.items in
    let all : List (List ℕ) = items_in c.args.items.now in
    let stops : List Stop = map (stop_at c.args.seed) (range_with_len 0 c.stopping.k) in
    let grown = c.in_ok-push.ensures.items in
    record {
      items = ap (map items_of) grown ∙ map-append items_of before (one ∷ [])
          ∙ ap (λ (l : List (List (List ℕ))). l ++ items_of one ∷ []) c.stopping.invariant.items
          ∙ ap (λ (l : List (List ℕ)). replicate c.stopping.k all ++ l ∷ []) c.in_ok-stopped_session.ensures.items
          ∙ replicate-push c.stopping.k all;
      short = subst (λ (l : List Session). All IsShort l) (sym grown)
          (All-push IsShort before one c.stopping.invariant.short c.in_ok-stopped_session.ensures.short);
      stops = ap (map stop_of) grown ∙ map-append stop_of before (one ∷ [])
          ∙ ap (λ (l : List Stop). l ++ stop_of one ∷ []) c.stopping.invariant.stops
          ∙ ap (λ (s : Stop). stops ++ s ∷ []) c.in_ok-stopped_session.ensures.stop
          ∙ sym (map-range_with_len_more (stop_at c.args.seed) 0 c.stopping.k c.stopping.k (omega arith));
    }
