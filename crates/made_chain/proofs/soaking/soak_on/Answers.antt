use Rattle.std.proofs.Common.{◌≡◌, ℕ, ◌+◌, ◌*◌, ◌-◌, List, Vec, Global, length, map, replicate, ap, sym, subst, ◌∙◌, arith}
use Rattle.std.proofs.lemmas.List.{length-map}
use Rattle.std.proofs.lemmas.Result.{IfOk-weaker}
use Rattle.verdict_defs.specs.Chain.{chain_of_genesis}
use Rattle.made_chain.specs.Sessions.{items_in, items_of}
use Rattle.made_chain.specs.Soak.{stop_of, stops_of}
use Rattle.made_chain.proofs.SoakLemmas.{counts-played}
use Rattle.made_chain.proofs.soaking.soak_on.Goals as goal

pub play_all-requires-clause-store : goal.play_all-requires-clause-store
play_all-requires-clause-store g c = (c.in_ok-opened.opened.chain, c.in_ok-opened.ensures.image)

pub open_kept-requires : goal.open_kept-requires
open_kept-requires g c =
    let played = c.in-Ok.ensures.kept c.in_ok-opened.opened.chain c.in_ok-opened.ensures.image in
    record { store = (played.0, played.2) }

pub returns : goal.returns
returns g c =
    let chain = c.in_ok-opened.opened.chain in
    let now = c.in_ok-node.node.chain in
    let made = c.args.made.now in
    let blocks : List (Vec ℕ Global) = made.blocks.items in
    let sessions = c.in_ok-sessions.sessions.items in
    let played = c.in-Ok.ensures.kept chain c.in_ok-opened.ensures.image in
    let opened : chain ≡ chain_of_genesis made.spec.items made.genesis.items =
    c.in_ok-opened.ensures.chain ∙ ap (λ (spec : List ℕ). chain_of_genesis spec c.deref-3.result.now) c.deref-2.ensures.value
    ∙ ap (chain_of_genesis made.spec.items) c.deref-3.ensures.value in
    let lists : map items_of c.deref-4.result.now ≡ replicate (4 * length blocks + 2) (items_in blocks) =
    ap (map items_of) c.deref-4.ensures.value
    ∙ subst (λ (l : List (Vec ℕ Global)). map items_of sessions ≡ replicate (4 * length l + 2) (items_in l)) c.deref.ensures.value c.in_ok-sessions.ensures.items in
    let size : c.len.result ≡ length blocks = omega (arith, c.len.ensures, made.blocks.ok) in
    let before : c.len-before.result ≡ length chain.blocks = c.len-before.ensures.of_blocks chain.blocks c.tree.ensures.indexed in
    let after : c.len-2.result ≡ length now.blocks = c.len-2.ensures.of_blocks now.blocks c.tree-2.ensures.indexed in
    let joined : c.from.result ≡ length now.blocks - length chain.blocks = omega (arith, c.from.ensures, c.saturating_sub-joined.ensures, before, after) in
    record {
      counts = counts-played c.soak_laws.ensures.prefixes_replay c.soak_laws.ensures.joined_are_counted (chain_of_genesis made.spec.items made.genesis.items) chain played.0 now
          blocks (map items_of c.deref-4.result.now) c.len.result c.from.result c.counted.result opened lists size played.1 (c.in_ok-node.ensures.chain played.0 played.2)
          joined c.counted.ensures;
      soaked = IfOk-weaker c.counted.result _ _ (λ counts is. record {
        sessions = c.deref-4.result.now;
        items_are = lists ∙ ap (λ (n : ℕ). replicate (4 * n + 2) (items_in blocks)) (sym (length-map blocks (λ (bytes : Vec ℕ Global). bytes.items)));
        stops_are = ap (map stop_of) c.deref-4.ensures.value ∙ c.in_ok-sessions.ensures.stops
            ∙ ap (λ (l : List (Vec ℕ Global)). stops_of c.args.seed (length l)) c.deref.ensures.value
            ∙ ap (stops_of c.args.seed) (sym (length-map blocks (λ (bytes : Vec ℕ Global). bytes.items)));
        old = _;
        new = _;
        before = _;
        after = _;
        ended = c.in-Ok.ensures.ended;
      }) c.counted.ensures;
    }
