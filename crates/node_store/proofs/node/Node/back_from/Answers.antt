use Rattle.std.proofs.Common.{◌≡◌, ℕ, Err, Some, length, sym, ap, ◌∙◌, subst, arith}
use Rattle.std.proofs.lemmas.Option.{same_Some}
use Rattle.cell_state.specs.State.{rows}
use Rattle.cell_state.specs.Moves.{AreRowsOfBranch}
use Rattle.chain_tree.proofs.BlockLemmas.{len-same}
use Rattle.log_file.proofs.Exits.{no_error, same_stop, answer_counts}
use Rattle.node_store.specs.Kept.{AreRowsOfTip}
use Rattle.node_store.specs.Node.{NodeValue, node_of, IsOwnDiskWhereTold}
use Rattle.node_store.proofs.RecordedLemmas.{read-here}
use Rattle.node_store.proofs.StayingLemmas.{not_stopped, stopped-counts, own-looked}
use Rattle.node_store.proofs.TryingLemmas.{joined-inside, live-inside}
use Rattle.node_store.proofs.node.Node.back_from.Goals as goal

pub moved-requires-clause-from : goal.moved-requires-clause-from
moved-requires-clause-from g c =
    let same : length c.self.inside.kept.chain.blocks ≡ length c.args.self.chain.blocks = ap (λ (v : NodeValue). length v.chain.blocks) c.self.view_is in
    omega (arith, same, c.requires.within)

pub moved-requires-clause-to : goal.moved-requires-clause-to
moved-requires-clause-to g c = omega (arith, c.tip-tip.ensures.within, len-same c.self.inside.kept.chain.blocks _ c.tree.ensures.indexed)

pub moved-requires-clause-own : goal.moved-requires-clause-own
moved-requires-clause-own g c =
    read-here c.self.inside.kept c.self.inside.log.place c.self.inside.state c.self.inside.cache c.args.self (g.D.Disk.reads_as c.args.disk.now)
    (g.D.Disk.images c.args.disk.now) c.self.view_is c.requires.own

pub invariant_of-result : goal.invariant_of-result
invariant_of-result g c = record {
  few = c.self.invariant.few;
  within = c.self.invariant.within;
  below = c.in-Ok.ensures.below c.self.invariant.below;
}

pub returns-in-Ok-clause-same : goal.returns-in-Ok-clause-same
returns-in-Ok-clause-same g c =
    let most = c.in-Ok.ensures.looked.most in
    let found = c.in-Ok.ensures.looked.found.none (λ _ e. not_stopped _ e) in
    subst (λ (v : NodeValue). node_of c.self.inside.kept c.self.inside.log.place c.in-Ok.state c.moved.new.cache
    ≡ record v { cells = c.in-Ok.state; held = c.moved.new.cache.held }) c.self.view_is
    (λ i. record (node_of c.self.inside.kept c.self.inside.log.place c.in-Ok.state c.moved.new.cache) { most = most i; damages = found i })

pub returns-in-Ok-clause-own : goal.returns-in-Ok-clause-own
returns-in-Ok-clause-own g c =
    own-looked g.D.Disk.content_of g.D.Disk.reads_as g.D.Disk.images g.D.Disk.moment g.D.Disk.left_since g.met.D.Disk.content_rests
    c.args.disk.now c.moved.new.disk c.moved.ensures.looked.content
    c.self.inside.kept c.self.inside.log.place c.self.inside.state c.in-Ok.state c.self.inside.cache c.moved.new.cache
    (subst (λ (v : NodeValue). IsOwnDiskWhereTold v (g.D.Disk.reads_as c.args.disk.now) (g.D.Disk.images c.args.disk.now)) (sym c.self.view_is) c.requires.own)
    c.in-Ok.ensures.looked.agrees

pub returns-in-Ok-clause-cells : goal.returns-in-Ok-clause-cells
returns-in-Ok-clause-cells g c = λ told joined live.
    let there : AreRowsOfBranch c.self.inside.kept.chain.blocks c.tip-tip.result (rows c.in-Ok.state) =
    c.in-Ok.ensures.cells told (joined-inside c.self.inside.kept c.self.inside.log.place c.self.inside.state c.self.inside.cache c.args.self c.self.view_is joined)
    (live-inside c.self.inside.kept c.self.inside.log.place c.self.inside.state c.self.inside.cache c.args.self c.self.view_is c.args.from live) in
    subst (λ (v : NodeValue). AreRowsOfTip v.chain.blocks (rows c.in-Ok.state)) c.self.view_is
    (λ place at. subst (λ (n : ℕ). AreRowsOfBranch c.self.inside.kept.chain.blocks n (rows c.in-Ok.state))
    (same_Some c.tip-tip.result place (sym (c.tip-tip.ensures.of_blocks c.self.inside.kept.chain.blocks c.tree.ensures.indexed) ∙ at)) there)

pub returns-in-Ok-clause-content : goal.returns-in-Ok-clause-content
returns-in-Ok-clause-content g c = c.moved.ensures.looked.content

pub returns-in-Ok-clause-undamaged : goal.returns-in-Ok-clause-undamaged
returns-in-Ok-clause-undamaged g c = λ _ _ _ _ e. no_error _ _ e

pub returns-in-Ok-clause-damage : goal.returns-in-Ok-clause-damage
returns-in-Ok-clause-damage g c = λ _ e. absurd (no_error _ _ e)

pub returns-in-Ok-clause-cause : goal.returns-in-Ok-clause-cause
returns-in-Ok-clause-cause g c = answer_counts _ _ _ _ (c.in-Ok.ensures.looked.cause.unchanged (λ e. not_stopped _ e))

pub returns-in-Err-clause-content : goal.returns-in-Err-clause-content
returns-in-Err-clause-content g c = c.moved.ensures.looked.content

pub returns-in-Err-clause-undamaged : goal.returns-in-Err-clause-undamaged
returns-in-Err-clause-undamaged g c = λ told joined live damage e.
    c.in-Err.ensures.undamaged told (joined-inside c.self.inside.kept c.self.inside.log.place c.self.inside.state c.self.inside.cache c.args.self c.self.view_is joined)
    (live-inside c.self.inside.kept c.self.inside.log.place c.self.inside.state c.self.inside.cache c.args.self c.self.view_is c.args.from live)
    damage (ap Err (same_stop _ _ e))

pub returns-in-Err-clause-damage : goal.returns-in-Err-clause-damage
returns-in-Err-clause-damage g c = λ damage e. c.in-Err.ensures.looked.damage damage (ap Some (same_stop _ _ e))

pub returns-in-Err-clause-cause : goal.returns-in-Err-clause-cause
returns-in-Err-clause-cause g c = stopped-counts _ _ _ _ c.in-Err.ensures.looked.cause
