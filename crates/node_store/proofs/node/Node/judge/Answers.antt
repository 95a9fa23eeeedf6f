use Rattle.std.proofs.Common.{◌≡◌, Option, Err, Some, sym, ap, ◌∙◌, subst}
use Rattle.std.specs.Prelude.{IsSome}
use Rattle.outside.specs.Image.{Image}
use Rattle.log_file.proofs.Exits.{no_error, same_stop, stop_counts, answer_counts, answer_still, counts_on}
use Rattle.node_store.proofs.TryingLemmas.{judged-stays, judged-beside, judged-back, parent-within, parent-live, node-joined}
use Rattle.node_store.proofs.node.Node.judge.Goals as goal

pub back_from-requires : goal.back_from-requires
back_from-requires g c = record {
  own = c.in-Ok.ensures.decided.own;
  within = parent-within c.args.self c.in-Ok.decided.0 c.args.item.now c.in-Ok.decided.1 _ _ _ c.in-Ok.ensures.decided c.in-Joins.joining c.in-Joins.is;
}

-- ---- The judge was stopped

pub returns-in-Err-clause-judged : goal.returns-in-Err-clause-judged
returns-in-Err-clause-judged g c = tt

pub returns-in-Err-clause-content : goal.returns-in-Err-clause-content
returns-in-Err-clause-content g c = c.decide.ensures.content

pub returns-in-Err-clause-undamaged : goal.returns-in-Err-clause-undamaged
returns-in-Err-clause-undamaged g c = λ sound damage e. c.in-Err.ensures.undamaged sound damage (ap Err (same_stop _ _ e))

pub returns-in-Err-clause-damage : goal.returns-in-Err-clause-damage
returns-in-Err-clause-damage g c = λ damage e. c.in-Err.ensures.damage damage (ap Err (same_stop _ _ e))

pub returns-in-Err-clause-cause : goal.returns-in-Err-clause-cause
returns-in-Err-clause-cause g c = stop_counts _ _ _ _ c.in-Err.ensures.cause

-- ---- It stays out

pub returns-in-Stays-clause-judged : goal.returns-in-Stays-clause-judged
returns-in-Stays-clause-judged g c =
    judged-stays c.args.self c.in-Ok.decided.0 c.args.item.now c.in-Ok.decided.1 _ _ _ c.in-Ok.ensures.decided c.in-Stays.verdict c.in-Stays.is

pub returns-in-Stays-clause-content : goal.returns-in-Stays-clause-content
returns-in-Stays-clause-content g c = c.decide.ensures.content

pub returns-in-Stays-clause-undamaged : goal.returns-in-Stays-clause-undamaged
returns-in-Stays-clause-undamaged g c = λ _ _ e. no_error _ _ e

pub returns-in-Stays-clause-damage : goal.returns-in-Stays-clause-damage
returns-in-Stays-clause-damage g c = λ _ e. absurd (no_error _ _ e)

pub returns-in-Stays-clause-cause : goal.returns-in-Stays-clause-cause
returns-in-Stays-clause-cause g c = answer_counts _ _ _ _ (answer_still _ _ _ _ c.in-Ok.ensures.cause)

-- ---- It would join beside the tip

pub returns-then-not-is_above_tip-clause-judged : goal.returns-then-not-is_above_tip-clause-judged
returns-then-not-is_above_tip-clause-judged g c =
    judged-beside c.args.self c.in-Ok.decided.0 c.args.item.now c.in-Ok.decided.1 _ _ _ c.in-Ok.ensures.decided c.in-Joins.joining c.in-Joins.is
    c.is_above_tip.result c.tree.result.now.entries c.tree.ensures.indexed c.is_above_tip.ensures c.if-not-is_above_tip.true

-- ---- It would become the tip

pub returns-in-Ok-back_from-clause-judged : goal.returns-in-Ok-back_from-clause-judged
returns-in-Ok-back_from-clause-judged g c =
    judged-back c.args.self c.in-Ok.decided.0 c.args.item.now c.in-Ok.decided.1 _ _ _ c.in-Ok.ensures.decided c.in-Joins.joining c.in-Joins.is
    c.is_above_tip.result c.tree.result.now.entries c.tree.ensures.indexed c.is_above_tip.ensures c.if-not-is_above_tip.false
    c.in-Ok-back_from.node (g.D.Disk.reads_as c.back_from.new.disk) (g.D.Disk.images c.back_from.new.disk)
    (g.met.D.Disk.content_rests c.args.disk.now c.decide.new.disk c.decide.ensures.content).reads
    c.in-Ok-back_from.ensures.same c.in-Ok-back_from.ensures.own c.in-Ok-back_from.ensures.cells

pub returns-in-Ok-back_from-clause-cause : goal.returns-in-Ok-back_from-clause-cause
returns-in-Ok-back_from-clause-cause g c = answer_counts _ _ _ _
    (answer_still _ _ _ _ c.in-Ok-back_from.ensures.cause ∙ answer_still _ _ _ _ c.in-Ok.ensures.cause)

pub returns-clause-undamaged : goal.returns-clause-undamaged
returns-clause-undamaged g c = λ sound damage e.
    let same = (g.met.D.Disk.content_rests c.args.disk.now c.decide.new.disk c.decide.ensures.content).reads in
    c.in-Err-back_from.ensures.undamaged
    (subst (λ (r : Option Image). IsSome r) (sym same) sound.told)
    (node-joined c.args.self c.in-Ok.decided.0 c.args.item.now c.in-Ok.decided.1 _ _ _ c.in-Ok.ensures.decided c.in-Joins.joining c.in-Joins.is
    c.is_above_tip.result c.tree.result.now.entries c.tree.ensures.indexed c.is_above_tip.ensures c.if-not-is_above_tip.false sound)
    (parent-live c.args.self c.in-Ok.decided.0 c.args.item.now c.in-Ok.decided.1 _ _ _ c.in-Ok.ensures.decided c.in-Joins.joining c.in-Joins.is
    c.is_above_tip.result c.tree.result.now.entries c.tree.ensures.indexed c.is_above_tip.ensures c.if-not-is_above_tip.false sound)
    damage (ap Err (same_stop _ _ e))

pub returns-clause-damage : goal.returns-clause-damage
returns-clause-damage g c = λ damage e. c.in-Err-back_from.ensures.damage damage (ap Err (same_stop _ _ e))

pub returns-clause-cause : goal.returns-clause-cause
returns-clause-cause g c = counts_on _ _ _ (answer_still _ _ _ _ c.in-Ok.ensures.cause) (stop_counts _ _ _ _ c.in-Err-back_from.ensures.cause)
