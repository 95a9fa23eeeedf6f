use Rattle.std.proofs.Common.{sym, ◌∙◌, arith}
use Rattle.node_store.proofs.JoiningLemmas.{joining-cells, staying-cells, fits-parent, rows-stay, move-else}
use Rattle.outside.proofs.Endings.{no_answer}
use Rattle.node_store.proofs.LoadingLemmas.{whole-also}
use Rattle.node_store.proofs.StepLemmas.{none-to-join, one-to-join}
use Rattle.node_store.proofs.kept.Kept.state_with.Goals as goal

pub returns-then-not-is_above_tip-clause-undamaged : goal.returns-then-not-is_above_tip-clause-undamaged
returns-then-not-is_above_tip-clause-undamaged g c = λ _ _ _ _ _ _ _ _ e. no_answer _ _ e

pub returns-then-not-is_above_tip-clause-damage : goal.returns-then-not-is_above_tip-clause-damage
returns-then-not-is_above_tip-clause-damage g c = λ _ e. absurd (no_answer _ _ e)

pub returns-then-not-is_above_tip-clause-reads : goal.returns-then-not-is_above_tip-clause-reads
returns-then-not-is_above_tip-clause-reads g c = λ e. no_answer _ _ e

pub returns-then-not-is_above_tip-clause-most : goal.returns-then-not-is_above_tip-clause-most
returns-then-not-is_above_tip-clause-most g c = omega arith

pub returns-clause-undamaged : goal.returns-clause-undamaged
returns-clause-undamaged g c kept height indexed ready live above fit damage =
    c.grown.ensures.undamaged height above
    (fits-parent kept height c.args.block.now c.args.joining.entry.parent c.args.state
    (joining-cells kept c.args.joining _ (sym (c.is_above_tip.ensures kept indexed) ∙ c.if-not-is_above_tip.false) live) fit) damage

pub returns-clause-live : goal.returns-clause-live
returns-clause-live g c kept indexed ready live =
    let high = sym (c.is_above_tip.ensures kept indexed) ∙ c.if-not-is_above_tip.false in
    move-else kept c.args.block.now c.args.joining c.len.result c.args.state c.grown.result indexed.is_kept ready (c.len.ensures.of_blocks kept indexed) high
    (joining-cells kept c.args.joining _ high live) c.grown.ensures.of_branch

pub returns-then-not-is_above_tip-clause-live : goal.returns-then-not-is_above_tip-clause-live
returns-then-not-is_above_tip-clause-live g c kept indexed ready live =
    let low = sym (c.is_above_tip.ensures kept indexed) ∙ c.if-not-is_above_tip.true in
    rows-stay kept c.args.block.now c.args.joining _ ready low (staying-cells kept c.args.joining _ low live)

pub returns-then-not-is_above_tip-clause-below : goal.returns-then-not-is_above_tip-clause-below
returns-then-not-is_above_tip-clause-below g c = λ _ _ are. are

pub returns-clause-below : goal.returns-clause-below
returns-clause-below g c = λ end less. c.grown.ensures.below end (omega (arith, less, c.len.ensures.len))

pub returns-then-not-is_above_tip-clause-exactly : goal.returns-then-not-is_above_tip-clause-exactly
returns-then-not-is_above_tip-clause-exactly g c = λ kept indexed.
    none-to-join kept c.args.joining c.args.steps.now (sym (c.is_above_tip.ensures kept indexed) ∙ c.if-not-is_above_tip.true)

pub returns-clause-exactly : goal.returns-clause-exactly
returns-clause-exactly g c = λ kept indexed.
    whole-also c.grown.result
    (one-to-join kept c.args.joining c.args.steps.now c.grown.new.steps (sym (c.is_above_tip.ensures kept indexed) ∙ c.if-not-is_above_tip.false))
    c.grown.ensures.exactly
