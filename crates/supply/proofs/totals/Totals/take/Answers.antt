use Rattle.std.proofs.Common.{◌≡◌, ◌+◌, ◌<◌, List, length, Some, None, sym, ap, subst, ◌∙◌, arith}
use Rattle.std.proofs.lemmas.Option.{same_Some}
use Rattle.chain_defs.specs.Schema.{Block}
use Rattle.chain_defs.specs.Branch.{branch}
use Rattle.chain_defs.proofs.KeptLaws.{slice_get-below}
use Rattle.outside.specs.declared.disk.ReadStop.{ReadStop}
use Rattle.outside.proofs.Endings.{handed}
use Rattle.chain_tree.specs.Told.{blocks_of}
use Rattle.chain_tree.proofs.BlockLemmas.{len-same}
use Rattle.chain_tree.proofs.ReadLemmas.{same_stop}
use Rattle.supply_defs.specs.Sums.{sums_of}
use Rattle.supply_defs.specs.Step.{Step, MovesBy, step_of}
use Rattle.supply.specs.Moving.{step_back}
use Rattle.supply.specs.Standing.{AreTotalsOf}
use Rattle.supply.proofs.StepLemmas.{leads, reached, stands, back}
use Rattle.supply.proofs.totals.Totals.take.Goals as goal

pub returns-in-Err-clause-of_block : goal.returns-in-Err-clause-of_block
returns-in-Err-clause-of_block g c stored tells damage same = c.in-Err.ensures.of_block stored tells damage (handed c.in-Err.stop _ same)

pub returns-in-None-clause-of_block : goal.returns-in-None-clause-of_block
returns-in-None-clause-of_block g c stored tells damage same =
    let is = same_stop _ _ same in
    (c.damaged_at.ensures.read.damage damage (ap (λ (stop : ReadStop). Some stop) is), (c.args.e, c.damaged_at.ensures.at_record damage is))

pub returns-in-None-clause-taken : goal.returns-in-None-clause-taken
returns-in-None-clause-taken g c stored parent have on from =
    let kept : List Block = blocks_of stored in
    let within : c.args.e < length kept = let long = len-same kept c.args.tree.now.entries have.known.indexes in omega (arith, c.requires.within, long) in
    let b = slice_get-below kept c.args.e within in
    let child = slice_get-below c.args.tree.now.entries c.args.e c.requires.within in
    let law = leads c.args.spec.now (g.B.Blocks.told c.args.blocks.now) c.args.tree.now.entries stored c.args.e parent child.0 b.0 have
    c.in-Ok.ensures.window c.requires.later child.1 b.1 on in
    let moves : MovesBy c.back.result (sums_of c.args.spec.now (branch kept c.args.e)) (sums_of c.args.spec.now (branch kept parent)) =
    subst (λ (s : Step). MovesBy s (sums_of c.args.spec.now (branch kept c.args.e)) (sums_of c.args.spec.now (branch kept parent)))
    (sym (c.back.ensures ∙ ap step_back (c.in-Ok.ensures.step stored parent b.0 have on b.1)))
    (back (step_of c.args.spec.now (branch kept parent) b.0) (sums_of c.args.spec.now (branch kept parent)) (sums_of c.args.spec.now (branch kept c.args.e)) law.moves) in
    let next : child.0.number ≡ c.entry.result.now.number + 1 = c.parent_at.ensures.next child.0 c.entry.result.now child.1 c.entry.ensures.entry in
    let long : c.entry.result.now.number + 1 ≡ length (branch kept parent) = sym next ∙ law.height in
    let none = reached None c.back.result (sums_of c.args.spec.now (branch kept c.args.e)) (sums_of c.args.spec.now (branch kept parent)) c.args.self.now c.entry.result.now.number
    c.in-None.ensures.after from.sums moves law.small_before in
    absurd (cc)

pub returns-clause-taken : goal.returns-clause-taken
returns-clause-taken g c stored parent have on from =
    let kept : List Block = blocks_of stored in
    let within : c.args.e < length kept = let long = len-same kept c.args.tree.now.entries have.known.indexes in omega (arith, c.requires.within, long) in
    let b = slice_get-below kept c.args.e within in
    let child = slice_get-below c.args.tree.now.entries c.args.e c.requires.within in
    let law = leads c.args.spec.now (g.B.Blocks.told c.args.blocks.now) c.args.tree.now.entries stored c.args.e parent child.0 b.0 have
    c.in-Ok.ensures.window c.requires.later child.1 b.1 on in
    let moves : MovesBy c.back.result (sums_of c.args.spec.now (branch kept c.args.e)) (sums_of c.args.spec.now (branch kept parent)) =
    subst (λ (s : Step). MovesBy s (sums_of c.args.spec.now (branch kept c.args.e)) (sums_of c.args.spec.now (branch kept parent)))
    (sym (c.back.ensures ∙ ap step_back (c.in-Ok.ensures.step stored parent b.0 have on b.1)))
    (back (step_of c.args.spec.now (branch kept parent) b.0) (sums_of c.args.spec.now (branch kept parent)) (sums_of c.args.spec.now (branch kept c.args.e)) law.moves) in
    let next : child.0.number ≡ c.entry.result.now.number + 1 = c.parent_at.ensures.next child.0 c.entry.result.now child.1 c.entry.ensures.entry in
    let long : c.entry.result.now.number + 1 ≡ length (branch kept parent) = sym next ∙ law.height in
    let is = same_Some _ _ (reached (Some c.in-Some.after) c.back.result (sums_of c.args.spec.now (branch kept c.args.e)) (sums_of c.args.spec.now (branch kept parent)) c.args.self.now c.entry.result.now.number
    c.in-Some.ensures.after from.sums moves law.small_before) in
    subst (AreTotalsOf c.args.spec.now (branch kept parent)) (sym is) (stands c.args.spec.now (branch kept parent) c.entry.result.now.number long)
