use Rattle.std.proofs.Common.{◌<◌, List, length, Some, None, sym, ap, subst, arith}
use Rattle.std.proofs.lemmas.Option.{same_Some}
use Rattle.chain_defs.specs.Schema.{Block}
use Rattle.chain_defs.specs.Branch.{branch}
use Rattle.chain_defs.proofs.KeptLaws.{slice_get-below}
use Rattle.outside.specs.declared.disk.ReadStop.{ReadStop}
use Rattle.outside.proofs.Endings.{handed}
use Rattle.chain_tree.specs.Told.{blocks_of}
use Rattle.chain_tree.proofs.BlockLemmas.{len-same}
use Rattle.chain_tree.proofs.ReadLemmas.{same_stop}
use Rattle.supply_defs.specs.Sums.{sums_of}
use Rattle.supply_defs.specs.Step.{Step, MovesBy}
use Rattle.supply.specs.Standing.{AreTotalsOf}
use Rattle.supply.proofs.StepLemmas.{leads, reached, stands}
use Rattle.supply.proofs.totals.Totals.add.Goals as goal

pub returns-in-Err-clause-of_block : goal.returns-in-Err-clause-of_block
returns-in-Err-clause-of_block g c stored tells damage same = c.in-Err.ensures.of_block stored tells damage (handed c.in-Err.stop _ same)

pub returns-in-None-clause-of_block : goal.returns-in-None-clause-of_block
returns-in-None-clause-of_block g c stored tells damage same =
    let is = same_stop _ _ same in
    (c.damaged_at.ensures.read.damage damage (ap (λ (stop : ReadStop). Some stop) is), (c.args.e, c.damaged_at.ensures.at_record damage is))

pub returns-in-None-clause-added : goal.returns-in-None-clause-added
returns-in-None-clause-added g c stored parent have on from =
    let kept : List Block = blocks_of stored in
    let within : c.args.e < length kept = let long = len-same kept c.args.tree.now.entries have.known.indexes in omega (arith, c.requires.within, long) in
    let b = slice_get-below kept c.args.e within in
    let law = leads c.args.spec.now (g.B.Blocks.told c.args.blocks.now) c.args.tree.now.entries stored c.args.e parent c.entry.result.now b.0 have
    c.in-Ok.ensures.window c.requires.later c.entry.ensures.entry b.1 on in
    let moves : MovesBy c.in-Ok.step (sums_of c.args.spec.now (branch kept parent)) (sums_of c.args.spec.now (branch kept c.args.e)) =
    subst (λ (s : Step). MovesBy s (sums_of c.args.spec.now (branch kept parent)) (sums_of c.args.spec.now (branch kept c.args.e)))
    (sym (c.in-Ok.ensures.step stored parent b.0 have on b.1)) law.moves in
    let none = reached None c.in-Ok.step (sums_of c.args.spec.now (branch kept parent)) (sums_of c.args.spec.now (branch kept c.args.e)) c.args.self.now c.entry.result.now.number
    c.in-None.ensures.after from.sums moves law.small_after in
    absurd (cc)

pub returns-clause-added : goal.returns-clause-added
returns-clause-added g c stored parent have on from =
    let kept : List Block = blocks_of stored in
    let within : c.args.e < length kept = let long = len-same kept c.args.tree.now.entries have.known.indexes in omega (arith, c.requires.within, long) in
    let b = slice_get-below kept c.args.e within in
    let law = leads c.args.spec.now (g.B.Blocks.told c.args.blocks.now) c.args.tree.now.entries stored c.args.e parent c.entry.result.now b.0 have
    c.in-Ok.ensures.window c.requires.later c.entry.ensures.entry b.1 on in
    let moves : MovesBy c.in-Ok.step (sums_of c.args.spec.now (branch kept parent)) (sums_of c.args.spec.now (branch kept c.args.e)) =
    subst (λ (s : Step). MovesBy s (sums_of c.args.spec.now (branch kept parent)) (sums_of c.args.spec.now (branch kept c.args.e)))
    (sym (c.in-Ok.ensures.step stored parent b.0 have on b.1)) law.moves in
    let is = same_Some _ _ (reached (Some c.in-Some.after) c.in-Ok.step (sums_of c.args.spec.now (branch kept parent)) (sums_of c.args.spec.now (branch kept c.args.e)) c.args.self.now c.entry.result.now.number
    c.in-Some.ensures.after from.sums moves law.small_after) in
    subst (AreTotalsOf c.args.spec.now (branch kept c.args.e)) (sym is) (stands c.args.spec.now (branch kept c.args.e) c.entry.result.now.number law.grown)
