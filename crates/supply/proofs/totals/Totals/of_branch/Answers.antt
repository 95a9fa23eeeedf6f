use Rattle.std.proofs.Common.{◌≡◌, ◌<◌, List, [], ◌∷◌, length, sym, ap, subst, ◌∙◌, arith}
use Rattle.chain_defs.specs.Schema.{Block}
use Rattle.chain_defs.specs.First.{first_failing}
use Rattle.chain_defs.proofs.KeptLaws.{slice_get-below}
use Rattle.outside.proofs.Endings.{handed}
use Rattle.chain_tree.specs.Told.{blocks_of}
use Rattle.chain_tree.proofs.BlockLemmas.{len-same}
use Rattle.chain_tree.proofs.ReadLemmas.{read_on}
use Rattle.rule_defs.specs.Genesis.{genesis_rules}
use Rattle.supply.specs.Standing.{AreTotalsOf}
use Rattle.supply.proofs.KeptLemmas.{read-is, later-place}
use Rattle.supply.proofs.StepLemmas.{joined-still}
use Rattle.supply.proofs.WalkLemmas.{walk-first, walks-to, walk-whole}
use Rattle.supply.proofs.totals.Totals.of_branch.Goals as goal

pub overflow_add-end : goal.overflow_add-end
overflow_add-end g c = let few = c.len.ensures.tree.few in let number = c.entry.ensures.number in omega (arith, few, number)

pub heights-init : goal.heights-init
heights-init g c = record {
  read = c.in-Ok.ensures.read;
  bounded = c.genesis-totals.ensures.bounded;
  totals = λ stored have.
      let kept : List Block = blocks_of stored in
      let within : c.args.e < length kept = let long = len-same kept c.args.tree.now.entries have.known.indexes in omega (arith, c.requires.within, long) in
      let is : c.block.result ≡ have.joined.genesis =
      read-is (g.B.Blocks.told c.args.blocks.now) _ stored 0 have.joined.genesis c.block.result _ have.known.is c.in-Ok.ensures.read.told c.in-Ok.ensures.taken
      have.joined.first c.block.ensures in
      subst (λ (blocks : List Block). AreTotalsOf c.args.spec.now blocks c.genesis-totals.result)
      (ap (λ (b : Block). b ∷ []) is ∙ sym (walk-first kept c.args.e have.joined.genesis have.known.indexes.is_kept within have.joined.first))
      (c.genesis-totals.ensures.of_genesis c.args.spec.now (ap (λ (b : Block). first_failing (genesis_rules b)) is ∙ have.joined.good));
}

pub add-requires-clause-later : goal.add-requires-clause-later
add-requires-clause-later g c =
    later-place c.args.tree.now.entries c.ancestor.result c.heights.height c.len.ensures.tree c.ancestor.ensures.number (c.heights.auto.height)

pub returns-in-Err-add-clause-of_block : goal.returns-in-Err-add-clause-of_block
returns-in-Err-add-clause-of_block g c stored tells damage same =
    c.in-Err-add.ensures.of_block stored (c.heights.invariant.read.told ∙ tells) damage (handed c.in-Err-add.stop _ same)

pub returns-in-Err-add-clause-totals : goal.returns-in-Err-add-clause-totals
returns-in-Err-add-clause-totals g c stored have =
    let kept : List Block = blocks_of stored in
    let within : c.args.e < length kept = let long = len-same kept c.args.tree.now.entries have.known.indexes in omega (arith, c.requires.within, long) in
    let entry = slice_get-below c.args.tree.now.entries c.ancestor.result c.ancestor.ensures.within in
    let later = later-place c.args.tree.now.entries c.ancestor.result c.heights.height c.len.ensures.tree c.ancestor.ensures.number (c.heights.auto.height) in
    let walk = walks-to kept c.args.tree.now.entries c.args.e c.heights.height c.ancestor.result entry.0 have.known.indexes within
    (c.ancestor.ensures.of_blocks kept have.known.indexes) entry.1 later in
    c.in-Err-add.ensures.added stored walk.parent (joined-still c.heights.invariant.read.told have) walk.on
    (subst (λ (blocks : List Block). AreTotalsOf c.args.spec.now blocks c.heights.totals) walk.before (c.heights.invariant.totals stored have))

pub heights-preserved : goal.heights-preserved
heights-preserved g c = record {
  read = read_on c.heights.invariant.read c.in-Ok-add.ensures.read;
  bounded = c.in-Ok-add.ensures.bounded;
  totals = λ stored have.
      let kept : List Block = blocks_of stored in
      let within : c.args.e < length kept = let long = len-same kept c.args.tree.now.entries have.known.indexes in omega (arith, c.requires.within, long) in
      let entry = slice_get-below c.args.tree.now.entries c.ancestor.result c.ancestor.ensures.within in
      let later = later-place c.args.tree.now.entries c.ancestor.result c.heights.height c.len.ensures.tree c.ancestor.ensures.number (c.heights.auto.height) in
      let walk = walks-to kept c.args.tree.now.entries c.args.e c.heights.height c.ancestor.result entry.0 have.known.indexes within
      (c.ancestor.ensures.of_blocks kept have.known.indexes) entry.1 later in
      subst (λ (blocks : List Block). AreTotalsOf c.args.spec.now blocks c.add.new.self) (sym walk.after)
      (c.in-Ok-add.ensures.added stored walk.parent (joined-still c.heights.invariant.read.told have) walk.on
      (subst (λ (blocks : List Block). AreTotalsOf c.args.spec.now blocks c.heights.totals) walk.before (c.heights.invariant.totals stored have)));
}

pub returns-clause-totals : goal.returns-clause-totals
returns-clause-totals g c stored have =
    let past = c.heights-test.false in
    subst (λ (blocks : List Block). AreTotalsOf c.args.spec.now blocks c.heights.totals)
    (walk-whole (blocks_of stored) c.args.tree.now.entries c.args.e c.entry.result.now c.heights.height have.known.indexes c.entry.ensures.entry (omega (arith, past)))
    (c.heights.invariant.totals stored have)
