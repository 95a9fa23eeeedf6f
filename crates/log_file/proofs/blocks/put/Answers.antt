use Rattle.std.proofs.Common.{inr, refl, sym, subst, arith}
use Rattle.chain_tree.specs.Blocks.{IndexesBlocks}
use Rattle.chain_tree.specs.Told.{blocks_of}
use Rattle.log_file.proofs.Judging.{limit_is, kept_limit_is, as_many, blocks_more}
use Rattle.log_file.proofs.blocks.put.Goals as goal

pub returns-then-len-gt-RECORD_LIMIT-clause-wrong : goal.returns-then-len-gt-RECORD_LIMIT-clause-wrong
returns-then-len-gt-RECORD_LIMIT-clause-wrong g c =
    (refl, inr (omega (arith, c.len.ensures.of_blocks _ c.requires.blocks.indexed, c.if-len-gt-RECORD_LIMIT.true, limit_is)))

pub visit-requires-clause-few : goal.visit-requires-clause-few
visit-requires-clause-few g c =
    omega (
      arith,
      as_many (g.V.Visitor.visited c.args.visitor.now),
      c.len.ensures.of_blocks _ c.requires.blocks.indexed,
      c.if-len-gt-RECORD_LIMIT.false,
      kept_limit_is,
    )

pub returns-clause-blocks : goal.returns-clause-blocks
returns-clause-blocks g c =
    let old = g.V.Visitor.visited c.args.visitor.now in
    let found = c.in-Some.ensures.judged (blocks_of old) c.requires.blocks.indexed in
    blocks_more old _ _ _ _ c.requires.blocks found.holds.canonical found.holds.form c.in-Ok-visit.ensures
    (omega (arith, as_many old, c.len.ensures.of_blocks _ c.requires.blocks.indexed, c.if-len-gt-RECORD_LIMIT.false, kept_limit_is))
    (c.add.ensures.of_blocks (blocks_of old) _
    (subst (IndexesBlocks (blocks_of old)) (sym c.reserve.ensures.entries) c.requires.blocks.indexed) found.described found.parent)
