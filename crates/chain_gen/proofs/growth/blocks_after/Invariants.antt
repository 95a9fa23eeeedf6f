use Rattle.std.proofs.Common.{◌≡◌, map}
use Rattle.chain_defs.specs.Shape.{encoded}
use Rattle.chain_defs.specs.Schema as schema
use Rattle.gen_defs.specs.Chain as chain
use Rattle.chain_gen.specs.Walk as walks
use Rattle.chain_gen.proofs.growth.blocks_after.Given as goal

abbrev pub invariant-growing : goal.invariant-growing
invariant-growing l = record {
  at : walks.IsAt l.walk.standing l.walk.after.items l.seed l.i;
  blocks : map (λ bytes. bytes.items) l.blocks.items ≡ map (encoded schema.block) (chain.blocks_made l.seed l.i);
}
