use Rattle.chain_gen.proofs.Walking.{head_is}
use Rattle.chain_gen.proofs.growth.head_of.Goals as goal

pub returns : goal.returns
returns c = λ b b_is. head_is b c.args.fields.now _ _ c.requires c.ckbhash.ensures b_is
