use Rattle.ckbhash.proofs.KnownInput.{HoldsGiven}
use Rattle.ckbhash.proofs.checksum.digest_of.Given as goal

abbrev pub invariant-pieces : goal.invariant-pieces
invariant-pieces g l = HoldsGiven (g.R.Read.remaining l.initial.input) (g.R.Read.remaining l.input) l.hasher
