use Rattle.std.proofs.Common.{[], take, arith}
use Rattle.ckbhash.proofs.KnownInput.{Consumes_none, HoldsGiven_end, HoldsGiven_next}
use Rattle.ckbhash.proofs.checksum.digest_of.Goals as goal

pub pieces-init : goal.pieces-init
pieces-init g c = ([], (c.new-hasher.ensures, Consumes_none _))

pub pieces-preserved : goal.pieces-preserved
pieces-preserved g c =
    HoldsGiven_next _ (g.R.Read.remaining c.pieces.input) _ c.pieces.hasher _ (take c.in_ok-count.count c.read.new.buf) c.pieces.invariant
    c.in_ok-count.ensures.bytes.0 c.update.ensures

pub returns-then-count-eq0 : goal.returns-then-count-eq0
returns-then-count-eq0 g c =
    HoldsGiven_end _ (g.R.Read.remaining c.pieces.input) _ c.pieces.hasher _ c.pieces.invariant
    (rw c.if-count-eq0.true at c.in_ok-count.ensures.bytes.0) (c.in_ok-count.ensures.bytes.1 c.if-count-eq0.true (omega arith)) c.finalize.ensures
