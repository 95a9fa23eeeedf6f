use Rattle.std.proofs.Common.{length, ◌∙◌, ap, length-drop, refl, rules}
use Rattle.std.proofs.lemmas.List.{take_rest}
use Rattle.outside.proofs.Streams.{given_further}
use Rattle.outside.proofs.stream.read_full.Goals as goal

pub loop-given-preserved : goal.loop-given-preserved
loop-given-preserved g c =
    let read = c.in_ok-n.ensures in
    let into = c.loop-given.into in
    let n = c.loop-given.given in
    let size = c.read.auto.into ∙ ap length (take_rest into n) ∙ length-drop n into in
    given_further _ _ _ _ _ _ _ _ _ c.read.new.into c.loop-given.invariant size read.fits read.given (read.cause.unchanged refl)

pub returns-after-loop-given-clause-end : goal.returns-after-loop-given-clause-end
returns-after-loop-given-clause-end c = search rules
