use Rattle.std.proofs.Common.{◌-◌, ◌^◌, length, ◌∙◌, ap, length-drop}
use Rattle.std.proofs.lemmas.List.{take_rest}
use Rattle.outside_os.proofs.Transfers.{read_further}
use Rattle.outside_os.proofs.pieces.read_full.Goals as goal

pub loop-given-preserved : goal.loop-given-preserved
loop-given-preserved g c =
    let read = c.in-Ok.ensures in
    let into = c.loop-given.into in
    let n = c.loop-given.given in
    let size = c.read_some.auto.into ∙ ap length (take_rest into n) ∙ length-drop n into in
    read_further _ _ _ _ _ _ _ _ (2 ^ 64 - 1) _ _ _ c.read_some.new.into c.loop-given.invariant size read.fits c.saturating_add-place.ensures read.within_word read.given read.same read.later
