use Rattle.ckbhash.proofs.KnownInput.{OnOk_line}
use Rattle.ckbhash.proofs.checksum.print_checksum.Goals as goal

pub returns : goal.returns
returns g c =
    OnOk_line c.write_all.result (g.R.Read.remaining c.args.input.now) _ _ c.in_ok-digest.digest _ c.in_ok-digest.ensures
    c.line_of-line.ensures c.write_all.ensures.bytes
