use Rattle.std.proofs.Common.{◌≡◌, ℕ, ◌<◌, length, rules}
use Rattle.std.specs.Prelude.{slice_index}
use Rattle.chain_defs.specs.Schema.{header}
use Rattle.chain_defs.proofs.RowLaws.{header-check}
use Rattle.script_run.proofs.world.number_in.Goals as goal

pub from_encoding-requires : goal.from_encoding-requires
from_encoding-requires c =
    let small : (i : ℕ) → slice_index c.args.bytes.now i < 256 = search rules in
    let long : length c.args.bytes.now ≡ 208 = search rules in
    (header.decoding c.args.bytes.now, header-check.sound c.args.bytes.now small long)
