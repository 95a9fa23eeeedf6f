use Rattle.std.proofs.Common.{ap}
use Rattle.json_defs.specs.Form.{byte_string}
use Rattle.json_defs.specs.Blocks.{uncle}
use Rattle.json_defs.specs.Blocks as form
use Rattle.json_blocks.proofs.RowTexts.{first_row, next_row, no_row, same_row, listed}
use Rattle.json_blocks.proofs.objects.UncleViewWritten.write.Goals as goal

pub returns : goal.returns
unfolding uncle
returns c =
    first_row (same_row (ap (form.header.tree) c.header.ensures) c.row.ensures)
    (next_row (listed (byte_string.tree) c.args.self.now.proposals c.list_row.ensures)
    (no_row c.put.ensures))
