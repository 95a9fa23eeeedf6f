use Rattle.std.proofs.Common.{ap}
use Rattle.std.specs.Prelude.{Err}
use Rattle.serde_json.specs.View.{view}
use Rattle.json_blocks.proofs.FromText.{of_tree, of_no_tree}
use Rattle.json_blocks.proofs.read.read_text.Goals as goal

pub returns-in-Ok : goal.returns-in-Ok
returns-in-Ok g c = of_tree g.I.Item.reads_as c.args.text.now (view c.in-Ok.value) c.in-Ok.ensures.found.0 c.in-Ok.ensures.found.1 c.read.result c.read.ensures

pub returns-in-Err : goal.returns-in-Err
returns-in-Err g c = of_no_tree g.I.Item.reads_as c.args.text.now c.in-Err.stop (λ e. c.in-Err.ensures.only (ap Err e))
