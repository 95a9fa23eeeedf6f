use Rattle.std.proofs.Common.{◌≡◌}
use Rattle.serde_json.specs.View.{members_view}
use Rattle.json_defs.specs.Form.{without}
use Rattle.json_defs.specs.Blocks.{free_key}
use Rattle.json_blocks.proofs.reading.take_beside.Given as goal

-- those passed over are of the free key
abbrev pub invariant-members : goal.invariant-members
invariant-members l = without free_key (members_view l.members) ≡ without free_key (members_view l.initial.members)
