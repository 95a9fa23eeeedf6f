use Rattle.std.proofs.Common.{◌≡◌, drop, length}
use Rattle.std.specs.Int.{w32, to_le_bytes}
use Rattle.serde_json.specs.View.{items_view}
use Rattle.json_blocks.specs.Reading.{items_at}
use Rattle.json_blocks.proofs.Encodings.{flat}
use Rattle.json_blocks.proofs.lists.FixvecItem.read.Given as goal

-- the bytes so far, and the encodings of the items that are left
abbrev pub invariant-items : goal.invariant-items
invariant-items g l =
    flat l.fixvec.items (items_at g.I.Item.reads_as (items_view (drop l.item-index l.items)))
    ≡ flat (to_le_bytes w32 (length l.items)) (items_at g.I.Item.reads_as (items_view l.items))
