use Rattle.std.proofs.Common.{◌≡◌, drop}
use Rattle.serde_json.specs.View.{items_view}
use Rattle.json_blocks.specs.Reading.{items_at}
use Rattle.json_blocks.proofs.Encodings.{onto}
use Rattle.json_blocks.proofs.lists.DynvecItem.read.Given as goal

-- the encodings so far, and those of the items that are left
abbrev pub invariant-items : goal.invariant-items
invariant-items g l = onto l.dynvec (items_at g.I.Item.reads_as (items_view (drop l.item-index l.items))) ≡ items_at g.I.Item.reads_as (items_view l.items)
