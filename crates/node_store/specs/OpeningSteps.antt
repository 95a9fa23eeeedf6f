-- How many steps the live cells take as a store is opened (crates/node_store/README.md).
use Rattle.std.specs.Prelude.{ℕ, ◌+◌, List, Option, Some, None}
use Rattle.chain_defs.specs.Schema.{Block}
use Rattle.chain_defs.specs.Branch.{distance}
use Rattle.chain_defs.specs.Tip.{tip_place}
use Rattle.store_defs.specs.Store.{Store, NoLog, NotALog, Keeps, store_of}
use Rattle.outside.specs.declared.disk.Area.{Area}
use Rattle.outside.specs.Image.{Image, content}
use Rattle.snapshots.specs.Reading.{row_count}
use Rattle.node_store.specs.Snapshot.{newest, tip_in}

abbrev pub distance_to : List Block → ℕ → Option ℕ → ℕ
distance_to kept from None = 0
distance_to kept from (Some place) = distance kept from place

-- from the genesis to the tip
abbrev pub moves_to_tip : List Block → ℕ
moves_to_tip kept = distance_to kept 0 (tip_place kept)

-- from a snapshot: one for each row that its bytes count, and those from its tip to the tip
abbrev pub moves_from : List Block → List ℕ → ℕ
moves_from kept bytes = row_count bytes + distance_to kept (tip_in bytes) (tip_place kept)

-- by the area of the snapshot that is loaded, where there is one, and else from the genesis
abbrev pub moves_by : List Block → Image → Option Area → ℕ
moves_by kept image None = moves_to_tip kept
moves_by kept image (Some area) = moves_from kept (content area image)

abbrev pub moves_over : Image → Store → ℕ
moves_over image NoLog = 0
moves_over image NotALog = 0
moves_over image (Keeps chain) = moves_by chain.blocks image (newest image)

-- To open the store of an image: from the open snapshot with the greater number to the tip of what it keeps, or from the genesis.
abbrev pub moves_to_open : Image → ℕ
moves_to_open image = moves_over image (store_of image)
