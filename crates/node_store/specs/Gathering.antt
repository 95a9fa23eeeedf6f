-- What is gathered of the blocks of a log as they are read.
use Rattle.std.specs.Prelude.{◌≡◌, ℕ, zero, suc, ◌-◌, ◌<◌, ◌==◌, ◌&&◌, Bool, false, List, length, slice_get, Option, Some, None, IsTrue, if◌then◌else◌}
use Rattle.chain_defs.specs.Schema.{OutPoint, Block}
use Rattle.chain_defs.specs.Dao.{is_rated}
use Rattle.chain_defs.specs.Specification.{Specification}
use Rattle.chain_defs.specs.Kept.{block_at}
use Rattle.chain_defs.specs.Ext.{count_at}
use Rattle.chain_defs.specs.Events.{events_of_block}
use Rattle.chain_defs.specs.Row.{row_after}
use Rattle.cell_state.specs.State.{StateValue, rows}
use Rattle.chain_tree.specs.declared.entry.Entry.{Entry}
use Rattle.chain_tree.specs.Told.{Stored, blocks_of}
use Rattle.disk_defs.specs.Log.{LogContent}
use Rattle.log_file.specs.Opening.{IsOpened}
use Rattle.uncle_rules.specs.Embedded.{UnclesValue, IndexesUncles}

-- an ext counts a fee for each transaction of its block after the first
abbrev pub counts_fees : Stored → Bool
counts_fees it = count_at it.ext 0 == length it.block.transactions - 1

-- A block with its ext fits at a place: it is rated, and but for the genesis its ext counts its fees.
abbrev pub fits_at : ℕ → Stored → Bool
fits_at zero it = is_rated it.block.header.dao
fits_at (suc place) it = is_rated it.block.header.dao && counts_fees it

-- so each does at its own place
abbrev pub FitInPlace : List Stored → Type 0
FitInPlace stored = (place : ℕ) (it : Stored) → slice_get stored place ≡ Some it → IsTrue (fits_at place it)

-- The block at this place is the first that does not fit there.
pub record IsFirstUnfit (stored : List Stored) (place : ℕ) : Type 0 where
  pub it : Stored
  pub there : slice_get stored place ≡ Some it
  pub wrong : fits_at place it ≡ false
  pub before : (earlier : ℕ) (other : Stored) → earlier < place → slice_get stored earlier ≡ Some other → IsTrue (fits_at earlier other)

-- the place of the first that does not fit, if one does not
abbrev pub IsUnfit : Option ℕ → List Stored → Type 0
IsUnfit None stored = FitInPlace stored
IsUnfit (Some place) stored = IsFirstUnfit stored place

-- the same where one more was read at this place
abbrev pub or_unfit : Option ℕ → Bool → ℕ → Option ℕ
or_unfit None fits place = if fits then None else Some place
or_unfit (Some first) fits place = Some first

-- A place in LOG is that of the body of the first block that does not fit: its entry names it.
pub record IsBodyOfUnfit (stored : List Stored) (entries : List Entry) (at : ℕ) : Type 0 where
  pub place : ℕ
  pub first : IsFirstUnfit stored place
  pub entry : Entry
  pub there : slice_get entries place ≡ Some entry
  pub named : at ≡ entry.at

-- LOG is a log, and this place in it is that of the body of its first block that does not fit.
pub record IsUnfitFrom (bytes : List ℕ) (at : ℕ) : Type 0 where
  pub log : LogContent
  pub specification : Specification
  pub stored : List Stored
  pub entries : List Entry
  pub opened : IsOpened bytes log specification stored entries
  pub unfit : IsBodyOfUnfit stored entries at

-- the live cells that a genesis leaves
abbrev pub AreLeftBy : Block → Option StateValue → Type 0
AreLeftBy genesis None = ⊥
AreLeftBy genesis (Some state) = (o : OutPoint) → rows state o ≡ row_after 0 (events_of_block 0 genesis) (λ _. None) o

-- So many blocks were read: their uncles, the live cells that the first of them leaves, and the place of the first that does not fit.
pub record IsGathered (stored : List Stored) (count : ℕ) (uncles : UnclesValue) (cells : Option StateValue) (unfit : Option ℕ) : Type 0 where
  pub counted : count ≡ length stored
  pub index : IndexesUncles (blocks_of stored) uncles
  pub left : (genesis : Block) → block_at (blocks_of stored) 0 ≡ Some genesis → AreLeftBy genesis cells
  pub fit : IsUnfit unfit stored
