-- What LOG says of the kept blocks, each at the place that its entry names (docs/STORE.md, "The log" and "Kept blocks read by their places").
use Rattle.std.specs.Prelude.{◌≡◌, ℕ, zero, suc, ◌<◌, ◌==◌, List, [], ◌∷◌, All, length, take, drop, slice_get, Option, Some, None, IfSome, IsTrue, if◌then◌else◌}
use Rattle.std.specs.Option.{option_map, option_and_then}
use Rattle.std.proofs.Common.{refl, ap}
use Rattle.chain_defs.specs.Shape.{encoded, decoded}
use Rattle.chain_defs.specs.Schema.{Block, block}
use Rattle.chain_defs.specs.Ext.{is_ext}
use Rattle.outside.specs.Image.{Image}
use Rattle.disk_defs.specs.Log.{Record, parts_of_body}
use Rattle.disk_defs.specs.LogLaws.{HasFittingBody}
use Rattle.log_file.specs.Pieces.{block_record}
use Rattle.log_file.specs.Opening.{kept_records}
use Rattle.chain_tree.specs.Told.{Stored}
use Rattle.chain_tree.specs.declared.entry.Entry.{Entry}
use Rattle.chain_tree.specs.Entries.{entry_at}

-- the bytes, where they are so many
abbrev pub of_length : ℕ → List ℕ → Option (List ℕ)
of_length len bytes = if length bytes == len then Some bytes else None

-- the body that an entry names: the bytes of LOG at its place, where there are as many as it says
abbrev pub body_at : Image → Entry → Option (List ℕ)
body_at image entry = of_length entry.len (take entry.len (drop entry.at image.log))

-- a block and its ext, where the ext has the form of one
abbrev pub with_ext : List ℕ × List ℕ → Option (List ℕ × List ℕ)
with_ext parts = if is_ext parts.1 then Some parts else None

-- The block and the ext in the body of the entry at a place. That of the genesis, which is the first, is the block alone.
abbrev pub parts_in : ℕ → List ℕ → Option (List ℕ × List ℕ)
parts_in zero body = Some (body, [])
parts_in (suc place) body = option_and_then with_ext (parts_of_body body)

abbrev pub beside : List ℕ → Block → Stored
beside ext b = record { block = b; ext = ext }

-- the kept block with its ext in such a body, where the block is canonical
abbrev pub stored_in : ℕ → List ℕ → Option Stored
stored_in place body = option_and_then (λ parts. option_map (beside parts.1) (decoded block parts.0)) (parts_in place body)

-- the one that LOG has for the entry at a place
abbrev pub stored_of : Image → ℕ → Entry → Option Stored
stored_of image place entry = option_and_then (stored_in place) (body_at image entry)

abbrev pub stored_at : Image → List Entry → ℕ → Option Stored
stored_at image entries place = option_and_then (stored_of image place) (entry_at entries place)

abbrev pub put_first : Option Stored → Option (List Stored) → Option (List Stored)
put_first None later = None
put_first (Some it) None = None
put_first (Some it) (Some later) = Some (it ∷ later)

-- those of entries from a place on, where LOG has one for each
abbrev pub all_stored : Image → ℕ → List Entry → Option (List Stored)
all_stored image place [] = Some []
all_stored image place (entry ∷ entries) = put_first (stored_of image place entry) (all_stored image (suc place) entries)

-- the kept blocks with their exts that a disk tells for the entries of a tree
abbrev pub known_by : Option Image → List Entry → Option (List Stored)
known_by reads entries = option_and_then (λ image. all_stored image 0 entries) reads

-- ---- The same of records

-- the kept blocks with their exts in records from a place on, where each has one
abbrev pub all_in : ℕ → List Record → Option (List Stored)
all_in place [] = Some []
all_in place (r ∷ records) = put_first (stored_in place r.body) (all_in (suc place) records)

-- Those in the records of a log after that of its specification: first the genesis.
abbrev pub known_in : List Record → Option (List Stored)
known_in records = all_in 0 records

-- the record of a kept block after the genesis
abbrev pub later_record : Stored → Record
later_record it = block_record (encoded block it.block) it.ext

-- A log can keep them: each block is the one that its bytes encode, the length of each record's body fits its four bytes, no byte stands for the
-- ext of the genesis, and each other ext has the form of one.
pub record CanBeKept (stored : List Stored) : Type 0 where
  pub canonical : (place : ℕ) (it : Stored) → slice_get stored place ≡ Some it → decoded block (encoded block it.block) ≡ Some it.block
  pub fit : All HasFittingBody (kept_records stored)
  pub genesis : IfSome (slice_get stored 0) (λ it. it.ext ≡ [])
  pub forms : (place : ℕ) (it : Stored) → 0 < place → slice_get stored place ≡ Some it → IsTrue (is_ext it.ext)

-- ---- As many as there are entries

pub put_first-length : (count : ℕ) (first : Option Stored) (later : Option (List Stored)) → IfSome later (λ stored. length stored ≡ count)
    → IfSome (put_first first later) (λ stored. length stored ≡ suc count)
put_first-length count None later as_many = tt
put_first-length count (Some it) None as_many = tt
put_first-length count (Some it) (Some later) as_many = ap suc as_many

pub all_stored-length : (image : Image) (place : ℕ) (entries : List Entry) → IfSome (all_stored image place entries) (λ stored. length stored ≡ length entries)
all_stored-length image place [] = refl
all_stored-length image place (entry ∷ entries) =
    put_first-length (length entries) (stored_of image place entry) (all_stored image (suc place) entries) (all_stored-length image (suc place) entries)

pub tells_all : (reads : Option Image) (entries : List Entry) → IfSome (known_by reads entries) (λ stored. length stored ≡ length entries)
tells_all None entries = tt
tells_all (Some image) entries = all_stored-length image 0 entries
