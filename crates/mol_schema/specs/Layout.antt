-- The reading rules of RFC 0008, by the numbers in the header.
use Rattle.std.specs.Prelude.{◌≡◌, ℕ, ◌+◌, ◌*◌, ◌<◌, ◌≤◌, List, length}
use Rattle.chain_defs.specs.Molecule.{header_number, part_count, part_start}

-- The full size is that of the slice, the first offset is the size of the header, and no offset is above the next one or the end.
pub record IsLaidOut (bytes : List ℕ) : Type 0 where
  pub whole : 4 ≤ length bytes
  pub size : header_number bytes 0 ≡ length bytes
  pub header : part_start bytes 0 ≡ 4 + 4 * part_count bytes
  pub rises : (i : ℕ) → i < part_count bytes → part_start bytes i ≤ part_start bytes (i + 1)

-- A fixvec is a count and so many items, with nothing after them.
pub record IsCounted (size : ℕ) (bytes : List ℕ) : Type 0 where
  pub whole : 4 ≤ length bytes
  pub count : length bytes ≡ 4 + header_number bytes 0 * size
