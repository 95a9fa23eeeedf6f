-- What a `MemDisk` stores of its areas: with each the end that was cut and not synced.
use Rattle.std.specs.Prelude.{◌≡◌, ◌+◌, ℕ, min, max, List, [], length, take}
use Rattle.outside.specs.declared.disk.Area.{Area}
use Rattle.outside.specs.declared.disk.Area.TheVariants.{Log, SnapA, SnapB}
use Rattle.outside.specs.Image.{Image}
use Rattle.outside.specs.Disk.{written}

-- the bytes of one area
pub record Stored : Type 0 where
  -- with the end that was cut since the last sync
  pub bytes : List ℕ
  -- how many of them it reads as
  pub len : ℕ
  -- how many of them a crash leaves at least
  pub least : ℕ

abbrev pub shown : Stored → List ℕ
shown stored = take stored.len stored.bytes

abbrev pub nothing : Stored
nothing = record { bytes = []; len = 0; least = 0 }

abbrev pub after_write : ℕ → List ℕ → Stored → Stored
after_write at piece stored = record { bytes = written at piece stored.bytes; len = max stored.len (at + length piece); least = stored.least }

-- after a cut to `len` that left so many bytes more
abbrev pub after_cut : ℕ → ℕ → Stored → Stored
after_cut len left stored = record { bytes = stored.bytes; len = min stored.len (len + left); least = min stored.least len }

abbrev pub after_sync : Stored → Stored
after_sync stored = record { bytes = shown stored; len = stored.len; least = stored.len }

-- it has one length, and no cut end
abbrev pub IsSettled : Stored → Type 0
IsSettled stored = (stored.len ≡ length stored.bytes) × (stored.least ≡ length stored.bytes)

-- the three areas
pub record Parts : Type 0 where
  pub log : Stored
  pub snap_a : Stored
  pub snap_b : Stored

abbrev pub part : Area → Parts → Stored
part Log parts = parts.log
part SnapA parts = parts.snap_a
part SnapB parts = parts.snap_b

abbrev pub with_part : Area → Stored → Parts → Parts
with_part Log stored parts = record parts { log = stored }
with_part SnapA stored parts = record parts { snap_a = stored }
with_part SnapB stored parts = record parts { snap_b = stored }

abbrev pub image_of : Parts → Image
image_of parts = record { log = shown parts.log; snap_a = shown parts.snap_a; snap_b = shown parts.snap_b }
