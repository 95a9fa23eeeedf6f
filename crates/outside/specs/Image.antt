-- The bytes of a disk's three areas (docs/STORE.md).
use Rattle.std.specs.Prelude.{◌≡◌, ℕ, List}
use Rattle.outside.specs.declared.disk.Area.{Area}
use Rattle.outside.specs.declared.disk.Area.TheVariants.{Log, SnapA, SnapB}

pub record Image : Type 0 where
  pub log : List ℕ
  pub snap_a : List ℕ
  pub snap_b : List ℕ

-- the bytes of one area
abbrev pub content : Area → Image → List ℕ
content Log image = image.log
content SnapA image = image.snap_a
content SnapB image = image.snap_b

-- the image with other bytes in one area
abbrev pub with_content : Area → List ℕ → Image → Image
with_content Log bytes image = record image { log = bytes }
with_content SnapA bytes image = record image { snap_a = bytes }
with_content SnapB bytes image = record image { snap_b = bytes }

-- new is old after this step in one area, with the other areas as they were
abbrev pub InArea : Area → (List ℕ → List ℕ → Type 0) → Image → Image → Type 0
InArea area step old new = (bytes : List ℕ) × step (content area old) bytes × (new ≡ with_content area bytes old)
