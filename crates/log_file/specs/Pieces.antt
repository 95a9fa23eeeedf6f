-- The bytes that are written into a log.
use Rattle.std.specs.Prelude.{◌≡◌, ℕ, ◌+◌, ◌≤◌, max, List, [], ◌∷◌, ◌++◌, length}
use Rattle.std.specs.Int.{w32, to_le_bytes}
use Rattle.outside.specs.declared.disk.Area.TheVariants.{Log}
use Rattle.outside.specs.Image.{Image, InArea}
use Rattle.outside.specs.Disk.{ComesBy}
use Rattle.disk_defs.specs.Log.{Record, body_of_parts}
use Rattle.log_file.specs.declared.log.Rec.{Rec}

-- the record of a block with its ext
abbrev pub block_record : List ℕ → List ℕ → Record
block_record item ext = record { kind = 3; body = body_of_parts item ext }

-- What is written after a record's gate: the record, and after it a gate that is not open.
abbrev pub after_gate : Record → List ℕ
after_gate r = r.kind ∷ (to_le_bytes w32 (length r.body) ++ (r.body ++ 0 ∷ []))

-- how a record that begins at a place is named
abbrev pub Names : Rec → ℕ → Record → Type 0
Names rec place r = (rec.kind ≡ r.kind) × (rec.at ≡ place + 6) × (rec.len ≡ length r.body)

-- an image with the other areas of one of these, and with a log that is no longer than it was there, or than this
abbrev pub HasUpTo : ℕ → (Image → Type 0) → Image → Type 0
HasUpTo size images = ComesBy (InArea Log (λ old new. length new ≤ max (length old) size)) images
