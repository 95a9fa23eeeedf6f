-- What is written of a snapshot is what is read of it (docs/STORE.md, "A snapshot").
use Rattle.std.specs.Prelude.{◌≡◌, ℕ, true, List, length, Option, Some, None, Result, Ok, Err}
use Rattle.chain_defs.specs.Schema.{OutPoint}
use Rattle.chain_defs.specs.Row.{Row}
use Rattle.cell_state.specs.State.{StateValue, rows}
use Rattle.chain_tree.specs.declared.entry.Entry.{Entry}
use Rattle.outside.specs.declared.disk.Area.{Area}
use Rattle.outside.specs.declared.disk.ReadStop.{ReadStop}
use Rattle.outside.specs.declared.disk.ReadStop.TheVariants.{DiskFault, NoMemory, Damaged}
use Rattle.snapshots.specs.Rows.{IsHeld}
use Rattle.snapshots.specs.Reading.{AnswersSnapshot, has_tip}
use Rattle.snapshots.specs.Writing.{HoldsNew}

-- A snapshot of this number, tip and rows is answered, unless the disk failed or memory was out.
abbrev pub IsReadBack : ℕ → ℕ → (OutPoint → Option Row) → Result (Option (ℕ × ℕ × StateValue)) ReadStop → Type 0
IsReadBack number tip written (Ok None) = ⊥
IsReadBack number tip written (Ok (Some (found, place, state))) = (found ≡ number) × (place ≡ tip) × ((o : OutPoint) → rows state o ≡ written o)
IsReadBack number tip written (Err DiskFault) = Unit
IsReadBack number tip written (Err NoMemory) = Unit
IsReadBack number tip written (Err (Damaged damage)) = ⊥

-- Where bytes hold a snapshot that was written of rows, its tip stands in the tree and each row is one of its blocks, that snapshot is read of them.
abbrev pub ReadsWhatIsWritten : Type 0
ReadsWhatIsWritten = (area : Area) (entries : List Entry) (number tip : ℕ) (hash : List ℕ) (written : OutPoint → Option Row) (bytes : List ℕ) (before after : ℕ)
    (result : Result (Option (ℕ × ℕ × StateValue)) ReadStop) → HoldsNew number tip hash written bytes → has_tip entries tip hash ≡ true
    → ((o : OutPoint) (row : Row) → written o ≡ Some row → IsHeld (length entries) (o, row)) → AnswersSnapshot area entries bytes before after result
    → IsReadBack number tip written result
