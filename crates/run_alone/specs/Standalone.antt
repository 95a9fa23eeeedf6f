-- The parts of a command without a store: the file that was read.
use Rattle.std.specs.Prelude.{◌≡◌, ℕ, ◌+◌, ◌≤◌, List, length, Option}
use Rattle.std.specs.Io.KnownBytes.{IsAtEnd}
use Rattle.report_defs.specs.declared.status.Status.{Status}
use Rattle.run_text.specs.Items.{IsReadingStop}

-- the input was read as a file of at most so many bytes: to its end, or a byte past the longest file
pub record IsFile (limit : ℕ) (left : Option (List ℕ)) (file given : List ℕ) : Type 0 where
  pub same : given ≡ file
  pub most : length file ≤ limit + 1
  pub to_end : length file ≤ limit → IsAtEnd left

-- the reading was stopped, by a fault or missing memory, within the longest file
pub record IsUnread (limit : ℕ) (status : Status) (given : List ℕ) : Type 0 where
  pub stop : IsReadingStop status
  pub most : length given ≤ limit
