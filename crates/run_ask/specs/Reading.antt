-- A line that is read: which bytes the source gave for it.
use Rattle.std.specs.Prelude.{◌≡◌, ℕ, ◌+◌, ◌<◌, ◌≤◌, List, [], ◌∷◌, ◌++◌, length, ◌==◌, Option, Some, None, Result, Ok, Err, Vec, if◌then◌else◌}
use Rattle.std.specs.declared.alloc.Global.{Global}
use Rattle.std.specs.Io.KnownBytes.{IsAtEnd}
use Rattle.report_defs.specs.declared.status.Status.{Status}
use Rattle.report_defs.specs.declared.status.Status.TheVariants.{InputFault}
use Rattle.run_text.specs.Items.{IsReadingStop}
use Rattle.ask_defs.specs.Lines.{line_limit, has_no_feed, IsLine}
use Rattle.run_ask.specs.declared.next.NextLine.{NextLine}
use Rattle.run_ask.specs.declared.next.NextLine.TheVariants.{Line, Last, End, TooLong}

abbrev pub IsNextByte : Option (List ℕ) → Result (Option ℕ) Status → List ℕ → Type 0
IsNextByte left (Ok (Some byte)) given = given ≡ byte ∷ []
IsNextByte left (Ok None) given = (given ≡ []) × IsAtEnd left
IsNextByte left (Err status) given = (status ≡ InputFault) × (given ≡ [])

-- what bytes are that the input ends after
abbrev pub last_of : Vec ℕ Global → NextLine
last_of line = if length line.items == 0 then End else Last line

-- bytes without a line feed, no more than show that a line is too long
pub record IsBegun (given : List ℕ) : Type 0 where
  pub unbroken : has_no_feed given
  pub short : length given ≤ line_limit + 1

-- the input ends after bytes that are no more than a line
pub record EndsAfter (left : Option (List ℕ)) (line : List ℕ) : Type 0 where
  pub is_line : IsLine line
  pub to_end : IsAtEnd left

abbrev pub IsNextLine : Option (List ℕ) → Result NextLine Status → List ℕ → Type 0
IsNextLine left (Ok (Line line)) given = IsLine line.items × (given ≡ line.items ++ 10 ∷ [])
IsNextLine left (Ok (Last line)) given = EndsAfter left line.items × (0 < length line.items) × (given ≡ line.items)
IsNextLine left (Ok End) given = (given ≡ []) × IsAtEnd left
IsNextLine left (Ok TooLong) given = has_no_feed given × (length given ≡ line_limit + 1)
IsNextLine left (Err status) given = IsReadingStop status × IsBegun given
