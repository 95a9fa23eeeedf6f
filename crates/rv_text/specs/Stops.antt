-- What a stop of the assembler tells.
use Rattle.std.specs.Prelude.{◌≡◌, ℕ, List}
use Rattle.machine_defs.specs.Assembly.{IsBad, IsFirstBad}
use Rattle.rv_text.specs.declared.assembly.AssemblyStop.{AssemblyStop}
use Rattle.rv_text.specs.declared.assembly.AssemblyStop.TheVariants.{BadLine, NoMemory}

-- what a stop tells of a text
abbrev pub IsStopOf : List (List ℕ) → AssemblyStop → Type 0
IsStopOf lines (BadLine number) = IsFirstBad lines number
IsStopOf lines NoMemory = Unit {0}

-- the same of one line with a number
abbrev pub IsStopOfLine : ℕ → List ℕ → AssemblyStop → Type 0
IsStopOfLine own line (BadLine number) = (number ≡ own) × IsBad line
IsStopOfLine own line NoMemory = Unit {0}
