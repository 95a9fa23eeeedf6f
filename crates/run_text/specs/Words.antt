-- The parts of the grammar of words.
use Rattle.std.specs.Prelude.{ℕ, ◌^◌, ◌≤◌, ◌==◌, nat_lt, ◌&&◌, ◌||◌, Bool, List, length, slice_index}
use Rattle.report_defs.specs.declared.command.Command.{Command}
use Rattle.report_defs.specs.declared.command.Command.TheVariants.{Init, Import, Migrate, Query, Question, Standalone, Simulation}
use Rattle.report_defs.specs.declared.command.Standalone as files
use Rattle.report_defs.specs.declared.command.Standalone.TheVariants.{Exec, Asm, Dis, Unjson}
use Rattle.report_defs.specs.declared.command.Simulation as simulations
use Rattle.report_defs.specs.declared.command.Simulation.TheVariants.{Make, Soak}

-- a budget, where there is one, is within its limit
abbrev pub IsWithinBudget : files.Standalone → Type 0
IsWithinBudget (Exec budget) = budget ≤ 2 ^ 40
IsWithinBudget Asm = Unit {0}
IsWithinBudget Dis = Unit {0}
IsWithinBudget Unjson = Unit {0}

-- a count of generated blocks is within its limit
abbrev pub IsWithinCount : simulations.Simulation → Type 0
IsWithinCount (Make seed count) = count ≤ 20000
IsWithinCount (Soak seed count) = count ≤ 100

abbrev pub IsWithinLimit : Command → Type 0
IsWithinLimit Init = Unit {0}
IsWithinLimit (Import watched) = Unit {0}
IsWithinLimit (Migrate epoch) = Unit {0}
IsWithinLimit (Query query) = Unit {0}
IsWithinLimit (Question question) = Unit {0}
IsWithinLimit (Standalone command) = IsWithinBudget command
IsWithinLimit (Simulation simulation) = IsWithinCount simulation

-- It begins with a plus, or with a zero and is longer: a number may be read from such a word, but no number is written so.
abbrev pub is_padded : List ℕ → Bool
is_padded word = slice_index word 0 == 43 || (slice_index word 0 == 48 && nat_lt 1 (length word))
