-- The number of each status, which the program ends with (docs/COMMANDS.md, "Statuses").
use Rattle.std.specs.Prelude.{◌≡◌, ◌⊎◌, ℕ, List, [], ◌∷◌}
use Rattle.report_defs.specs.declared.status.Status.{Status}
use Rattle.report_defs.specs.declared.status.Status.TheVariants.{Done, SomeRefused, BadWords, InputFault, SinkFault, DiskFault, NoMemory, NotAStore, CutInput, BadSize, StoreThere, BadGenesis, ExtraInput, TooEarly, AlreadyMigrated}

abbrev pub status_number : Status → ℕ
status_number Done = 0
status_number SomeRefused = 1
status_number BadWords = 2
status_number InputFault = 3
status_number SinkFault = 4
status_number DiskFault = 5
status_number NoMemory = 6
status_number NotAStore = 7
status_number CutInput = 8
status_number BadSize = 9
status_number StoreThere = 10
status_number BadGenesis = 11
status_number ExtraInput = 12
status_number TooEarly = 13
status_number AlreadyMigrated = 14

-- it is one of these
abbrev pub IsOneOf : List Status → Status → Type 0
IsOneOf [] status = ⊥
IsOneOf (one ∷ others) status = (status ≡ one) ⊎ IsOneOf others status
