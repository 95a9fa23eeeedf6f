-- What an answer says whatever is known of kept blocks: on a block, of J17; and on a transaction alone, of J18 and J20.
use Rattle.std.specs.Prelude.{◌≡◌, ◌⊎◌, ⊤, ◌<◌, Bool, true, false, Option, is_some, Result, Ok, Err}
use Rattle.outside.specs.declared.disk.ReadStop.TheVariants.{DiskFault, NoMemory, Damaged}
use Rattle.chain_defs.specs.Schema.{OutPoint}
use Rattle.chain_defs.specs.Cell.{Cell}
use Rattle.chain_defs.specs.Row.{Row}
use Rattle.rule_defs.specs.RuleNumber.{rule_number}
use Rattle.block_judge.specs.declared.stop.JudgeStop.{JudgeStop}
use Rattle.block_judge.specs.declared.stop.JudgeStop.TheVariants.{Broken, Read}

-- The rows have one just for each cell that is live.
abbrev pub AgreeOnLive : (OutPoint → Option Row) → (OutPoint → Option Cell) → Type 0
AgreeOnLive rows live = (o : OutPoint) → is_some (rows o) ≡ is_some (live o)

-- ---- On a block that has passed at sight, by the form of its cellbase over the live cells

-- J17 is answered just where the cellbase does not have this form, and anything else only where it has it, want of memory too.
abbrev pub StopsByForm : Bool → JudgeStop → Type 0
StopsByForm form (Broken rule) = ((rule_number rule ≡ 17) × (form ≡ false)) ⊎ ((17 < rule_number rule) × (form ≡ true))
StopsByForm form (Read stop) = form ≡ true

abbrev pub SaysByForm : {T : Type 0} → Bool → Result T JudgeStop → Type 0
SaysByForm form (Ok it) = form ≡ true
SaysByForm form (Err stop) = StopsByForm form stop

-- ---- On a transaction alone, by its form and by whether the rows have a cell of its own for each input

-- Each of the two is answered just where it is the first that is broken. Memory may be wanted before that is known.
abbrev pub StopsByRows : Bool → Bool → JudgeStop → Type 0
StopsByRows form spends (Broken rule) =
    ((rule_number rule ≡ 18) × (form ≡ false))
    ⊎ ((form ≡ true) × (((rule_number rule ≡ 20) × (spends ≡ false)) ⊎ ((20 < rule_number rule) × (spends ≡ true))))
StopsByRows form spends (Read NoMemory) = ⊤
StopsByRows form spends (Read DiskFault) = (form ≡ true) × (spends ≡ true)
StopsByRows form spends (Read (Damaged damage)) = (form ≡ true) × (spends ≡ true)

abbrev pub SaysByRows : {T : Type 0} → Bool → Bool → Result T JudgeStop → Type 0
SaysByRows form spends (Ok it) = (form ≡ true) × (spends ≡ true)
SaysByRows form spends (Err stop) = StopsByRows form spends stop
