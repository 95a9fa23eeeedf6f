-- The syscalls that a script may make, as a table (RFC 0009; docs/MACHINE.md, "Syscalls"). Their number is in a7.
use Rattle.std.specs.Prelude.{ℕ, ◌==◌, List, [], ◌∷◌, Option}
use Rattle.std.specs.Option.{option_map}
use Rattle.std.specs.List.{find}

-- What a syscall does.
pub data Action : Type 0 where
  -- it ends the program with the low byte of a0, as a signed number
  Exits : Action
  -- nothing is read or changed
  Debugs : Action
  -- it loads an item into memory, in part
  Loads : Action
  -- it loads a field of an item, in part
  LoadsField : Action
  -- it loads an item into memory as code
  LoadsCode : Action

-- The items that a script is shown.
pub data Shown : Type 0 where
  Nothing : Shown
  TransactionBytes : Shown
  ScriptBytes : Shown
  TransactionHash : Shown
  ScriptHash : Shown
  CellOutputs : Shown
  CellData : Shown
  Headers : Shown
  Inputs : Shown
  Witnesses : Shown

pub record Syscall : Type 0 where
  pub number : ℕ
  pub deed : Action
  pub shown : Shown

abbrev pub row : ℕ → Action → Shown → Syscall
row number deed shown = record { number = number; deed = deed; shown = shown }

-- Any other number is fault 5.
unfoldable pub syscalls : List Syscall
syscalls =
    row 93 Exits Nothing
    ∷ row 2051 Loads TransactionBytes
    ∷ row 2052 Loads ScriptBytes
    ∷ row 2061 Loads TransactionHash
    ∷ row 2062 Loads ScriptHash
    ∷ row 2071 Loads CellOutputs
    ∷ row 2072 Loads Headers
    ∷ row 2073 Loads Inputs
    ∷ row 2074 Loads Witnesses
    ∷ row 2081 LoadsField CellOutputs
    ∷ row 2082 LoadsField Headers
    ∷ row 2083 LoadsField Inputs
    ∷ row 2091 LoadsCode CellData
    ∷ row 2092 Loads CellData
    ∷ row 2177 Debugs Nothing
    ∷ []

-- what the syscall of a number does
unfoldable pub action_of : ℕ → Option Action
action_of number = option_map (λ syscall. syscall.deed) (find (λ syscall. syscall.number == number) syscalls)
