-- What a text, a word and the lines of the assembler tell: each relation holds of at most one.
use Rattle.std.specs.Prelude.{◌≡◌, ℕ, List}
use Rattle.machine_defs.specs.declared.ins.Ins.{Ins}
use Rattle.machine_defs.specs.Instruction.{FitsFormat}
use Rattle.machine_defs.specs.Text.{show, IsWord}
use Rattle.machine_defs.specs.Assembly.{Assembles, IsFirstBad}

-- at most one word encodes an instruction in the full form
abbrev pub OneWordEncodes : Type 0
OneWordEncodes = (i : Ins) (word other : ℕ) → IsWord i word → IsWord i other → word ≡ other

-- at most one instruction that fits has a text
abbrev pub OneInstructionHasText : Type 0
OneInstructionHasText = (i j : Ins) → FitsFormat i → FitsFormat j → show i ≡ show j → i ≡ j

-- lines stand for at most one code
abbrev pub OneCodeAssembles : Type 0
OneCodeAssembles = (lines : List (List ℕ)) (code other : List ℕ) → Assembles lines code → Assembles lines other → code ≡ other

-- at most one line is the first bad one
abbrev pub OneLineIsFirstBad : Type 0
OneLineIsFirstBad = (lines : List (List ℕ)) (number other : ℕ) → IsFirstBad lines number → IsFirstBad lines other → number ≡ other

-- lines that stand for code have no bad one
abbrev pub NoneIsBadOfCode : Type 0
NoneIsBadOfCode = (lines : List (List ℕ)) (code : List ℕ) (number : ℕ) → Assembles lines code → IsFirstBad lines number → ⊥
