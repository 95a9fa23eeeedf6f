-- The text of an instruction that a word decodes to (docs/MACHINE.md, "The text of an instruction").
use Rattle.std.specs.Prelude.{◌≡◌}
use Rattle.machine_defs.specs.declared.ins.Ins.{Ins}
use Rattle.machine_defs.specs.Instruction.{FitsFormat}
use Rattle.machine_defs.specs.Text.{show}

-- It fits its format, and is the one that fits with its text: so that text is read as it.
pub record IsReadBack (i : Ins) : Type 0 where
  pub fits : FitsFormat i
  pub one : (other : Ins) → FitsFormat other → show other ≡ show i → other ≡ i
