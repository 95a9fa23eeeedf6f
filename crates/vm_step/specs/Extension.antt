-- How a number that was loaded is extended to the 64 bits of a register.
use Rattle.std.specs.Prelude.{ℕ}
use Rattle.std.specs.Int.{w8, w16, w32}
use Rattle.machine_defs.specs.declared.memory.Width.{Width}
use Rattle.machine_defs.specs.declared.memory.Width.TheVariants.{B1, B2, B4, B8}
use Rattle.machine_defs.specs.Step.{extended_from, zero_extended}
use Rattle.vm_step.specs.declared.extension.Extension.{Extension}
use Rattle.vm_step.specs.declared.extension.Extension.TheVariants.{Sign, Zero}

abbrev pub extended : Extension → Width → ℕ → ℕ
extended Zero width n = zero_extended n
extended Sign B1 n = extended_from w8 n
extended Sign B2 n = extended_from w16 n
extended Sign B4 n = extended_from w32 n
extended Sign B8 n = n
