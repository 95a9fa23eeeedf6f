use Rattle.std.proofs.Common.{◌≡◌, ◌+◌, arith, slice_range}
use Rattle.machine_defs.specs.Memory.{number_of}
use Rattle.machine_defs.proofs.Numbers.{halves-4}
use Rattle.vm_mem.proofs.pages.Pages.read_u32_over_pages.Goals as goal

pub returns-clause-number : goal.returns-clause-number
returns-clause-number c =
    let bytes = c.args.self.now.bytes in
    let halves = halves-4 bytes c.args.at in
    let place : c.args.at + 2 + 2 ≡ c.args.at + 4 = omega arith in
    let high : c.read_u16-2.result ≡ number_of (slice_range bytes (c.args.at + 2) (c.args.at + 4)) =
    rw (← place) c.read_u16-2.ensures in
    omega (arith, halves, high, c.from.ensures, c.from-2.ensures, c.read_u16.ensures, c.read_u16-2.type_inv)
