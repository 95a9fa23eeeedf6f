use Rattle.std.proofs.Common.{◌≡◌, ◌+◌, arith, slice_range}
use Rattle.machine_defs.specs.Memory.{number_of}
use Rattle.machine_defs.proofs.Numbers.{halves-2}
use Rattle.vm_mem.proofs.pages.Pages.read_u16_over_pages.Goals as goal

pub returns : goal.returns
returns c =
    let bytes = c.args.self.now.bytes in
    let halves = halves-2 bytes c.args.at in
    let place : c.args.at + 1 + 1 ≡ c.args.at + 2 = omega arith in
    let high : c.read_u8-2.result ≡ number_of (slice_range bytes (c.args.at + 1) (c.args.at + 2)) =
    rw (← place) c.read_u8-2.ensures in
    omega (arith, halves, high, c.from.ensures, c.from-2.ensures, c.read_u8.ensures, c.read_u8-2.type_inv)
