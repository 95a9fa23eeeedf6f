use Rattle.std.proofs.Common.{◌≡◌, ◌+◌, arith, slice_range}
use Rattle.machine_defs.specs.Memory.{number_of}
use Rattle.machine_defs.proofs.Numbers.{halves-8}
use Rattle.vm_mem.proofs.pages.Pages.read_u64_over_pages.Goals as goal

pub returns : goal.returns
returns c =
    let bytes = c.args.self.now.bytes in
    let halves = halves-8 bytes c.args.at in
    let place : c.args.at + 4 + 4 ≡ c.args.at + 8 = omega arith in
    let high : c.read_u32-2.result ≡ number_of (slice_range bytes (c.args.at + 4) (c.args.at + 8)) =
    rw (← place) c.read_u32-2.ensures.number in
    omega (arith, halves, high, c.from.ensures, c.from-2.ensures, c.read_u32.ensures.number, c.read_u32-2.type_inv)
