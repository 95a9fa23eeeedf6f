use Rattle.std.proofs.Common.{◌≤◌, arith}
use Rattle.chain_defs.specs.Ext.{count_at}
use Rattle.cell_state.proofs.ExtLemmas.{fees-within, fee-found}
use Rattle.cell_state.proofs.ext.fee_in.Goals as goal

pub u32_at-requires : goal.u32_at-requires
u32_at-requires c = fees-within c.args.ext.now 0 c.requires.form (omega arith)

pub u64_at-requires : goal.u64_at-requires
u64_at-requires c =
    let within : c.args.tx ≤ count_at c.args.ext.now 0 = omega (arith, c.if-tx-u32_at.false, c.u32_at.ensures.value) in
    omega (arith, fees-within c.args.ext.now c.args.tx c.requires.form within, c.requires.paying)

pub returns : goal.returns
returns c =
    let within : c.args.tx ≤ count_at c.args.ext.now 0 = omega (arith, c.if-tx-u32_at.false, c.u32_at.ensures.value) in
    fee-found c.args.ext.now c.args.tx c.u64_at.result c.requires.paying within c.u64_at.ensures.value
