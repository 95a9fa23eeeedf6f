use Rattle.std.proofs.Common.{◌≡◌, ◌++◌, ◌<◌, ℕ, List, length, get_or, rules}
use Rattle.std.specs.Int.{w32, w64, to_le_bytes}
use Rattle.std.proofs.lemmas.List.{get_or_default}
use Rattle.cell_state.proofs.ExtLemmas.{one_put_more}
use Rattle.cell_state.proofs.ext.put_fees.Goals as goal

pub fees-preserved : goal.fees-preserved
fees-preserved c =
    let fees : List ℕ = c.args.fees.now in
    let i = c.fees.fee-index in
    let within : i < length fees = c.fees-test.true in
    let fee : ℕ = get_or fees i 0 in
    let put : c.extend_from_slice-in-fees.new.self.items ≡ c.fees.bytes.items ++ to_le_bytes w64 fee = search rules in
    one_put_more (to_le_bytes w64) (c.args.bytes.now.items ++ to_le_bytes w32 (length fees)) c.fees.bytes.items _ fees i fee within (get_or_default fees i 0 fee within) c.fees.invariant put
