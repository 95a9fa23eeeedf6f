use Rattle.std.proofs.Common.{◌≡◌, length, ap, subst, arith}
use Rattle.std.specs.List.{IsDistinct}
use Rattle.std.specs.Map.{keys_of}
use Rattle.cell_state.specs.Slots.{StateValue, same_key}
use Rattle.cell_state.proofs.SlotLemmas.{most-is}
use Rattle.cell_state.proofs.slots.Slots.len.Goals as goal

pub returns : goal.returns
returns c =
    let count : length c.self.inside.map.entries ≡ length c.args.self.now.entries = ap (λ (v : StateValue). length v.entries) c.self.view_is in
    let spare : c.self.inside.spare ≡ c.args.self.now.spare = ap (λ (v : StateValue). v.spare) c.self.view_is in
    record {
      count = omega (arith, c.len.ensures.len, count);
      distinct = subst (λ (v : StateValue). IsDistinct same_key (keys_of v.entries)) c.self.view_is c.len.ensures.unique;
      most = omega (arith, c.self.invariant.1, count, spare, most-is);
    }
