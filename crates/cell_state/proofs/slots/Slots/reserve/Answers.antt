use Rattle.std.proofs.Common.{◌≡◌, length, ap, ◌∙◌, arith}
use Rattle.cell_state.specs.Slots.{StateValue, at, key_of}
use Rattle.cell_state.proofs.SlotLemmas.{most-is}
use Rattle.cell_state.proofs.slots.Slots.reserve.Goals as goal

pub overflow_sub-len : goal.overflow_sub-len
overflow_sub-len c =
    let len : length c.self.inside.map.entries ≡ length c.args.self.now.entries = ap (λ (v : StateValue). length v.entries) c.self.view_is in
    omega (arith, c.len.ensures.count, c.self.invariant.1, most-is, len)

pub invariant_of-self-2 : goal.invariant_of-self-2
invariant_of-self-2 c =
    let len : length c.self.inside.map.entries ≡ length c.args.self.now.entries = ap (λ (v : StateValue). length v.entries) c.self.view_is in
    let same : length c.reserve.new.self.entries ≡ length c.self.inside.map.entries = c.in_ok-reserve.ensures.entries.1 in
    (c.in_ok-reserve.ensures.ok, omega (arith, c.len.ensures.count, len, same, most-is, c.if-more-len.false))

pub returns-clause-at : goal.returns-clause-at
returns-clause-at c o =
    c.in_ok-reserve.ensures.entries.2 (key_of o) ∙ ap (λ (v : StateValue). at v o) c.self.view_is

pub returns-then-more-self-clause-most : goal.returns-then-more-self-clause-most
returns-then-more-self-clause-most c =
    let len : length c.self.inside.map.entries ≡ length c.args.self.now.entries = ap (λ (v : StateValue). length v.entries) c.self.view_is in
    let spare : c.self.inside.spare ≡ c.args.self.now.spare = ap (λ (v : StateValue). v.spare) c.self.view_is in
    omega (arith, c.self.invariant.1, most-is, len, spare)
