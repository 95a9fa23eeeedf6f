use Rattle.std.proofs.Common.{◌≡◌, ◌+◌, Some, None, length, ap, ◌∙◌, arith}
use Rattle.cell_state.specs.Slots.{StateValue, key_of}
use Rattle.cell_state.proofs.SlotLemmas.{at-same, written-same}
use Rattle.cell_state.proofs.slots.Slots.add.Goals as goal

pub unwrap-requires : goal.unwrap-requires
unwrap-requires c =
    let spare : c.self.inside.spare ≡ c.args.self.now.spare = ap (λ (v : StateValue). v.spare) c.self.view_is in
    c.insert-added.ensures.succeeds (omega (arith, spare, c.self.invariant.0, c.requires.spare))

pub invariant_of-self : goal.invariant_of-self
invariant_of-self c =
    let spare : c.self.inside.spare ≡ c.args.self.now.spare = ap (λ (v : StateValue). v.spare) c.self.view_is in
    let found = at-same _ _ _ _ c.self.view_is c.o.view_is in
    let old = rw c.unwrap.ensures at c.insert-added.ensures.old in
    let none : c.unwrap.result ≡ None = old ∙ found ∙ c.requires.new in
    let len : length c.insert-added.new.self.entries ≡ length c.self.inside.map.entries + 1 = (rw (c.unwrap.ensures, none) at c.insert-added.ensures.len) in
    (omega (arith, c.insert-added.ensures.spare, c.self.invariant.0), omega (arith, len, c.self.invariant.1, c.requires.spare, spare))

pub returns-clause-at : goal.returns-clause-at
returns-clause-at c other =
    (rw c.unwrap.ensures at c.insert-added.ensures.updates).0 (key_of other)
    ∙ written-same (Some c.args.slot) _ _ _ _ other c.self.view_is c.o.view_is
