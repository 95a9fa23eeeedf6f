use Rattle.std.proofs.Common.{List, [], ◌∷◌, ◌++◌, map, sym, ap, ◌∙◌}
use Rattle.std.specs.Map.Iter.{deref_pair}
use Rattle.std.proofs.lemmas.List.{map-append}
use Rattle.chain_defs.specs.Schema.{OutPoint}
use Rattle.chain_defs.specs.Row.{Row}
use Rattle.cell_state.specs.Listing.{out_point_by, with_row, listed}
use Rattle.cell_state.specs.declared.slots.Slot.{Slot}
use Rattle.cell_state.proofs.ListLemmas.{listed-push, listed-same}
use Rattle.cell_state.proofs.slots.Slots.listed.Goals as goal

pub loop-key-preserved-in-Continue-branch-2 : goal.loop-key-preserved-in-Continue-branch-2
loop-key-preserved-in-Continue-branch-2 c =
    let done = map deref_pair c.loop-key.yielded in
    c.in_ok-push-in-Live.ensures.items
    ∙ ap (λ (rows : List (OutPoint × Row)). rows ++ (out_point_by c.in-Some.key.now, c.in-Live.row) ∷ []) c.loop-key.invariant
    ∙ ap (λ (slot : Slot). listed done ++ with_row c.in-Some.key.now slot []) (sym c.in-Live.is)
    ∙ sym (listed-push done (c.in-Some.key.now, c.in-Some.slot.now))
    ∙ ap listed (sym (map-append deref_pair c.loop-key.yielded ((c.in-Some.key, c.in-Some.slot) ∷ [])))

pub loop-key-preserved-in-Spent : goal.loop-key-preserved-in-Spent
loop-key-preserved-in-Spent c =
    c.loop-key.invariant
    ∙ listed-same (map deref_pair c.loop-key.yielded) c.in-Some.key.now c.in-Some.slot.now (ap (λ (slot : Slot). with_row c.in-Some.key.now slot []) c.in-Spent.is)
    ∙ ap listed (sym (map-append deref_pair c.loop-key.yielded ((c.in-Some.key, c.in-Some.slot) ∷ [])))

pub loop-key-preserved-in-Added : goal.loop-key-preserved-in-Added
loop-key-preserved-in-Added c =
    c.loop-key.invariant
    ∙ listed-same (map deref_pair c.loop-key.yielded) c.in-Some.key.now c.in-Some.slot.now (ap (λ (slot : Slot). with_row c.in-Some.key.now slot []) c.in-Added.is)
    ∙ ap listed (sym (map-append deref_pair c.loop-key.yielded ((c.in-Some.key, c.in-Some.slot) ∷ [])))

pub loop-key-preserved : goal.loop-key-preserved
loop-key-preserved c =
    c.loop-key.invariant
    ∙ listed-same (map deref_pair c.loop-key.yielded) c.in-Some.key.now c.in-Some.slot.now (ap (λ (slot : Slot). with_row c.in-Some.key.now slot []) c.in-Gone.is)
    ∙ ap listed (sym (map-append deref_pair c.loop-key.yielded ((c.in-Some.key, c.in-Some.slot) ∷ [])))
