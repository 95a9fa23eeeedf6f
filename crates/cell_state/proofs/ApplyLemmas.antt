-- What stands after a block was taken, or taken back.
use Rattle.std.proofs.Common.{◌≡◌, ℕ, List, Option, Some, None, refl, sym, ap, ◌∙◌}
use Rattle.chain_defs.specs.Schema.{OutPoint}
use Rattle.chain_defs.specs.Events.{Event, Makes, Spends, last_naming}
use Rattle.chain_defs.specs.Row.{Row, row_or, row_after}
use Rattle.cell_state.specs.Slots.{StateValue, at, rows, row_before, is_live, settled, AreSettled}
use Rattle.chain_defs.specs.Fit.{live_by}
use Rattle.cell_state.specs.Passes.{AreMarked, Settles}
use Rattle.cell_state.specs.declared.slots.Slot.{Slot}
use Rattle.cell_state.proofs.NamingLemmas.{row-after}

pub before-settled : (row : Option Row) → row_before (settled row) ≡ row
before-settled None = refl
before-settled (Some row) = refl

-- slots of rows are settled
pub settled-rows : (state : StateValue) (wanted : OutPoint → Option Row) → ((o : OutPoint) → at state o ≡ settled (wanted o)) → (o : OutPoint) → rows state o ≡ wanted o
settled-rows state wanted is o = ap row_before (is o) ∙ before-settled (wanted o)

pub are-settled : (state : StateValue) (wanted : OutPoint → Option Row) → ((o : OutPoint) → at state o ≡ settled (wanted o)) → AreSettled state
are-settled state wanted is o = is o ∙ ap settled (sym (settled-rows state wanted is o))

-- ---- A block that fits

slot-applied : (place : ℕ) (last : Option Event) (old marked new : Option Slot) → old ≡ settled (row_before old)
    → is_live marked ≡ live_by last (is_live old) → (last ≡ None → marked ≡ old) → Settles place last marked new
    → new ≡ settled (row_or place (row_before old) last)
slot-applied place None old marked new is live unnamed so = so.unnamed refl ∙ unnamed refl ∙ is
slot-applied place (Some (Makes o cell)) old marked new is live unnamed so = so.made o cell refl live
slot-applied place (Some (Spends o)) old marked new is live unnamed so = so.gone refl live

pub applied : (place : ℕ) (events : List Event) (old marked new : StateValue) → AreSettled old → AreMarked events old marked
    → ((o : OutPoint) → last_naming o events ≡ None → at marked o ≡ at old o)
    → ((o : OutPoint) → Settles place (last_naming o events) (at marked o) (at new o))
    → (o : OutPoint) → at new o ≡ settled (row_after place events (rows old) o)
applied place events old marked new is live unnamed so o =
    slot-applied place (last_naming o events) (at old o) (at marked o) (at new o) (is o) (live o) (unnamed o) (so o)
    ∙ ap settled (sym (row-after place events (rows old) o))

-- ---- A block that does not
