-- On slots, one at a time.
use Rattle.std.proofs.Common.{◌≡◌, ℕ, ◌<◌, ◌⊎◌, List, Bool, true, false, eqb, Option, if◌then◌else◌, refl, ap, ◌∙◌}
use Rattle.std.specs.Str.{bytes_eq}
use Rattle.std.proofs.lemmas.Bool.{and_parts}
use Rattle.std.proofs.lemmas.Bool.Decides.{Decides-eqb}
use Rattle.std.proofs.lemmas.Slice.Eq.{bytes_eq-Decides}
use Rattle.chain_defs.specs.Schema.{OutPoint}
use Rattle.chain_defs.specs.Events.{same_out_point}
use Rattle.cell_state.specs.Slots.{StateValue, at, most}
use Rattle.cell_state.specs.declared.slots.Slot.{Slot}

pub most-is : most ≡ 1125899906842624
unfolding most
most-is = refl

pub at-same : (v w : StateValue) (o p : OutPoint) → v ≡ w → o ≡ p → at v o ≡ at w p
at-same v w o p same named = ap (λ (x : StateValue). at x o) same ∙ ap (λ (x : OutPoint). at w x) named

pub written-same : (slot : Option Slot) (v w : StateValue) (o p other : OutPoint) → v ≡ w → o ≡ p
    → (if same_out_point o other then slot else at v other) ≡ (if same_out_point p other then slot else at w other)
written-same slot v w o p other same named =
    ap (λ (x : StateValue). if same_out_point o other then slot else at x other) same
    ∙ ap (λ (x : OutPoint). if same_out_point x other then slot else at w other) named

-- ---- Out-points that are the same

pub same-is : (p o : OutPoint) → same_out_point p o ≡ true → p ≡ o
same-is p o same =
    let parts = and_parts (bytes_eq p.tx_hash o.tx_hash) (eqb p.index o.index) same in
    let hash = (bytes_eq-Decides p.tx_hash o.tx_hash).0 parts.0 in
    let index = (Decides-eqb p.index o.index).0 parts.1 in
    ap (λ (h : List ℕ). record { tx_hash = h; index = p.index }) hash ∙ ap (λ (n : ℕ). record { tx_hash = o.tx_hash; index = n }) index

if-same : (f : Option Slot → Option Slot) (v : StateValue) (p o : OutPoint) (b : Bool) → same_out_point p o ≡ b
    → (if b then f (at v p) else at v o) ≡ (if b then f (at v o) else at v o)
if-same f v p o true same = ap (λ (x : OutPoint). f (at v x)) (same-is p o same)
if-same f v p o false same = refl

-- a change at one out-point, seen at each
pub at-each : (f : Option Slot → Option Slot) (v : StateValue) (p o : OutPoint)
    → (if same_out_point p o then f (at v p) else at v o) ≡ (if same_out_point p o then f (at v o) else at v o)
at-each f v p o = if-same f v p o (same_out_point p o) refl
