-- What the transactions of a block move: the interest that they withdraw, and what the cells occupy that they spend.
use Rattle.std.proofs.Common.{◌≡◌, ℕ, suc, ◌+◌, ◌^◌, ◌<◌, ◌≤◌, ℤ, pos, ◌+ℤ◌, nat_abs, List, [], ◌∷◌, length, drop, Some, refl, ap, ◌∙◌, arith}
use Rattle.std.specs.Prelude.{slice_get, sum_by}
use Rattle.std.specs.List.{AllZip}
use Rattle.std.specs.Int.{w128}
use mir.Val.{to_z, of_z}
use Rattle.std.proofs.lemmas.Int.{ints}
use Rattle.std.proofs.lemmas.List.{drop_all}
use Rattle.std.proofs.lemmas.List.Sums.{sum_by-cons}
use Rattle.chain_defs.specs.Schema.{OutPoint, Transaction, Block}
use Rattle.chain_defs.specs.Specification.{Specification}
use Rattle.chain_defs.specs.Row.{Row}
use Rattle.cell_state.specs.Copies.{ResolvedValue, ResolvedTxValue}
use Rattle.rule_defs.specs.Site.{Site, Found, site_at}
use Rattle.rule_defs.specs.Resolving.{inputs}
use Rattle.rule_defs.specs.Capacity.{interest}
use Rattle.tx_rules.specs.Outcome.{Copies, IsResolved}
use Rattle.rule_defs.specs.Field.{occupied_found, freed_by, freed_from, interest_from}
use Rattle.block_judge.specs.Progress.{CanMove}
use Rattle.block_judge.proofs.RestLemmas.{rest-next}

-- ---- One transaction

-- its interest is handed on as it is
pub interest-kept : {z : ℤ} (was : ℤ) → z ≡ was → nat_abs was < 2 ^ 96 → to_z w128 (of_z w128 z) ≡ was
interest-kept was is small = omega (arith, ints, is, small)

-- copies of cells occupy what the cells do
occupied-same : (kept : List Block) (parent : ℕ) (founds : List Found) (copies : List ResolvedValue) → AllZip (Copies kept parent) founds copies
    → sum_by (λ copy. copy.row.occupied) copies ≡ sum_by occupied_found founds
occupied-same kept parent [] [] each = refl
occupied-same kept parent [] (copy ∷ copies) each = absurd each
occupied-same kept parent (found ∷ founds) [] each = absurd each
occupied-same kept parent (found ∷ founds) (copy ∷ copies) each =
    let here : copy.row.occupied ≡ occupied_found found = ap (λ (pair : OutPoint × Row). pair.1.occupied) each.0.row in
    let rest = occupied-same kept parent founds copies each.1 in
    let one = sum_by-cons (λ (it : ResolvedValue). it.row.occupied) copy copies in
    let other = sum_by-cons occupied_found found founds in
    omega (arith, here, rest, one, other)

pub freed-same : {its resolved : ResolvedTxValue} (kept : List Block) (parent : ℕ) (site : Site) (t : Transaction) → its ≡ resolved
    → IsResolved kept parent site t resolved → sum_by (λ copy. copy.row.occupied) its.inputs ≡ freed_by site t
unfolding freed_by
freed-same {resolved = resolved} kept parent site t same is =
    ap (λ (it : ResolvedTxValue). sum_by (λ copy. copy.row.occupied) it.inputs) same ∙ occupied-same kept parent (inputs site t) resolved.inputs is.inputs_are

-- ---- How much can be moved

pub can-move-one : (interest : ℤ) (freed : ℕ) → nat_abs interest < 2 ^ 96 → freed < 2 ^ 96 → CanMove 1 interest freed
can-move-one interest freed one other = record { interest_fits = omega (arith, one); freed_fits = omega (arith, other) }

pub can-move-none : (count : ℕ) (interest : ℤ) (freed : ℕ) → interest ≡ pos 0 → freed ≡ 0 → CanMove count interest freed
can-move-none count interest freed none nothing =
    let zero : nat_abs interest ≡ 0 = ap nat_abs none in
    record { interest_fits = omega (arith, zero); freed_fits = omega (arith, nothing) }

-- the sum fits
pub interest-sum : (count : ℕ) (old more : ℤ) (freed adds : ℕ) → count < 2 ^ 30 → CanMove count old freed → CanMove 1 more adds
    → to_z w128 (of_z w128 (to_z w128 (of_z w128 old) +ℤ to_z w128 (of_z w128 more))) ≡ old +ℤ more
interest-sum count old more freed adds few can one =
    let old_fits = can.interest_fits in
    let more_fits = one.interest_fits in
    omega (arith, ints, few, old_fits, more_fits)

pub can-move-more : (count : ℕ) (old more new : ℤ) (freed adds all : ℕ) → CanMove count old freed → CanMove 1 more adds → new ≡ old +ℤ more → all ≡ freed + adds
    → CanMove (count + 1) new all
can-move-more count old more new freed adds all can one sum total =
    let old_fits = can.interest_fits in
    let more_fits = one.interest_fits in
    let freed_fits = can.freed_fits in
    let adds_fits = one.freed_fits in
    record { interest_fits = omega (arith, ints, old_fits, more_fits, sum); freed_fits = omega (arith, freed_fits, adds_fits, total) }

-- ---- One transaction after the other

pub interest-next : (spec : Specification) (on : List Block) (b : Block) (place : ℕ) (t : Transaction) → slice_get b.transactions place ≡ Some t
    → interest_from spec on b place (drop place b.transactions)
    ≡ interest (site_at spec on b place) t +ℤ interest_from spec on b (place + 1) (drop (place + 1) b.transactions)
unfolding interest_from
interest-next spec on b place t there =
    let next : suc place ≡ place + 1 = omega arith in
    ap (interest_from spec on b place) (rest-next b.transactions place t there)
    ∙ ap (λ (n : ℕ). interest (site_at spec on b place) t +ℤ interest_from spec on b n (drop (place + 1) b.transactions)) next

pub freed-next : (spec : Specification) (on : List Block) (b : Block) (place : ℕ) (t : Transaction) → slice_get b.transactions place ≡ Some t
    → freed_from spec on b place (drop place b.transactions)
    ≡ freed_by (site_at spec on b place) t + freed_from spec on b (place + 1) (drop (place + 1) b.transactions)
unfolding freed_from
freed-next spec on b place t there =
    let next : suc place ≡ place + 1 = omega arith in
    ap (freed_from spec on b place) (rest-next b.transactions place t there)
    ∙ ap (λ (n : ℕ). freed_by (site_at spec on b place) t + freed_from spec on b n (drop (place + 1) b.transactions)) next

pub interest-none : (spec : Specification) (on : List Block) (b : Block) (place : ℕ) → length b.transactions ≤ place
    → interest_from spec on b place (drop place b.transactions) ≡ pos 0
unfolding interest_from
interest-none spec on b place past = ap (interest_from spec on b place) (drop_all place b.transactions past)

pub freed-none : (spec : Specification) (on : List Block) (b : Block) (place : ℕ) → length b.transactions ≤ place
    → freed_from spec on b place (drop place b.transactions) ≡ 0
unfolding freed_from
freed-none spec on b place past = ap (freed_from spec on b place) (drop_all place b.transactions past)
