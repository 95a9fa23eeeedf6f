-- The events of a branch fit, from the genesis on: its transactions have distinct hashes, and each later block fits the cells of its branch.
use Rattle.std.proofs.Common.{◌≡◌, ℕ, zero, suc, ◌+◌, ◌<◌, Bool, true, false, cond, List, [], ◌∷◌, ◌++◌, map, length, Some, refl, sym, ap, ◌∙◌, subst, arith}
use Rattle.std.specs.Prelude.{◌&&◌, ◌==◌, not, nat_lt, is_some}
use Rattle.std.specs.List.{list_any}
use Rattle.std.specs.Str.{bytes_eq}
use Rattle.std.proofs.lemmas.Bool.{and_parts, or_parts, not-true, false_from_ne_true}
use Rattle.std.proofs.lemmas.List.{append-nil, append_assoc}
use Rattle.std.proofs.lemmas.Option.{same_Some}
use Rattle.std.proofs.lemmas.Slice.Eq.{bytes_eq-Decides}
use Rattle.chain_defs.specs.Schema.{OutPoint, CellOutput, Transaction, Block}
use Rattle.chain_defs.specs.Kept.{block_at}
use Rattle.chain_defs.specs.Hashes.{transaction_hash, are_distinct}
use Rattle.chain_defs.specs.Branch.{branch, branch_places}
use Rattle.chain_defs.proofs.KeptLaws.{slice_get-below}
use Rattle.chain_defs.specs.Cell.{Cell, data_of}
use Rattle.chain_defs.specs.Events.{Event, Makes, makes_from, makes_of, events_of, events_from, events_of_block, events, names, last_naming, cell_after}
use Rattle.chain_defs.proofs.EventLemmas.{cell_after-push}
use Rattle.chain_defs.proofs.JoinLemmas.{events-push}
use Rattle.verdict_defs.specs.Rules.{first_broken}
use Rattle.verdict_defs.specs.Chain.{Chain}
use Rattle.store_defs.specs.Store.{IsJoined}
use Rattle.store_defs.specs.JoinedLaws.{EventsFit}
use Rattle.store_defs.proofs.RuleLemmas.{distinct-good}
use Rattle.store_defs.proofs.KeptLemmas.{grows}
use Rattle.store_defs.proofs.EventFit.{FitAfter, FitAfter-append, all-fit-from-nothing}
use Rattle.store_defs.proofs.TransactionFit.{made_point, makes-fit}
use Rattle.store_defs.proofs.FitLaws.{block-fits}

-- ---- The genesis

-- no out-point of these transactions is live
abbrev AllFree : List Event → List Transaction → Type 0
AllFree front [] = Unit {0}
AllFree front (t ∷ later) = ((i : ℕ) → is_some (cell_after front (made_point t i)) ≡ false) × AllFree front later

-- none is after nothing
free-first : (txs : List Transaction) → AllFree [] txs
unfolding cell_after last_naming
free-first [] = tt
free-first (t ∷ later) = (λ i. refl, free-first later)

-- what a transaction makes leaves the out-points of another hash
made-elsewhere : (index : ℕ) (outputs : List CellOutput) (t : Transaction) (height place : ℕ) (front : List Event) (o : OutPoint)
    → bytes_eq (transaction_hash t) o.tx_hash ≡ false → is_some (cell_after front o) ≡ false
    → is_some (cell_after (front ++ makes_from index outputs t height place) o) ≡ false
made-elsewhere index [] t height place front o apart free = ap (λ (all : List Event). is_some (cell_after all o)) (append-nil front) ∙ free
made-elsewhere index (output ∷ outputs) t height place front o apart free =
    ap (λ (all : List Event). is_some (cell_after all o)) (sym (append_assoc front (made ∷ []) (makes_from (index + 1) outputs t height place)))
    ∙ made-elsewhere (index + 1) outputs t height place (front ++ made ∷ []) o apart
    (ap is_some (cell_after-push front made o ∙ ap (λ (b : Bool). cond b (Some cell) (cell_after front o)) unnamed) ∙ free)
  where
    cell : Cell
    cell = record { output = output; content = data_of t index; height = height; transaction = place }

    made : Event
    made = Makes (made_point t index) cell

    unnamed : names o made ≡ false
    unnamed = ap (λ (b : Bool). b && (index == o.index)) apart

-- a hash apart from another, the other way round
pub apart-too : (one other : List ℕ) → bytes_eq other one ≡ false → bytes_eq one other ≡ false
apart-too one other apart = false_from_ne_true (bytes_eq one other) same
  where
    same : bytes_eq one other ≡ true → ⊥
    same is = let again : bytes_eq other one ≡ true = (bytes_eq-Decides other one).1 (sym ((bytes_eq-Decides one other).0 is)) in cc

free-after : (t : Transaction) (height place : ℕ) (front : List Event) (later : List Transaction)
    → list_any (λ other. bytes_eq other (transaction_hash t)) (map transaction_hash later) ≡ false → AllFree front later
    → AllFree (front ++ makes_of t height place) later
free-after t height place front [] apart free = tt
free-after t height place front (next ∷ later) apart free =
    let parts = or_parts (bytes_eq (transaction_hash next) (transaction_hash t))
    (list_any (λ other. bytes_eq other (transaction_hash t)) (map transaction_hash later)) apart in (
      λ i. made-elsewhere 0 t.raw.outputs t height place front (made_point next i) (apart-too (transaction_hash t) (transaction_hash next) parts.0) (free.0 i),
      free-after t height place front later parts.1 free.1,
    )

genesis-from : (front : List Event) (place : ℕ) (txs : List Transaction) → are_distinct (map transaction_hash txs) ≡ true → AllFree front txs
    → FitAfter front (events_from place txs 0)
genesis-from front place [] distinct free = tt
genesis-from front place (t ∷ later) distinct free =
    let twice : Bool = list_any (λ other. bytes_eq other (transaction_hash t)) (map transaction_hash later) in
    let parts = and_parts (not twice) (are_distinct (map transaction_hash later)) distinct in
    FitAfter-append front (events_of t 0 place) (events_from (place + 1) later 0) (makes-fit 0 t.raw.outputs t 0 place front (λ i least below. free.0 i))
    (genesis-from (front ++ events_of t 0 place) (place + 1) later parts.1 (free-after t 0 place front later (not-true twice parts.0) free.1))

-- ---- A branch

-- that of the genesis is the genesis alone
pub first-branch : (blocks : List Block) (genesis : Block) → block_at blocks 0 ≡ Some genesis → branch blocks 0 ≡ genesis ∷ []
unfolding branch_places
first-branch [] genesis there = absurd (cc)
first-branch (first ∷ later) genesis there = ap (λ (b : Block). b ∷ []) (same_Some first genesis there)

fit-up-to : (chain : Chain) → IsJoined chain → (most place : ℕ) → place < most → place < length chain.blocks → FitAfter [] (events (branch chain.blocks place))
unfolding events_of_block events
fit-up-to chain joined zero place few below = absurd (omega (arith, few))
fit-up-to chain joined (suc most) zero few below =
    subst (λ (blocks : List Block). FitAfter [] (events blocks)) (sym (first-branch chain.blocks joined.genesis joined.first))
    (subst (FitAfter []) (sym (append-nil (events_from 0 joined.genesis.transactions 0)))
    (genesis-from [] 0 joined.genesis.transactions
    (and_parts (nat_lt 0 (length joined.genesis.transactions)) (are_distinct (map transaction_hash joined.genesis.transactions))
    (distinct-good joined.genesis joined.good)).1
    (free-first joined.genesis.transactions)))
fit-up-to chain joined (suc most) (suc before) few below =
    let here = slice_get-below chain.blocks (suc before) below in
    let up = grows chain (suc before) here.0 joined (omega arith) here.1 in
    let on : List Block = branch chain.blocks up.may.parent in
    subst (λ (blocks : List Block). FitAfter [] (events blocks)) (sym up.grown)
    (subst (FitAfter []) (sym (events-push on here.0))
    (FitAfter-append [] (events on) (events_of_block (length on) here.0)
    (fit-up-to chain joined most up.may.parent (omega (arith, up.below, few)) (omega (arith, up.below, below)))
    (block-fits chain.spec on here.0 (ap (λ (blocks : List Block). first_broken chain.spec blocks here.0) (sym up.on) ∙ up.may.unbroken))))

pub events-fit : EventsFit
events-fit chain place joined below =
    all-fit-from-nothing (events (branch chain.blocks place)) (fit-up-to chain joined (suc place) place (omega arith) below)
