-- What the sums are at the genesis: what its outputs hold and occupy, and nothing unpaid or burned.
use Rattle.std.proofs.Common.{◌≡◌, ℕ, zero, suc, ◌+◌, ◌-◌, ◌<◌, List, [], ◌∷◌, ◌++◌, take, Some, None, refl, sym, ap, ◌∙◌, subst, arith}
use Rattle.std.specs.List.{sum_by, range_with_len}
use Rattle.std.proofs.lemmas.List.{append-nil, append_assoc}
use Rattle.std.proofs.lemmas.List.Sums.{sum_by-cons}
use Rattle.chain_defs.specs.Schema.{Transaction, Block}
use Rattle.chain_defs.specs.First.{first_failing}
use Rattle.chain_defs.specs.Specification.{Specification}
use Rattle.chain_defs.specs.Kept.{block_at}
use Rattle.chain_defs.specs.Branch.{branch_places, branch}
use Rattle.chain_defs.specs.Cell.{Cell}
use Rattle.chain_defs.specs.Events.{Event, makes_of, events_from, events_of_block, events, cell_after}
use Rattle.chain_defs.specs.Fit.{are_live, none_live, live_after, AllFit}
use Rattle.chain_defs.proofs.FitLemmas.{fits-same, fits-between, live-from-nothing}
use Rattle.chain_defs.specs.LiveCells.{live_cells}
use Rattle.rule_defs.specs.Genesis.{genesis_rules}
use Rattle.rule_defs.specs.Capacity.{held_out}
use Rattle.rule_defs.specs.Field.{made_by}
use Rattle.rule_defs.specs.Reward.{part}
use Rattle.verdict_defs.specs.Chain.{Chain}
use Rattle.verdict_defs.specs.Laws.{MayJoin}
use Rattle.store_defs.specs.Store.{IsJoined}
use Rattle.store_defs.proofs.EventFit.{FitAfter}
use Rattle.store_defs.proofs.EventsFitLaws.{events-fit}
use Rattle.supply_defs.specs.Sums.{capacity_of, occupied_of, sum_of_live, live_capacity, live_occupied, first_unpaid, unpaid, burned_at, burned, Sums}
use Rattle.supply_defs.specs.Laws.{StartsWithItsOutputs}
use Rattle.supply_defs.proofs.Events.{all_made, all_spent, made-append, spent-append, live-moves, capacity-made, occupied-made, makes-spend-none}

-- ---- Events that fit from nothing on

fit-from-nothing : (earlier later : List Event) → AllFit (earlier ++ later) none_live → FitAfter earlier later
fit-from-nothing earlier [] fit = tt
fit-from-nothing earlier (event ∷ later) fit = (
  sym (fits-same (are_live (cell_after earlier)) (live_after earlier none_live) event (λ o. live-from-nothing earlier o))
      ∙ fits-between (earlier ++ event ∷ later) earlier event later none_live fit refl,
  fit-from-nothing (earlier ++ event ∷ []) later (subst (λ (all : List Event). AllFit all none_live) (sym (append_assoc earlier (event ∷ []) later)) fit),
)

abbrev alone : Specification → Block → Chain
alone spec genesis = record { spec = spec; blocks = genesis ∷ [] }

-- a genesis alone has joined
joined-alone : (spec : Specification) (genesis : Block) → first_failing (genesis_rules genesis) ≡ None → IsJoined (alone spec genesis)
joined-alone spec genesis good = record { genesis = genesis; first = refl; good = good; each = each }
  where
    each : (place : ℕ) (b : Block) → 0 < place → block_at (genesis ∷ []) place ≡ Some b → MayJoin spec (take place (genesis ∷ [])) b
    each zero b above there = absurd (omega (arith, above))
    each (suc place) b above there = absurd (cc)

branch-alone : (genesis : Block) → branch (genesis ∷ []) 0 ≡ genesis ∷ []
unfolding branch_places
branch-alone genesis = refl

genesis-fits : (spec : Specification) (genesis : Block) → first_failing (genesis_rules genesis) ≡ None → FitAfter [] (events (genesis ∷ []))
genesis-fits spec genesis good =
    fit-from-nothing [] (events (genesis ∷ []))
    (subst (λ (blocks : List Block). AllFit (events blocks) none_live) (branch-alone genesis)
    (events-fit (alone spec genesis) 0 (joined-alone spec genesis good) (omega arith)))

-- ---- What its transactions make

start-capacity : (place : ℕ) (txs : List Transaction) → all_made capacity_of (events_from place txs 0) ≡ sum_by held_out txs
unfolding all_made held_out
start-capacity place [] = refl
start-capacity place (t ∷ later) =
    let rest = start-capacity (place + 1) later in
    let whole = made-append capacity_of (makes_of t 0 place) (events_from (place + 1) later 0) in
    let own = capacity-made 0 t.raw.outputs t 0 place in
    let sums = sum_by-cons held_out t later in
    omega (arith, rest, whole, own, sums)

start-occupied : (place : ℕ) (txs : List Transaction) → all_made occupied_of (events_from place txs 0) ≡ sum_by made_by txs
unfolding all_made
start-occupied place [] = refl
start-occupied place (t ∷ later) =
    let rest = start-occupied (place + 1) later in
    let whole = made-append occupied_of (makes_of t 0 place) (events_from (place + 1) later 0) in
    let own = occupied-made t 0 place in
    let sums = sum_by-cons made_by t later in
    omega (arith, rest, whole, own, sums)

start-spends-none : (number : Cell → ℕ) (earlier : List Event) (place : ℕ) (txs : List Transaction) → all_spent number earlier (events_from place txs 0) ≡ 0
unfolding all_spent
start-spends-none number earlier place [] = refl
start-spends-none number earlier place (t ∷ later) =
    let rest = start-spends-none number (earlier ++ makes_of t 0 place) (place + 1) later in
    let whole = spent-append number earlier (makes_of t 0 place) (events_from (place + 1) later 0) in
    let own = makes-spend-none number earlier 0 t.raw.outputs t 0 place in
    omega (arith, rest, whole, own)

genesis-events : (genesis : Block) → events (genesis ∷ []) ≡ events_from 0 genesis.transactions 0
unfolding events events_of_block
genesis-events genesis = append-nil (events_from 0 genesis.transactions 0)

start-live : (number : Cell → ℕ) (spec : Specification) (genesis : Block) → first_failing (genesis_rules genesis) ≡ None
    → sum_of_live number (events (genesis ∷ [])) ≡ all_made number (events_from 0 genesis.transactions 0)
unfolding live_cells
start-live number spec genesis good =
    let moves = live-moves number [] (events (genesis ∷ [])) (genesis-fits spec genesis good) in
    let none : all_spent number [] (events (genesis ∷ [])) ≡ 0 = ap (all_spent number []) (genesis-events genesis) ∙ start-spends-none number [] 0 genesis.transactions in
    let made : all_made number (events (genesis ∷ [])) ≡ all_made number (events_from 0 genesis.transactions 0) = ap (all_made number) (genesis-events genesis) in
    let empty : sum_of_live number [] ≡ 0 = refl in
    omega (arith, moves, none, made, empty)

start-unpaid : (spec : Specification) (genesis : Block) → unpaid spec (genesis ∷ []) ≡ 0
unfolding unpaid
start-unpaid spec genesis =
    let none : 1 - first_unpaid spec (genesis ∷ []) ≡ 0 = omega arith in
    ap (λ (n : ℕ). sum_by (part spec (genesis ∷ [])) (range_with_len (first_unpaid spec (genesis ∷ [])) n)) none

start-burned : (spec : Specification) (genesis : Block) → burned spec (genesis ∷ []) ≡ 0
unfolding burned
start-burned spec genesis =
    let none : 1 - (spec.w_far + 2) ≡ 0 = omega arith in
    ap (λ (n : ℕ). sum_by (burned_at spec (genesis ∷ [])) (range_with_len (spec.w_far + 2) n)) none

abbrev sums : ℕ → ℕ → ℕ → ℕ → Sums
sums live occupied unpaid burned = record { live = live; occupied = occupied; unpaid = unpaid; burned = burned }

pub starts-with-its-outputs : StartsWithItsOutputs
unfolding live_capacity live_occupied
starts-with-its-outputs spec genesis good =
    (λ i. sums ((start-live capacity_of spec genesis good ∙ start-capacity 0 genesis.transactions) i)
    ((start-live occupied_of spec genesis good ∙ start-occupied 0 genesis.transactions) i) (start-unpaid spec genesis i) (start-burned spec genesis i))
