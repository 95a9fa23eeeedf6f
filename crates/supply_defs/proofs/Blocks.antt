-- What a block that breaks no rule moves of the live cells: what its transactions make, less what they spend.
use Rattle.std.proofs.Common.{◌≡◌, ℕ, suc, ◌+◌, ◌<◌, ◌≤◌, ◌^◌, ℤ, pos, ◌+ℤ◌, List, [], ◌∷◌, ◌++◌, length, take, drop, None, refl, sym, ap, ◌∙◌, subst, arith}
use Rattle.std.specs.Prelude.{◌&&◌, nat_lt, nat_le, IsTrue}
use Rattle.std.specs.List.{sum, sum_by}
use Rattle.std.proofs.lemmas.Bool.{and_parts, leb-true}
use Rattle.std.proofs.lemmas.Int.{ints}
use Rattle.std.proofs.lemmas.List.{append-nil, append_assoc, length_push, take_at}
use Rattle.std.proofs.lemmas.List.Elements.{All-head}
use Rattle.std.proofs.lemmas.List.Sums.{sum_by-cons}
use Rattle.chain_defs.specs.Schema.{OutPoint, CellOutput, Transaction, Block}
use Rattle.chain_defs.specs.First.{AllHold}
use Rattle.chain_defs.specs.Specification.{Specification}
use Rattle.chain_defs.specs.Cell.{Cell}
use Rattle.chain_defs.specs.Events.{Event, makes_of, spends_of, events_of, events_from, events_of_block, events, cell_after}
use Rattle.rule_defs.specs.Site.{Site, site_at}
use Rattle.rule_defs.specs.Resolving.{spends_live_cells, inputs}
use Rattle.rule_defs.specs.Capacity.{counted_in, held_out, balances, fee, fees_from, interest}
use Rattle.rule_defs.specs.Field.{made_by, freed_by, freed_from, interest_from}
use Rattle.rule_defs.specs.TransactionRules.{form_rules, cell_rules}
use Rattle.verdict_defs.specs.Scene.{scene_of}
use Rattle.verdict_defs.specs.ScriptRules.{script_rules}
use Rattle.verdict_defs.specs.Transactions.{is_proposed, transaction_rules, left_after, rules_from}
use Rattle.verdict_defs.specs.Rules.{first_broken}
use Rattle.store_defs.proofs.EventFit.{FitAfter}
use Rattle.store_defs.proofs.FitLaws.{block-fits, events_from-push}
use Rattle.store_defs.proofs.RuleLemmas.{holds-prefix, holds-after, transactions-unbroken}
use Rattle.chain_defs.proofs.JoinLemmas.{events-push}
use Rattle.supply_defs.specs.Sums.{capacity_of, occupied_of, sum_of_live, live_capacity, live_occupied}
use Rattle.supply_defs.specs.Step.{fees_of, paid_by}
use Rattle.supply_defs.proofs.Events.{all_made, all_spent, made-append, spent-append, live-moves, fit-split, sum_of_inputs, inputs-spent, inputs-found, capacity-made, occupied-made, makes-spend-none, spends-make-none, cellbase-events, later-events}

-- ---- What the rules on a transaction say

-- J20 and J27 among the rules on it
record Keeps (site : Site) (t : Transaction) : Type 0 where
  live : IsTrue (spends_live_cells site t)
  balanced : IsTrue (balances site t)

keeps-rules : (site : Site) (left : ℕ) (t : Transaction) → AllHold (transaction_rules site left t) → Keeps site t
keeps-rules site left t hold = record {
  live = All-head (λ rule. IsTrue rule.1) (20, spends_live_cells site t) (drop 1 (cell_rules site t)) cells;
  balanced = All-head (λ rule. IsTrue rule.1) (27, balances site t) [] (holds-after (take 7 (cell_rules site t)) (drop 7 (cell_rules site t)) cells);
}
  where
    cells : AllHold (cell_rules site t)
    cells = holds-prefix (cell_rules site t) (script_rules (scene_of site t) left)
        (holds-after (form_rules t ++ (19, is_proposed site.spec site.branch t) ∷ []) (cell_rules site t ++ script_rules (scene_of site t) left) hold)

-- the outputs hold no more than the inputs count
holds-less : (site : Site) (t : Transaction) → IsTrue (balances site t) → held_out t ≤ counted_in site t
holds-less site t balanced =
    leb-true (held_out t) (counted_in site t) (and_parts (nat_lt (counted_in site t) (2 ^ 64) && nat_lt (held_out t) (2 ^ 64)) (nat_le (held_out t) (counted_in site t)) balanced).1

-- ---- One transaction

-- What a transaction makes and spends, by its fee and its interest, and by what its cells occupy.
record Moved (site : Site) (t : Transaction) (front all : List Event) : Type 0 where
  capacity : pos (all_made capacity_of all + fee site t) ≡ pos (all_spent capacity_of front all) +ℤ interest site t
  made : all_made occupied_of all ≡ made_by t
  freed : all_spent occupied_of front all ≡ freed_by site t

freed-found : (site : Site) (t : Transaction) → IsTrue (spends_live_cells site t) → freed_by site t ≡ sum_of_inputs occupied_of site.cell t.raw.inputs
unfolding freed_by
freed-found site t live = inputs-found occupied_of site t live

held-made : (t : Transaction) (height place : ℕ) → all_made capacity_of (makes_of t height place) ≡ held_out t
unfolding held_out
held-made t height place = capacity-made 0 t.raw.outputs t height place

moved-by : (site : Site) (t : Transaction) (front : List Event) (height place : ℕ) → Keeps site t → ((o : OutPoint) → site.cell o ≡ cell_after front o)
    → FitAfter front (spends_of t ++ makes_of t height place) → Moved site t front (spends_of t ++ makes_of t height place)
moved-by site t front height place keeps sees fit = record {
  capacity =
      let spent : all_spent capacity_of front (spends_of t ++ makes_of t height place) ≡ sum_of_inputs capacity_of site.cell t.raw.inputs = all-spent capacity_of in
      let made : all_made capacity_of (spends_of t ++ makes_of t height place) ≡ all_made capacity_of (makes_of t height place) = all-made capacity_of in
      let held = held-made t height place in
      let less = holds-less site t keeps.balanced in
      let found = inputs-found capacity_of site t keeps.live in
      omega (arith, ints, spent, made, held, less, found);
  made = all-made occupied_of ∙ occupied-made t height place;
  freed = all-spent occupied_of ∙ sym (freed-found site t keeps.live);
}
  where
    all-made : (number : Cell → ℕ) → all_made number (spends_of t ++ makes_of t height place) ≡ all_made number (makes_of t height place)
    all-made number =
        let whole = made-append number (spends_of t) (makes_of t height place) in
        let none = spends-make-none number t.raw.inputs in
        omega (arith, whole, none)

    all-spent : (number : Cell → ℕ) → all_spent number front (spends_of t ++ makes_of t height place) ≡ sum_of_inputs number site.cell t.raw.inputs
    all-spent number =
        let whole = spent-append number front (spends_of t) (makes_of t height place) in
        let none = makes-spend-none number (front ++ spends_of t) 0 t.raw.outputs t height place in
        let by_inputs = inputs-spent number site.cell front t.raw.inputs (λ o is. sym (sees o)) (fit-split front (spends_of t) (makes_of t height place) fit).0 in
        omega (arith, whole, none, by_inputs)

-- ---- All after the cellbase

record AllMoved (spec : Specification) (on : List Block) (b : Block) (place : ℕ) (txs : List Transaction) (front all : List Event) : Type 0 where
  capacity : pos (all_made capacity_of all + sum (fees_from spec on b place txs)) ≡ pos (all_spent capacity_of front all) +ℤ interest_from spec on b place txs
  made : all_made occupied_of all ≡ sum_by made_by txs
  freed : all_spent occupied_of front all ≡ freed_from spec on b place txs

none-moved : (spec : Specification) (on : List Block) (b : Block) (place : ℕ) (front : List Event) → AllMoved spec on b place [] front []
unfolding all_made all_spent fees_from interest_from freed_from
none-moved spec on b place front = record { capacity = refl; made = refl; freed = refl }

next-moved : (spec : Specification) (on : List Block) (b : Block) (place : ℕ) (t : Transaction) (later : List Transaction) (front one rest : List Event)
    → Moved (site_at spec on b place) t front one → AllMoved spec on b (suc place) later (front ++ one) rest
    → AllMoved spec on b place (t ∷ later) front (one ++ rest)
unfolding fees_from interest_from freed_from
next-moved spec on b place t later front one rest here behind =
    let capacity_made = made-append capacity_of one rest in
    let capacity_spent = spent-append capacity_of front one rest in
    let fees = sum_by-cons (λ (n : ℕ). n) (fee (site_at spec on b place) t) (fees_from spec on b (suc place) later) in
    let occupied_made = made-append occupied_of one rest in
    let occupied_spent = spent-append occupied_of front one rest in
    let outputs = sum_by-cons made_by t later in
    let capacity_here = here.capacity in
    let capacity_behind = behind.capacity in
    let made_here = here.made in
    let made_behind = behind.made in
    let freed_here = here.freed in
    let freed_behind = behind.freed in
    record {
      capacity = omega (arith, ints, capacity_made, capacity_spent, fees, capacity_here, capacity_behind);
      made = omega (arith, occupied_made, outputs, made_here, made_behind);
      freed = omega (arith, occupied_spent, freed_here, freed_behind);
    }

later-moved : (spec : Specification) (on : List Block) (b : Block) (place left : ℕ) (earlier later : List Transaction) → 0 < length on → 0 < place
    → b.transactions ≡ earlier ++ later → length earlier ≡ place → AllHold (rules_from spec on b place left later)
    → FitAfter (events on ++ events_from 0 earlier (length on)) (events_from place later (length on))
    → AllMoved spec on b place later (events on ++ events_from 0 earlier (length on)) (events_from place later (length on))
unfolding rules_from
later-moved spec on b place left earlier [] above after parts long hold fit = none-moved spec on b place (events on ++ events_from 0 earlier (length on))
later-moved spec on b place left earlier (t ∷ later) above after parts long hold fit =
    next-moved spec on b place t later front (events_of t height place) (events_from (place + 1) later height) here
    (behind (later-moved spec on b (place + 1) (left_after site left t) (earlier ++ t ∷ []) later above (omega arith)
    (parts ∙ sym (append_assoc earlier (t ∷ []) later)) (length_push earlier t ∙ ap (λ (n : ℕ). n + 1) long) hold_later
    (subst (λ (es : List Event). FitAfter es (events_from (place + 1) later height)) (sym more) both.1)))
  where
    height : ℕ
    height = length on

    front : List Event
    front = events on ++ events_from 0 earlier (length on)

    site : Site
    site = site_at spec on b place

    next : suc place ≡ place + 1
    next = omega arith

    before : take place b.transactions ≡ earlier
    before = ap (take place) parts ∙ ap (λ (n : ℕ). take n (earlier ++ t ∷ later)) (sym long) ∙ take_at earlier (t ∷ later) (length earlier) refl

    both : FitAfter front (events_of t height place) × FitAfter (front ++ events_of t height place) (events_from (place + 1) later height)
    both = fit-split front (events_of t height place) (events_from (place + 1) later height) fit

    as_later : events_of t height place ≡ spends_of t ++ makes_of t height place
    as_later = later-events t height place above after

    here : Moved site t front (events_of t height place)
    here = subst (Moved site t front) (sym as_later)
        (moved-by site t front height place
        (keeps-rules site left t (holds-prefix (transaction_rules site left t) (rules_from spec on b (suc place) (left_after site left t) later) hold))
        (λ o. ap (λ (txs : List Transaction). cell_after (events on ++ events_from 0 txs (length on)) o) before)
        (subst (FitAfter front) as_later both.0))

    hold_later : AllHold (rules_from spec on b (place + 1) (left_after site left t) later)
    hold_later =
        subst (λ (n : ℕ). AllHold (rules_from spec on b n (left_after site left t) later)) next
        (holds-after (transaction_rules site left t) (rules_from spec on b (suc place) (left_after site left t) later) hold)

    more : events on ++ events_from 0 (earlier ++ t ∷ []) (length on) ≡ front ++ events_of t (length on) place
    more = ap (λ (behind : List Event). events on ++ behind) (events_from-push 0 earlier t (length on)
        ∙ ap (λ (n : ℕ). events_from 0 earlier (length on) ++ events_of t (length on) n) (at ∙ long))
        ∙ sym (append_assoc (events on) (events_from 0 earlier (length on)) (events_of t (length on) place))
      where
        at : 0 + length earlier ≡ length earlier
        at = omega arith

    behind : AllMoved spec on b (place + 1) later (events on ++ events_from 0 (earlier ++ t ∷ []) (length on)) (events_from (place + 1) later (length on))
        → AllMoved spec on b (suc place) later (front ++ events_of t height place) (events_from (place + 1) later height)
    behind moved =
        subst (λ (n : ℕ). AllMoved spec on b n later (front ++ events_of t height place) (events_from (place + 1) later height)) (sym next)
        (subst (λ (es : List Event). AllMoved spec on b (place + 1) later es (events_from (place + 1) later height)) more moved)

-- ---- The block

-- What the live cells move by: what the cellbase pays, the interest and the fees; and what all its outputs occupy, and what it frees.
pub record LiveMoves (spec : Specification) (on : List Block) (b : Block) : Type 0 where
  pub capacity : pos (live_capacity (on ++ b ∷ []) + fees_of spec on b)
      ≡ pos (live_capacity on + paid_by b) +ℤ interest_from spec on b 1 (drop 1 b.transactions)
  pub occupied : live_occupied (on ++ b ∷ []) + freed_from spec on b 1 (drop 1 b.transactions) ≡ live_occupied on + sum_by made_by b.transactions

abbrev first_outputs : List Transaction → List CellOutput
first_outputs [] = []
first_outputs (first ∷ later) = first.raw.outputs

-- what the events of its transactions sum up to
record BlockMoved (spec : Specification) (on : List Block) (b : Block) (txs : List Transaction) : Type 0 where
  capacity : pos (all_made capacity_of (events_from 0 txs (length on)) + sum (fees_from spec on b 1 (drop 1 txs)))
      ≡ pos (sum_by (λ (output : CellOutput). output.capacity) (first_outputs txs) + all_spent capacity_of (events on) (events_from 0 txs (length on)))
      +ℤ interest_from spec on b 1 (drop 1 txs)
  made : all_made occupied_of (events_from 0 txs (length on)) ≡ sum_by made_by txs
  freed : all_spent occupied_of (events on) (events_from 0 txs (length on)) ≡ freed_from spec on b 1 (drop 1 txs)

live-grows : (number : Cell → ℕ) (spec : Specification) (on : List Block) (b : Block) → first_broken spec on b ≡ None
    → sum_of_live number (events (on ++ b ∷ [])) + all_spent number (events on) (events_of_block (length on) b)
    ≡ sum_of_live number (events on) + all_made number (events_of_block (length on) b)
live-grows number spec on b unbroken =
    ap (λ (all : List Event). sum_of_live number all + all_spent number (events on) (events_of_block (length on) b)) (events-push on b)
    ∙ live-moves number (events on) (events_of_block (length on) b) (block-fits spec on b unbroken)

no-block-moved : (spec : Specification) (on : List Block) (b : Block) → BlockMoved spec on b []
unfolding all_made all_spent fees_from interest_from freed_from
no-block-moved spec on b = record { capacity = refl; made = refl; freed = refl }

-- the cellbase, and the transactions after it
some-block-moved : (spec : Specification) (on : List Block) (b : Block) (first : Transaction) (later : List Transaction) → 0 < length on
    → b.transactions ≡ first ∷ later → AllHold (rules_from spec on b 1 spec.max_cycles later)
    → FitAfter (events on) (events_from 0 (first ∷ later) (length on)) → BlockMoved spec on b (first ∷ later)
some-block-moved spec on b first later above is hold fit =
    let capacity_made = made-append capacity_of one rest in
    let capacity_spent = spent-append capacity_of (events on) one rest in
    let occupied_made = made-append occupied_of one rest in
    let occupied_spent = spent-append occupied_of (events on) one rest in
    let outputs = sum_by-cons made_by first later in
    let held : all_made capacity_of one ≡ sum_by (λ (output : CellOutput). output.capacity) first.raw.outputs =
    ap (all_made capacity_of) as_makes ∙ capacity-made 0 first.raw.outputs first (length on) 0 in
    let occupied : all_made occupied_of one ≡ made_by first = ap (all_made occupied_of) as_makes ∙ occupied-made first (length on) 0 in
    let none_capacity = spends-none capacity_of in
    let none_occupied = spends-none occupied_of in
    let capacity_behind = behind.capacity in
    let made_behind = behind.made in
    let freed_behind = behind.freed in
    record {
      capacity = omega (arith, ints, capacity_made, capacity_spent, held, none_capacity, capacity_behind);
      made = omega (arith, occupied_made, outputs, occupied, made_behind);
      freed = omega (arith, occupied_spent, none_occupied, freed_behind);
    }
  where
    one : List Event
    one = events_of first (length on) 0

    rest : List Event
    rest = events_from 1 later (length on)

    as_makes : one ≡ makes_of first (length on) 0
    as_makes = cellbase-events first (length on)

    spends-none : (number : Cell → ℕ) → all_spent number (events on) one ≡ 0
    spends-none number = ap (all_spent number (events on)) as_makes ∙ makes-spend-none number (events on) 0 first.raw.outputs first (length on) 0

    front : events on ++ events_from 0 (first ∷ []) (length on) ≡ events on ++ one
    front = ap (λ (es : List Event). events on ++ es) (append-nil one)

    behind : AllMoved spec on b 1 later (events on ++ one) rest
    behind =
        subst (λ (es : List Event). AllMoved spec on b 1 later es rest) front
        (later-moved spec on b 1 spec.max_cycles (first ∷ []) later above (omega arith) is refl hold
        (subst (λ (es : List Event). FitAfter es rest) (sym front) (fit-split (events on) one rest fit).1))

block-moved : (spec : Specification) (on : List Block) (b : Block) → 0 < length on → first_broken spec on b ≡ None → BlockMoved spec on b b.transactions
unfolding events_of_block
block-moved spec on b above unbroken =
    by_list b.transactions refl (transactions-unbroken spec on b unbroken) (block-fits spec on b unbroken)
  where
    by_list : (txs : List Transaction) → b.transactions ≡ txs → AllHold (rules_from spec on b 1 spec.max_cycles (drop 1 txs))
        → FitAfter (events on) (events_from 0 txs (length on)) → BlockMoved spec on b txs
    by_list [] is hold fit = no-block-moved spec on b
    by_list (first ∷ later) is hold fit = some-block-moved spec on b first later above is hold fit

pub live-moves-by : (spec : Specification) (on : List Block) (b : Block) → 0 < length on → first_broken spec on b ≡ None → LiveMoves spec on b
unfolding live_capacity live_occupied events_of_block
live-moves-by spec on b above unbroken =
    let moved = block-moved spec on b above unbroken in
    let capacity = live-grows capacity_of spec on b unbroken in
    let occupied = live-grows occupied_of spec on b unbroken in
    let by_capacity = moved.capacity in
    let by_made = moved.made in
    let by_freed = moved.freed in
    record {
      capacity = omega (arith, ints, capacity, by_capacity);
      occupied = omega (arith, occupied, by_made, by_freed);
    }
