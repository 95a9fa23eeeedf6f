-- What blocks make and spend: just their outputs, and just their inputs but those of the genesis and of cellbases.
use Rattle.std.proofs.Common.{◌≡◌, ℕ, zero, suc, ◌+◌, ◌<◌, Bool, true, false, cond, List, [], ◌∷◌, map, Some, refl, sym, ap, ◌∙◌, subst, arith}
use Rattle.std.specs.Prelude.{slice_get, ◌==◌, ◌||◌}
use Rattle.std.specs.List.{Contains}
use Rattle.std.proofs.lemmas.Bool.{ne_eqb, eqb-false}
use Rattle.std.proofs.lemmas.List.Elements.{Contains-append_left, Contains-append_right}
use Rattle.std.proofs.lemmas.Option.{same_Some}
use Rattle.chain_defs.specs.Schema.{OutPoint, CellInput, CellOutput, Transaction, Block}
use Rattle.chain_defs.specs.Kept.{block_at}
use Rattle.chain_defs.specs.Hashes.{transaction_hash}
use Rattle.chain_defs.specs.Cell.{Cell, data_of}
use Rattle.chain_defs.specs.Events.{Event, Makes, Spends, makes_from, makes_of, spends_of, events_of, events_from, events_of_block, events_of_blocks, events}
use Rattle.chain_defs.specs.Row.{IsOutputOf}
use Rattle.chain_defs.specs.CellLaws.{IsInputOf, MakesAreOutputs, SpendsAreInputs}
use Rattle.chain_defs.proofs.EventLemmas.{EachSpent, EachSpent-append, EachSpent-then, made-contained, spent-contained}
use Rattle.chain_defs.proofs.OutputLaws.{StandsFrom, StandsFrom-rest, StandsFrom-first, StandsFrom-all, IsMadeOn, made-on-branch}

Contains-first : (event : Event) (later : List Event) → Contains (event ∷ later) event
Contains-first event later = (0, omega arith, refl)

-- ---- Each is among the events

-- an event of a transaction is one of its block
among-transactions : (from place : ℕ) (transactions : List Transaction) (height : ℕ) (t : Transaction) (event : Event) → slice_get transactions place ≡ Some t
    → Contains (events_of t height (from + place)) event → Contains (events_from from transactions height) event
among-transactions from place [] height t event there has = absurd (cc)
among-transactions from zero (first ∷ later) height t event there has =
    let at : from + 0 ≡ from = omega arith in
    Contains-append_left (events_of first height from) (events_from (from + 1) later height) event
    (subst (λ (place : ℕ). Contains (events_of first height place) event) at
    (subst (λ (x : Transaction). Contains (events_of x height (from + 0)) event) (sym (same_Some first t there)) has))
among-transactions from (suc place) (first ∷ later) height t event there has =
    let at : from + suc place ≡ (from + 1) + place = omega arith in
    Contains-append_right (events_of first height from) (events_from (from + 1) later height) event
    (among-transactions (from + 1) place later height t event there (subst (λ (n : ℕ). Contains (events_of t height n) event) at has))

-- an event of a block is one of its branch
among-blocks : (from height : ℕ) (blocks : List Block) (b : Block) (event : Event) → block_at blocks height ≡ Some b
    → Contains (events_of_block (from + height) b) event → Contains (events_of_blocks from blocks) event
among-blocks from height [] b event there has = absurd (cc)
among-blocks from zero (first ∷ later) b event there has =
    let at : from + 0 ≡ from = omega arith in
    Contains-append_left (events_of_block from first) (events_of_blocks (from + 1) later) event
    (subst (λ (n : ℕ). Contains (events_of_block n first) event) at
    (subst (λ (x : Block). Contains (events_of_block (from + 0) x) event) (sym (same_Some first b there)) has))
among-blocks from (suc height) (first ∷ later) b event there has =
    let at : from + suc height ≡ (from + 1) + height = omega arith in
    Contains-append_right (events_of_block from first) (events_of_blocks (from + 1) later) event
    (among-blocks (from + 1) height later b event there (subst (λ (n : ℕ). Contains (events_of_block n b) event) at has))

among-branch : (blocks : List Block) (height place : ℕ) (b : Block) (t : Transaction) (event : Event) → block_at blocks height ≡ Some b
    → slice_get b.transactions place ≡ Some t → Contains (events_of t height place) event → Contains (events blocks) event
unfolding events events_of_block
among-branch blocks height place b t event there t_there has =
    let first : place ≡ 0 + place = omega arith in
    let genesis : height ≡ 0 + height = omega arith in
    among-blocks 0 height blocks b event there
    (subst (λ (h : ℕ). Contains (events_from 0 b.transactions h) event) genesis
    (among-transactions 0 place b.transactions height t event t_there (subst (λ (n : ℕ). Contains (events_of t height n) event) first has)))

-- ---- Makes

abbrev make : Transaction → ℕ → CellOutput → ℕ → ℕ → Event
make t index output height place =
    Makes (record { tx_hash = transaction_hash t; index = index }) (record { output = output; content = data_of t index; height = height; transaction = place })

among-makes : (from index : ℕ) (outputs : List CellOutput) (t : Transaction) (height place : ℕ) (output : CellOutput) → slice_get outputs index ≡ Some output
    → Contains (makes_from from outputs t height place) (make t (from + index) output height place)
among-makes from index [] t height place output there = absurd (cc)
among-makes from zero (first ∷ later) t height place output there =
    let at : from ≡ from + 0 = omega arith in
    subst (λ (n : ℕ). Contains (makes_from from (first ∷ later) t height place) (make t n output height place)) at
    (subst (λ (x : CellOutput). Contains (makes_from from (first ∷ later) t height place) (make t from x height place)) (same_Some first output there)
    (Contains-first (make t from first height place) (makes_from (from + 1) later t height place)))
among-makes from (suc index) (first ∷ later) t height place output there =
    let at : (from + 1) + index ≡ from + suc index = omega arith in
    Contains-append_right (make t from first height place ∷ []) (makes_from (from + 1) later t height place) (make t (from + suc index) output height place)
    (subst (λ (n : ℕ). Contains (makes_from (from + 1) later t height place) (make t n output height place)) at
    (among-makes (from + 1) index later t height place output there))

abbrev with_parts : List ℕ → ℕ → CellOutput → List ℕ → ℕ → ℕ → Event
with_parts hash index output content height place =
    Makes (record { tx_hash = hash; index = index }) (record { output = output; content = content; height = height; transaction = place })

output-made : (blocks : List Block) (o : OutPoint) (cell : Cell) (b : Block) → block_at blocks cell.height ≡ Some b → IsOutputOf b o cell
    → Contains (events blocks) (Makes o cell)
output-made blocks o cell b there is =
    let at : 0 + o.index ≡ o.index = omega arith in
    let same : make is.t (0 + o.index) cell.output cell.height cell.transaction ≡ Makes o cell =
    ap (λ (index : ℕ). make is.t index cell.output cell.height cell.transaction) at
    ∙ ap (λ (hash : List ℕ). with_parts hash o.index cell.output (data_of is.t o.index) cell.height cell.transaction) is.hash
    ∙ ap (λ (content : List ℕ). with_parts o.tx_hash o.index cell.output content cell.height cell.transaction) is.content in
    among-branch blocks cell.height cell.transaction b is.t (Makes o cell) there is.there
    (Contains-append_right (cond ((cell.height == 0) || (cell.transaction == 0)) [] (spends_of is.t)) (makes_of is.t cell.height cell.transaction) (Makes o cell)
    (subst (Contains (makes_of is.t cell.height cell.transaction)) same
    (among-makes 0 o.index is.t.raw.outputs is.t cell.height cell.transaction cell.output is.output)))

pub makes-are-outputs : MakesAreOutputs
makes-are-outputs blocks o cell = (
  λ has. let made = made-contained (IsMadeOn blocks) (events blocks) o cell (made-on-branch blocks) has in (made.b, made.there, made.is),
  λ made. output-made blocks o cell made.0 made.1 made.2,
)

-- ---- Spends

among-spends : (index : ℕ) (inputs : List CellInput) (input : CellInput) → slice_get inputs index ≡ Some input
    → Contains (map (λ i. Spends i.previous_output) inputs) (Spends input.previous_output)
among-spends index [] input there = absurd (cc)
among-spends zero (first ∷ later) input there =
    subst (λ (x : CellInput). Contains (map (λ i. Spends i.previous_output) (first ∷ later)) (Spends x.previous_output)) (same_Some first input there)
    (Contains-first (Spends first.previous_output) (map (λ i. Spends i.previous_output) later))
among-spends (suc index) (first ∷ later) input there =
    Contains-append_right (Spends first.previous_output ∷ []) (map (λ i. Spends i.previous_output) later) (Spends input.previous_output)
    (among-spends index later input there)

input-spent : (blocks : List Block) (o : OutPoint) (height : ℕ) (b : Block) → 0 < height → block_at blocks height ≡ Some b → IsInputOf b o
    → Contains (events blocks) (Spends o)
input-spent blocks o height b above there is =
    let no_genesis : (height == 0) ≡ false = ne_eqb height 0 (λ same. omega (arith, same, above)) in
    let no_cellbase : (is.place == 0) ≡ false = ne_eqb is.place 0 (λ same. omega (arith, same, is.later)) in
    let neither : ((height == 0) || (is.place == 0)) ≡ false =
    ap (λ (x : Bool). x || (is.place == 0)) no_genesis ∙ no_cellbase in
    among-branch blocks height is.place b is.t (Spends o) there is.there
    (Contains-append_left (cond ((height == 0) || (is.place == 0)) [] (spends_of is.t)) (makes_of is.t height is.place) (Spends o)
    (subst (λ (x : Bool). Contains (cond x [] (spends_of is.t)) (Spends o)) (sym neither)
    (subst (λ (x : OutPoint). Contains (spends_of is.t) (Spends x)) is.out_point (among-spends is.index is.t.raw.inputs is.input is.is_input))))

-- an out-point is that of an input of a transaction
record IsSpentBy (t : Transaction) (o : OutPoint) : Type 0 where
  index : ℕ
  input : CellInput
  there : slice_get t.raw.inputs index ≡ Some input
  out_point : input.previous_output ≡ o

spent-by : (index : ℕ) (inputs : List CellInput) (t : Transaction) → StandsFrom index inputs t.raw.inputs
    → EachSpent (IsSpentBy t) (map (λ i. Spends i.previous_output) inputs)
spent-by index [] t stands = tt
spent-by index (input ∷ later) t stands = (
  record { index = index; input = input; there = StandsFrom-first index input later t.raw.inputs stands; out_point = refl },
  spent-by (index + 1) later t (StandsFrom-rest index input later t.raw.inputs stands),
)

spent-by-makes : (P : OutPoint → Type 0) (index : ℕ) (outputs : List CellOutput) (t : Transaction) (height place : ℕ)
    → EachSpent P (makes_from index outputs t height place)
spent-by-makes P index [] t height place = tt
spent-by-makes P index (output ∷ later) t height place = spent-by-makes P (index + 1) later t height place

-- an input of a transaction of a block, which spends
record IsSpentIn (b : Block) (height : ℕ) (o : OutPoint) : Type 0 where
  above : 0 < height
  is : IsInputOf b o

above_zero : (n : ℕ) → (n ≡ 0 → ⊥) → 0 < n
above_zero zero apart = absurd (apart refl)
above_zero (suc n) apart = omega arith

spent-of : (b : Block) (height place : ℕ) (t : Transaction) → slice_get b.transactions place ≡ Some t → EachSpent (IsSpentIn b height) (events_of t height place)
spent-of b height place t there =
    EachSpent-append (IsSpentIn b height) (cond ((height == 0) || (place == 0)) [] (spends_of t)) (makes_of t height place) (by_test (height == 0) (place == 0) refl refl)
    (spent-by-makes (IsSpentIn b height) 0 t.raw.outputs t height place)
  where
    whole : (0 < height) → (0 < place) → EachSpent (IsSpentIn b height) (spends_of t)
    whole above behind =
        EachSpent-then (IsSpentBy t) (IsSpentIn b height) (spends_of t)
        (λ o is. record {
          above = above;
          is = record {
            place = place;
            later = behind;
            t = t;
            there = there;
            index = is.index;
            input = is.input;
            is_input = is.there;
            out_point = is.out_point;
          };
        })
        (spent-by 0 t.raw.inputs t (StandsFrom-all t.raw.inputs))

    by_test : (genesis cellbase : Bool) → (height == 0) ≡ genesis → (place == 0) ≡ cellbase
        → EachSpent (IsSpentIn b height) (cond (genesis || cellbase) [] (spends_of t))
    by_test true cellbase at_height at_place = tt
    by_test false true at_height at_place = tt
    by_test false false at_height at_place =
        whole (above_zero height (eqb-false height 0 at_height)) (above_zero place (eqb-false place 0 at_place))

spent-in : (place : ℕ) (transactions : List Transaction) (height : ℕ) (b : Block) → StandsFrom place transactions b.transactions
    → EachSpent (IsSpentIn b height) (events_from place transactions height)
spent-in place [] height b stands = tt
spent-in place (t ∷ later) height b stands =
    EachSpent-append (IsSpentIn b height) (events_of t height place) (events_from (place + 1) later height)
    (spent-of b height place t (StandsFrom-first place t later b.transactions stands))
    (spent-in (place + 1) later height b (StandsFrom-rest place t later b.transactions stands))

spent-in-block : (height : ℕ) (b : Block) → EachSpent (IsSpentIn b height) (events_of_block height b)
unfolding events_of_block
spent-in-block height b = spent-in 0 b.transactions height b (StandsFrom-all b.transactions)

-- an input that a branch spends
record IsSpentOn (blocks : List Block) (o : OutPoint) : Type 0 where
  height : ℕ
  b : Block
  there : block_at blocks height ≡ Some b
  is : IsSpentIn b height o

spent-on : (height : ℕ) (some blocks : List Block) → StandsFrom height some blocks → EachSpent (IsSpentOn blocks) (events_of_blocks height some)
spent-on height [] blocks stands = tt
spent-on height (b ∷ later) blocks stands =
    EachSpent-append (IsSpentOn blocks) (events_of_block height b) (events_of_blocks (height + 1) later)
    (EachSpent-then (IsSpentIn b height) (IsSpentOn blocks) (events_of_block height b)
    (λ o is. record { height = height; b = b; there = StandsFrom-first height b later blocks stands; is = is }) (spent-in-block height b))
    (spent-on (height + 1) later blocks (StandsFrom-rest height b later blocks stands))

spent-on-branch : (blocks : List Block) → EachSpent (IsSpentOn blocks) (events blocks)
unfolding events
spent-on-branch blocks = spent-on 0 blocks blocks (StandsFrom-all blocks)

pub spends-are-inputs : SpendsAreInputs
spends-are-inputs blocks o = (
  λ has. let spent = spent-contained (IsSpentOn blocks) (events blocks) o (spent-on-branch blocks) has in
      (spent.height, spent.b, spent.is.above, spent.there, spent.is.is),
  λ spent. input-spent blocks o spent.0 spent.1 spent.2 spent.3 spent.4,
)
