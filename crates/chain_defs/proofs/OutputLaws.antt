-- A live cell is an output, with its out-point, of the block at its height.
use Rattle.std.proofs.Common.{◌≡◌, ℕ, suc, ◌+◌, ◌<◌, ◌⊎◌, inl, inr, Bool, true, false, cond, List, [], ◌∷◌, ◌++◌, length, map, take, min, Some, refl, sym, ap, ◌∙◌, subst, arith}
use Rattle.std.specs.Prelude.{slice_get, ◌==◌, ◌||◌}
use Rattle.std.proofs.lemmas.List.{length-take}
use Rattle.std.proofs.lemmas.Option.{slice_get_within}
use Rattle.chain_defs.specs.Schema.{OutPoint, CellInput, CellOutput, Transaction, Block}
use Rattle.chain_defs.specs.Kept.{block_at}
use Rattle.chain_defs.specs.Hashes.{transaction_hash}
use Rattle.chain_defs.proofs.KeptLaws.{slice_get-take}
use Rattle.chain_defs.specs.Cell.{Cell, data_of}
use Rattle.chain_defs.specs.Events.{Spends, makes_from, makes_of, spends_of, events_of, events_from, events_of_block, events_of_blocks, events}
use Rattle.chain_defs.specs.Row.{IsOutputOf}
use Rattle.chain_defs.specs.CellLaws.{CellsAreOutputs, SeenCellsAreOutputs}
use Rattle.chain_defs.proofs.EventLemmas.{EachMade, EachMade-append, EachMade-then, made-live}

-- some elements stand in a list, the first of them at a place
abbrev pub StandsFrom : {X : Type 0} → ℕ → List X → List X → Type 0
StandsFrom {X} place some all = (k : ℕ) (x : X) → slice_get some k ≡ Some x → slice_get all (place + k) ≡ Some x

pub StandsFrom-rest : {X : Type 0} (place : ℕ) (x : X) (rest all : List X) → StandsFrom place (x ∷ rest) all → StandsFrom (place + 1) rest all
StandsFrom-rest {X} place x rest all stands k y there =
    let at : place + suc k ≡ (place + 1) + k = omega arith in subst (λ (i : ℕ). slice_get all i ≡ Some y) at (stands (suc k) y there)

pub StandsFrom-first : {X : Type 0} (place : ℕ) (x : X) (rest all : List X) → StandsFrom place (x ∷ rest) all → slice_get all place ≡ Some x
StandsFrom-first {X} place x rest all stands =
    let at : place + 0 ≡ place = omega arith in subst (λ (i : ℕ). slice_get all i ≡ Some x) at (stands 0 x refl)

pub StandsFrom-all : {X : Type 0} (all : List X) → StandsFrom 0 all all
StandsFrom-all {X} all k x there = let at : k ≡ 0 + k = omega arith in subst (λ (i : ℕ). slice_get all i ≡ Some x) at there

-- ---- A transaction

-- a cell is an output of a transaction, of the one at a place of the block at a height
record IsMadeBy (t : Transaction) (made_at place : ℕ) (o : OutPoint) (cell : Cell) : Type 0 where
  hash : transaction_hash t ≡ o.tx_hash
  output : slice_get t.raw.outputs o.index ≡ Some cell.output
  content : data_of t o.index ≡ cell.content
  pub height : cell.height ≡ made_at
  transaction : cell.transaction ≡ place

made-from : (index : ℕ) (outputs : List CellOutput) (t : Transaction) (height place : ℕ) → StandsFrom index outputs t.raw.outputs
    → EachMade (IsMadeBy t height place) (makes_from index outputs t height place)
made-from index [] t height place stands = tt
made-from index (output ∷ outputs) t height place stands = (
  record {
    hash = refl;
    output = StandsFrom-first index output outputs t.raw.outputs stands;
    content = refl;
    height = refl;
    transaction = refl;
  },
  made-from (index + 1) outputs t height place (StandsFrom-rest index output outputs t.raw.outputs stands),
)

made-by-spends : (P : OutPoint → Cell → Type 0) (inputs : List CellInput) → EachMade P (map (λ input. Spends input.previous_output) inputs)
made-by-spends P [] = tt
made-by-spends P (input ∷ inputs) = made-by-spends P inputs

made-by : (t : Transaction) (height place : ℕ) → EachMade (IsMadeBy t height place) (events_of t height place)
made-by t height place =
    EachMade-append (IsMadeBy t height place) (cond ((height == 0) || (place == 0)) [] (spends_of t)) (makes_of t height place)
    (spends ((height == 0) || (place == 0))) (made-from 0 t.raw.outputs t height place (StandsFrom-all t.raw.outputs))
  where
    spends : (b : Bool) → EachMade (IsMadeBy t height place) (cond b [] (spends_of t))
    spends true = tt
    spends false = made-by-spends (IsMadeBy t height place) t.raw.inputs

-- ---- Transactions of a block

-- a cell is an output of a block, at its height, of a transaction before a place
pub record IsMadeIn (b : Block) (made_at before : ℕ) (o : OutPoint) (cell : Cell) : Type 0 where
  pub height : cell.height ≡ made_at
  pub transaction : cell.transaction < before
  pub is : IsOutputOf b o cell

made-in : (place : ℕ) (transactions : List Transaction) (height : ℕ) (b : Block) → StandsFrom place transactions b.transactions
    → EachMade (IsMadeIn b height (place + length transactions)) (events_from place transactions height)
made-in place [] height b stands = tt
made-in place (t ∷ later) height b stands =
    EachMade-append (IsMadeIn b height (place + length (t ∷ later))) (events_of t height place) (events_from (place + 1) later height)
    (EachMade-then (IsMadeBy t height place) (IsMadeIn b height (place + length (t ∷ later))) (events_of t height place) here (made-by t height place))
    (EachMade-then (IsMadeIn b height ((place + 1) + length later)) (IsMadeIn b height (place + length (t ∷ later))) (events_from (place + 1) later height) wider
    (made-in (place + 1) later height b (StandsFrom-rest place t later b.transactions stands)))
  where
    here : (o : OutPoint) (cell : Cell) → IsMadeBy t height place o cell → IsMadeIn b height (place + length (t ∷ later)) o cell
    here o cell is = record {
      height = is.height;
      transaction = omega (arith, is.transaction);
      is = record {
        t = t;
        there = ap (slice_get b.transactions) is.transaction ∙ StandsFrom-first place t later b.transactions stands;
        hash = is.hash;
        output = is.output;
        content = is.content;
      };
    }

    wider : (o : OutPoint) (cell : Cell) → IsMadeIn b height ((place + 1) + length later) o cell → IsMadeIn b height (place + length (t ∷ later)) o cell
    wider o cell is = record { height = is.height; transaction = omega (arith, is.transaction); is = is.is }

-- What a block makes are its outputs.
pub made-in-block : (height : ℕ) (b : Block) → EachMade (IsMadeIn b height (length b.transactions)) (events_of_block height b)
unfolding events_of_block
made-in-block height b =
    let all : 0 + length b.transactions ≡ length b.transactions = omega arith in
    subst (λ (before : ℕ). EachMade (IsMadeIn b height before) (events_of_block height b)) all
    (made-in 0 b.transactions height b (StandsFrom-all b.transactions))

-- ---- Blocks

-- a cell is an output of the block at its height
pub record IsMadeOn (blocks : List Block) (o : OutPoint) (cell : Cell) : Type 0 where
  pub b : Block
  pub there : block_at blocks cell.height ≡ Some b
  pub is : IsOutputOf b o cell

made-on : (height : ℕ) (some blocks : List Block) → StandsFrom height some blocks → EachMade (IsMadeOn blocks) (events_of_blocks height some)
made-on height [] blocks stands = tt
made-on height (b ∷ later) blocks stands =
    EachMade-append (IsMadeOn blocks) (events_of_block height b) (events_of_blocks (height + 1) later)
    (EachMade-then (IsMadeIn b height (length b.transactions)) (IsMadeOn blocks) (events_of_block height b) here (made-in-block height b))
    (made-on (height + 1) later blocks (StandsFrom-rest height b later blocks stands))
  where
    here : (o : OutPoint) (cell : Cell) → IsMadeIn b height (length b.transactions) o cell → IsMadeOn blocks o cell
    here o cell is = record {
      b = b;
      there = ap (block_at blocks) is.height ∙ StandsFrom-first height b later blocks stands;
      is = is.is;
    }

pub made-on-branch : (blocks : List Block) → EachMade (IsMadeOn blocks) (events blocks)
unfolding events
made-on-branch blocks = made-on 0 blocks blocks (StandsFrom-all blocks)

pub cells-are-outputs : CellsAreOutputs
cells-are-outputs blocks o cell live =
    let made = made-live (IsMadeOn blocks) (events blocks) o cell (made-on-branch blocks) live in
    (made.b, made.there, made.is)

-- ---- What a transaction of a block sees

abbrev IsSeen : List Block → Block → ℕ → OutPoint → Cell → Type 0
IsSeen blocks b place o cell = ((made : Block) × (block_at blocks cell.height ≡ Some made) × IsOutputOf made o cell)
    ⊎ ((cell.height ≡ length blocks) × (cell.transaction < place) × IsOutputOf b o cell)

pub seen-cells-are-outputs : SeenCellsAreOutputs
seen-cells-are-outputs blocks b place o cell seen =
    made-live (IsSeen blocks b place) (events blocks ++ events_from 0 (take place b.transactions) (length blocks)) o cell
    (EachMade-append (IsSeen blocks b place) (events blocks) (events_from 0 (take place b.transactions) (length blocks))
    (EachMade-then (IsMadeOn blocks) (IsSeen blocks b place) (events blocks) (λ o cell is. inl (is.b, is.there, is.is)) (made-on-branch blocks))
    (EachMade-then (IsMadeIn b (length blocks) (0 + length (take place b.transactions))) (IsSeen blocks b place)
    (events_from 0 (take place b.transactions) (length blocks)) earlier
    (made-in 0 (take place b.transactions) (length blocks) b front)))
    seen
  where
    earlier : (o : OutPoint) (cell : Cell) → IsMadeIn b (length blocks) (0 + length (take place b.transactions)) o cell → IsSeen blocks b place o cell
    earlier o cell is =
        let long : length (take place b.transactions) ≡ min place (length b.transactions) = length-take place b.transactions in
        inr (is.height, omega (arith, is.transaction, long), is.is)

    front : StandsFrom 0 (take place b.transactions) b.transactions
    front k t there =
        let within : k < length (take place b.transactions) = slice_get_within (take place b.transactions) k t there in
        let long : length (take place b.transactions) ≡ min place (length b.transactions) = length-take place b.transactions in
        let at : k ≡ 0 + k = omega arith in
        subst (λ (i : ℕ). slice_get b.transactions i ≡ Some t) at (sym (slice_get-take place b.transactions k (omega (arith, within, long))) ∙ there)
