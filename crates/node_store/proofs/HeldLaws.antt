-- The live cells of canonical blocks that joined hold what they occupy: by the rules on a genesis and on a transaction, and a cellbase by what it owes.
use Rattle.std.proofs.Common.{◌≡◌, ℕ, zero, suc, ◌+◌, ◌-◌, ◌<◌, ◌≤◌, ◌^◌, Bool, true, false, List, [], ◌∷◌, length, map, take, drop, Option, Some, None, refl, sym, ap, ◌∙◌, subst, arith}
use Rattle.std.specs.Prelude.{not, is_some, slice_get, slice_index, unwrap_or, IsTrue, IsSomeAnd, nat_lt, nat_le, ◌==◌, ◌&&◌, if◌then◌else◌}
use Rattle.std.specs.Option.{option_map, option_and_then}
use Rattle.std.specs.List.{All, Contains, list_all}
use Rattle.std.specs.Str.{bytes_eq}
use Rattle.std.proofs.lemmas.Bool.{and_parts, eqb-true, leb-true, le-leb}
use Rattle.std.proofs.lemmas.List.Elements.{All-nil, All-cons, All-head, All-tail, All-contains_itself}
use Rattle.std.proofs.lemmas.Option.{slice_get_within, same_Some}
use Rattle.std.proofs.lemmas.Slice.Eq.{bytes_eq-Decides}
use Rattle.chain_defs.specs.Shape.{Shape, Encoding, encoded, decoded, all_fit, u64, bytes, option, dynvec, table}
use Rattle.chain_defs.specs.Schema.{Script, script, OutPoint, CellOutput, cell_output, Transaction, transaction, RawTransaction, raw_transaction, CellbaseWitness, cellbase_witness, Block}
use Rattle.chain_defs.proofs.ShapeLaws.{IsEncoding-decoded, decoded-is}
use Rattle.chain_defs.proofs.RowLaws.{script-check}
use Rattle.chain_defs.specs.Dao.{occupied_capacity}
use Rattle.chain_defs.specs.Specification.{Specification}
use Rattle.chain_defs.specs.Kept.{block_at, block_hash}
use Rattle.chain_defs.specs.Branch.{branch, branch_places}
use Rattle.chain_defs.proofs.BranchLaws.{IsBranch-branch}
use Rattle.chain_defs.specs.Cell.{Cell, occupied_by, holds_its_own, data_of}
use Rattle.chain_defs.specs.Events.{live_cell}
use Rattle.chain_defs.specs.Row.{row_of, row_on, live_row, IsOutputOf}
use Rattle.chain_defs.proofs.OutputLaws.{cells-are-outputs}
use Rattle.chain_defs.proofs.WalkLemmas.{every-at}
use Rattle.rule_defs.specs.Cellbase.{has_plain_output, lock_named, forms_cellbase}
use Rattle.rule_defs.specs.Reward.{part}
use Rattle.rule_defs.specs.Payment.{Owed, NoOutput, Pays, Unpayable, occupied_with, owed_to, lock_of, owed_after, is_output_to, is_one_output_to, are_owed, cellbase_outputs}
use Rattle.rule_defs.specs.RewardRules.{pays_reward}
use Rattle.verdict_defs.specs.Rules.{first_broken}
use Rattle.rule_defs.specs.Genesis.{all_hold_capacity}
use Rattle.verdict_defs.specs.Chain.{Chain}
use Rattle.store_defs.specs.Store.{IsJoined}
use Rattle.store_defs.proofs.JoinedLemmas.{is_kept_of_joined}
use Rattle.store_defs.proofs.RuleLemmas.{forms-unbroken, transactions-unbroken, hold-from, reward-unbroken, capacity-good}
use Rattle.store_defs.proofs.TypedLaws.{outputs-hold, genesis-holds, first-formed, formed-plain, rest-at}
use Rattle.chain_defs.specs.FitLaws.{IsCanonical, AreCanonical}
use Rattle.chain_defs.proofs.ShapeLemmas.{table-parts, vec-fits, raw_fields}
use Rattle.node_store.specs.ReorgLaws.{CellsHoldTheirOwn, IsKeptRow, RowsAreKept, SnapshotRowsAreKept}
use Rattle.node_store.proofs.BranchLemmas.{at-height}

-- ---- The lock of an output

fits-at : {V : Type 0} (shape : Shape V) (values : List V) (i : ℕ) (v : V) → all_fit (map shape.encoding values) ≡ true → slice_get values i ≡ Some v
    → (shape.encoding v).fits ≡ true
fits-at shape [] i v all there = absurd (cc)
fits-at shape (first ∷ values) zero v all there =
    subst (λ (x : _). (shape.encoding x).fits ≡ true) (same_Some first v there) (and_parts (shape.encoding first).fits (all_fit (map shape.encoding values)) all).0
fits-at shape (first ∷ values) (suc i) v all there =
    fits-at shape values i v (and_parts (shape.encoding first).fits (all_fit (map shape.encoding values)) all).1 there

fit-at : (fields : List Encoding) (i : ℕ) (e : Encoding) → all_fit fields ≡ true → slice_get fields i ≡ Some e → e.fits ≡ true
fit-at [] i e all there = absurd (cc)
fit-at (first ∷ fields) zero e all there = subst (λ (x : Encoding). x.fits ≡ true) (same_Some first e there) (and_parts first.fits (all_fit fields) all).0
fit-at (first ∷ fields) (suc i) e all there = fit-at fields i e (and_parts first.fits (all_fit fields) all).1 there

lock-fits : (output : CellOutput) → (cell_output.encoding output).fits ≡ true → (script.encoding output.lock).fits ≡ true
unfolding cell_output
lock-fits output fits =
    let fields : List Encoding = u64.encoding output.capacity ∷ script.encoding output.lock ∷ (option script).encoding output.type_script ∷ [] in
    fit-at fields 1 (script.encoding output.lock) (table-parts fields fits).1 refl

output-fits : (raw : RawTransaction) (i : ℕ) (output : CellOutput) → all_fit (raw_fields raw) ≡ true → slice_get raw.outputs i ≡ Some output
    → (cell_output.encoding output).fits ≡ true
output-fits raw i output all there =
    let outputs : (table (map cell_output.encoding raw.outputs)).fits ≡ true = fit-at (raw_fields raw) 4 ((dynvec cell_output).encoding raw.outputs) all refl in
    fits-at cell_output raw.outputs i output (table-parts (map cell_output.encoding raw.outputs) outputs).1 there

raw-fits : (t : Transaction) → (transaction.encoding t).fits ≡ true → all_fit (raw_fields t.raw) ≡ true
unfolding transaction raw_transaction
raw-fits t fits =
    let fields : List Encoding = raw_transaction.encoding t.raw ∷ (dynvec bytes).encoding t.witnesses ∷ [] in
    (table-parts (raw_fields t.raw) (fit-at fields 0 (raw_transaction.encoding t.raw) (table-parts fields fits).1 refl)).1

lock-of-canonical : (b : Block) (place i : ℕ) (t : Transaction) (output : CellOutput) → IsCanonical b → slice_get b.transactions place ≡ Some t
    → slice_get t.raw.outputs i ≡ Some output → (script.encoding output.lock).fits ≡ true
lock-of-canonical b place i t output canonical there found =
    let fits : (transaction.encoding t).fits ≡ true =
    fits-at transaction b.transactions place t (table-parts (map transaction.encoding b.transactions) (vec-fits b canonical)).1 there in
    lock-fits output (output-fits t.raw i output (raw-fits t fits) found)

-- scripts that fit, of the same bytes, are the same
same-script : (one other : Script) → (script.encoding one).fits ≡ true → (script.encoding other).fits ≡ true → encoded script one ≡ encoded script other → one ≡ other
same-script one other fits as_fits same =
    same_Some one other
    (sym (decoded-is script script-check (encoded script one) one (record { fits = fits; encoding = refl }))
    ∙ decoded-is script script-check (encoded script one) other (record { fits = as_fits; encoding = same }))

-- ---- The lock that is paid

witness-lock-fits : (w : CellbaseWitness) → (cellbase_witness.encoding w).fits ≡ true → (script.encoding w.lock).fits ≡ true
unfolding cellbase_witness
witness-lock-fits w fits =
    let fields : List Encoding = script.encoding w.lock ∷ bytes.encoding w.message ∷ [] in
    fit-at fields 0 (script.encoding w.lock) (table-parts fields fits).1 refl

named-fits : (t : Transaction) (lock : Script) → lock_named t ≡ Some lock → (script.encoding lock).fits ≡ true
named-fits t lock is = by_bytes (slice_get t.witnesses 0) is
  where
    by_witness : (bytes : List ℕ) (found : Option CellbaseWitness) → decoded cellbase_witness bytes ≡ found → option_map (λ witness. witness.lock) found ≡ Some lock
        → (script.encoding lock).fits ≡ true
    by_witness bytes None has is = absurd (cc)
    by_witness bytes (Some w) has is =
        subst (λ (s : Script). (script.encoding s).fits ≡ true) (same_Some w.lock lock is) (witness-lock-fits w (IsEncoding-decoded cellbase_witness bytes w has).fits)

    by_bytes : (found : Option (List ℕ)) → option_map (λ witness. witness.lock) (option_and_then (decoded cellbase_witness) found) ≡ Some lock
        → (script.encoding lock).fits ≡ true
    by_bytes None is = absurd (cc)
    by_bytes (Some bytes) is = by_witness bytes (decoded cellbase_witness bytes) refl is

of-block-fits : (found : Option Block) (lock : Script) → lock_of found ≡ Some lock → (script.encoding lock).fits ≡ true
of-block-fits None lock is = absurd (cc)
of-block-fits (Some b) lock is = by_first (slice_get b.transactions 0) is
  where
    by_first : (first : Option Transaction) → option_and_then lock_named first ≡ Some lock → (script.encoding lock).fits ≡ true
    by_first None is = absurd (cc)
    by_first (Some t) is = named-fits t lock is

-- What is owed to a lock is at least what its output occupies.
record IsGoodPay (lock : Script) (capacity : ℕ) : Type 0 where
  pub fits : (script.encoding lock).fits ≡ true
  pub enough : occupied_with lock ≤ capacity

owed-to-good : (found : Option Script) (reward : ℕ) (lock : Script) (capacity : ℕ) → ((s : Script) → found ≡ Some s → (script.encoding s).fits ≡ true)
    → owed_to found reward ≡ Pays lock capacity → IsGoodPay lock capacity
owed-to-good None reward lock capacity fits is = absurd (cc)
owed-to-good (Some s) reward lock capacity fits is = by_size (nat_lt reward (2 ^ 64)) is
  where
    by_enough : (enough : Bool) → nat_le (occupied_with s) reward ≡ enough → (if enough then Pays s reward else NoOutput) ≡ Pays lock capacity → IsGoodPay lock capacity
    by_enough false has is = absurd (cc)
    by_enough true has is =
        let same : s ≡ lock = (cc) in
        let amount : reward ≡ capacity = (cc) in
        subst (λ (x : Script). IsGoodPay x capacity) same
        (subst (λ (n : ℕ). IsGoodPay s n) amount (record { fits = fits s refl; enough = leb-true (occupied_with s) reward has }))

    by_size : (small : Bool) → (if small then (if nat_le (occupied_with s) reward then Pays s reward else NoOutput) else Unpayable) ≡ Pays lock capacity
        → IsGoodPay lock capacity
    by_size false is = absurd (cc)
    by_size true is = by_enough (nat_le (occupied_with s) reward) refl is

owed-good : (spec : Specification) (on : List Block) (lock : Script) (capacity : ℕ) → owed_after spec on ≡ Pays lock capacity → IsGoodPay lock capacity
unfolding owed_after
owed-good spec on lock capacity is = by_height (nat_le (length on) (spec.w_far + 1)) is
  where
    target : ℕ
    target = length on - (spec.w_far + 1)

    by_height : (low : Bool) → (if low then NoOutput else owed_to (lock_of (block_at on target)) (part spec on target)) ≡ Pays lock capacity → IsGoodPay lock capacity
    by_height true is = absurd (cc)
    by_height false is = owed-to-good (lock_of (block_at on target)) (part spec on target) lock capacity (of-block-fits (block_at on target)) is

-- ---- The output of a cellbase

untyped : (found : Option Script) → not (is_some found) ≡ true → found ≡ None
untyped None is = refl
untyped (Some s) is = absurd (cc)

-- an output that pays what is owed, to a lock of the same bytes, holds what it occupies without data
output-holds : (output : CellOutput) (content : List ℕ) (lock : Script) (capacity : ℕ) → (script.encoding output.lock).fits ≡ true → IsGoodPay lock capacity
    → length content ≡ 0 → is_output_to lock capacity output ≡ true → IsTrue (holds_its_own output content)
output-holds output content lock capacity fits good none is =
    let both = and_parts ((output.capacity == capacity) && bytes_eq (encoded script output.lock) (encoded script lock)) (not (is_some output.type_script)) is in
    let front = and_parts (output.capacity == capacity) (bytes_eq (encoded script output.lock) (encoded script lock)) both.0 in
    let same : output.lock ≡ lock = same-script output.lock lock fits good.fits ((bytes_eq-Decides (encoded script output.lock) (encoded script lock)).0 front.1) in
    let no_type : output.type_script ≡ None = untyped output.type_script both.1 in
    let amount : output.capacity ≡ capacity = eqb-true output.capacity capacity front.0 in
    let occupied : occupied_by output content ≡ occupied_with lock =
    ap (λ (s : Script). occupied_capacity (length s.args) (option_map (λ x. length x.args) output.type_script) (length content)) same
    ∙ ap (λ (found : Option Script). occupied_capacity (length lock.args) (option_map (λ x. length x.args) found) (length content)) no_type
    ∙ ap (λ (n : ℕ). occupied_capacity (length lock.args) None n) none in
    le-leb (occupied_by output content) output.capacity (subst (λ (n : ℕ). n ≤ output.capacity) (sym occupied)
    (subst (λ (n : ℕ). occupied_with lock ≤ n) (sym amount) good.enough))

one-holds : (outputs : List CellOutput) (i : ℕ) (output : CellOutput) (content : List ℕ) (lock : Script) (capacity : ℕ) → (script.encoding output.lock).fits ≡ true
    → IsGoodPay lock capacity → length content ≡ 0 → is_one_output_to lock capacity outputs ≡ true → slice_get outputs i ≡ Some output
    → IsTrue (holds_its_own output content)
one-holds [] i output content lock capacity fits good none is there = absurd (cc)
one-holds (one ∷ []) zero output content lock capacity fits good none is there =
    output-holds output content lock capacity fits good none
    (subst (λ (x : CellOutput). is_output_to lock capacity x ≡ true) (same_Some one output there) is)
one-holds (one ∷ []) (suc i) output content lock capacity fits good none is there = absurd (cc)
one-holds (one ∷ two ∷ later) i output content lock capacity fits good none is there = absurd (cc)

no-output : (outputs : List CellOutput) (i : ℕ) (output : CellOutput) → (length outputs == 0) ≡ true → slice_get outputs i ≡ Some output → ⊥
no-output outputs i output none there =
    let within = slice_get_within outputs i output there in
    let few : length outputs ≡ 0 = eqb-true (length outputs) 0 none in
    omega (arith, within, few)

owed-holds : (spec : Specification) (on : List Block) (outputs : List CellOutput) (i : ℕ) (output : CellOutput) (content : List ℕ)
    → (script.encoding output.lock).fits ≡ true → length content ≡ 0 → are_owed (owed_after spec on) outputs ≡ true → slice_get outputs i ≡ Some output
    → IsTrue (holds_its_own output content)
owed-holds spec on outputs i output content fits none owed there = by_owed (owed_after spec on) refl owed
  where
    by_owed : (it : Owed) → owed_after spec on ≡ it → are_owed it outputs ≡ true → IsTrue (holds_its_own output content)
    by_owed NoOutput is owed = absurd (no-output outputs i output owed there)
    by_owed Unpayable is owed = absurd (cc)
    by_owed (Pays lock capacity) is owed = one-holds outputs i output content lock capacity fits (owed-good spec on lock capacity is) none owed there

-- its data is empty
empty-at : (datas : List (List ℕ)) (i : ℕ) → list_all (λ content. length content == 0) datas ≡ true → length (unwrap_or (slice_get datas i) []) ≡ 0
empty-at datas i each = by_found (slice_get datas i) refl
  where
    by_found : (found : Option (List ℕ)) → slice_get datas i ≡ found → length (unwrap_or found []) ≡ 0
    by_found None there = refl
    by_found (Some content) there = eqb-true (length content) 0 (every-at (λ (c : List ℕ). length c == 0) datas i content each there)

no-data : (t : Transaction) (i : ℕ) → IsTrue (has_plain_output t) → length (data_of t i) ≡ 0
no-data t i plain = empty-at t.raw.outputs_data i (and_parts _ _ plain).1

first-outputs : (b : Block) (t : Transaction) → slice_get b.transactions 0 ≡ Some t → cellbase_outputs b ≡ t.raw.outputs
first-outputs b t there = by_list b.transactions there
  where
    by_list : (txs : List Transaction) → slice_get txs 0 ≡ Some t → (elim txs [
      | [] ↦ []
      | first ∷ later ↦ first.raw.outputs
    ]) ≡ t.raw.outputs
    by_list [] there = absurd (cc)
    by_list (first ∷ later) there = ap (λ (x : Transaction). x.raw.outputs) (same_Some first t there)

-- ---- In a block

block-holds : (spec : Specification) (on : List Block) (b : Block) (o : OutPoint) (cell : Cell) → first_broken spec on b ≡ None → IsCanonical b → IsOutputOf b o cell
    → IsTrue (holds_its_own cell.output cell.content)
unfolding forms_cellbase pays_reward
block-holds spec on b o cell unbroken canonical is = by_place cell.transaction is.there
  where
    by_place : (place : ℕ) → slice_get b.transactions place ≡ Some is.t → IsTrue (holds_its_own cell.output cell.content)
    by_place zero there =
        let formed = first-formed (live_cell on) b.header.number b.transactions is.t (forms-unbroken spec on b unbroken) there in
        let none : length cell.content ≡ 0 = ap length (sym is.content) ∙ no-data is.t o.index (formed-plain (live_cell on) b.header.number is.t formed) in
        owed-holds spec on is.t.raw.outputs o.index cell.output cell.content (lock-of-canonical b 0 o.index is.t cell.output canonical there is.output) none
        (subst (λ (outputs : List CellOutput). are_owed (owed_after spec on) outputs ≡ true) (first-outputs b is.t there) (reward-unbroken spec on b unbroken)) is.output
    by_place (suc i) there =
        let hold = hold-from spec on b 1 spec.max_cycles (drop 1 b.transactions) i is.t (transactions-unbroken spec on b unbroken)
        (rest-at b.transactions i is.t there) in
        subst (λ (content : List ℕ). IsTrue (holds_its_own cell.output content)) is.content (outputs-hold is.t o.index cell.output hold is.output)

kept-holds : (chain : Chain) → IsJoined chain → AreCanonical chain.blocks → (place : ℕ) (b : Block) (o : OutPoint) (cell : Cell)
    → block_at chain.blocks place ≡ Some b → IsOutputOf b o cell → IsTrue (holds_its_own cell.output cell.content)
kept-holds chain joined canonical zero b o cell there is =
    let all : IsTrue (all_hold_capacity b) =
    subst (λ (x : Block). IsTrue (all_hold_capacity x)) (same_Some joined.genesis b (sym joined.first ∙ there)) (capacity-good joined.genesis joined.good) in
    genesis-holds b o cell all is
kept-holds chain joined canonical (suc place) b o cell there is =
    let may = joined.each (suc place) b (omega arith) there in
    block-holds chain.spec (branch (take (suc place) chain.blocks) may.parent) b o cell may.unbroken (canonical (suc place) b there) is

pub cells-hold-their-own : CellsHoldTheirOwn
cells-hold-their-own chain place o cell joined canonical below live =
    let made = cells-are-outputs (branch chain.blocks place) o cell live in
    let on = (IsBranch-branch chain.blocks place (is_kept_of_joined chain joined) below).among cell.height made.0 made.1 in
    kept-holds chain joined canonical on.0 made.0 o cell on.1 made.2

-- ---- Rows

pub rows-are-kept : RowsAreKept
unfolding live_row
rows-are-kept chain place o row joined canonical below is = by_cell (live_cell (branch chain.blocks place) o) refl is
  where
    by_cell : (live : Option Cell) → live_cell (branch chain.blocks place) o ≡ live → option_map (row_on chain.blocks place) live ≡ Some row
        → IsKeptRow (length chain.blocks) row
    by_cell None here at = absurd (cc)
    by_cell (Some cell) here at =
        let made = cells-are-outputs (branch chain.blocks place) o cell here in
        let stands : ℕ = slice_index (branch_places chain.blocks place) cell.height in
        let there : block_at chain.blocks stands ≡ Some made.0 = at-height chain.blocks place cell.height made.0 below made.1 in
        subst (IsKeptRow (length chain.blocks)) (same_Some (row_of stands cell) row at) (record {
          block = slice_get_within chain.blocks stands made.0 there;
          occupied = leb-true (occupied_by cell.output cell.content) cell.output.capacity (cells-hold-their-own chain place o cell joined canonical below here);
        })

all-where : {X : Type 0} (P Q : X → Type 0) (xs : List X) → ((x : X) → P x → Q x) → All P xs → All Q xs
all-where P Q [] each all = All-nil Q
all-where P Q (x ∷ xs) each all = All-cons Q x xs (each x (All-head P x xs all)) (all-where P Q xs each (All-tail P x xs all))

place-of-tip : (kept : List Block) (tip : ℕ) (hash : List ℕ) (found : Option Block) → block_at kept tip ≡ found → IsSomeAnd found (λ b. block_hash b ≡ hash) → tip < length kept
place-of-tip kept tip hash None is has = absurd has
place-of-tip kept tip hash (Some b) is has = slice_get_within kept tip b is

pub snapshot-rows-are-kept : SnapshotRowsAreKept
snapshot-rows-are-kept chain s joined canonical is =
    let below : s.tip < length chain.blocks = place-of-tip chain.blocks s.tip s.hash (block_at chain.blocks s.tip) refl is.tip in
    all-where (Contains s.rows) (λ it. IsKeptRow (length chain.blocks) it.1) s.rows
    (λ it has. rows-are-kept chain s.tip it.0 it.1 joined canonical below ((is.rows.each it.0 it.1).0 has)) (All-contains_itself s.rows)
