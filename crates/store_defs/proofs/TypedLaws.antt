-- Live cells with a type script hold what they occupy: no cellbase makes one, and the rules ask it of each other output.
use Rattle.std.proofs.Common.{◌≡◌, ℕ, zero, suc, ◌+◌, List, [], ◌∷◌, take, drop, Option, Some, None, sym, ap, ◌∙◌, subst, arith}
use Rattle.std.specs.Prelude.{not, is_some, slice_get, IsTrue, IsSome}
use Rattle.std.proofs.lemmas.Bool.{and_parts, false≢true}
use Rattle.std.proofs.lemmas.Option.{same_Some}
use Rattle.chain_defs.specs.Schema.{OutPoint, CellOutput, Transaction, Block}
use Rattle.chain_defs.specs.Specification.{Specification}
use Rattle.chain_defs.specs.Kept.{block_at}
use Rattle.chain_defs.specs.Branch.{branch}
use Rattle.chain_defs.proofs.BranchLaws.{IsBranch-branch}
use Rattle.chain_defs.specs.Cell.{Cell, holds_its_own, data_of, output_holds_its_own, outputs_hold_their_own}
use Rattle.chain_defs.specs.Events.{live_cell}
use Rattle.chain_defs.specs.Row.{IsOutputOf}
use Rattle.chain_defs.proofs.OutputLaws.{cells-are-outputs}
use Rattle.chain_defs.proofs.WalkLemmas.{all-at, every-at}
use Rattle.rule_defs.specs.Cellbase.{has_plain_output, is_well_formed_cellbase, is_first_well_formed, forms_cellbase}
use Rattle.verdict_defs.specs.Rules.{first_broken}
use Rattle.verdict_defs.specs.Chain.{Chain}
use Rattle.rule_defs.specs.Genesis.{all_hold_capacity}
use Rattle.store_defs.specs.Store.{IsJoined}
use Rattle.store_defs.specs.JoinedLaws.{TypedCellsHoldTheirOwn}
use Rattle.store_defs.proofs.RuleLemmas.{forms-unbroken, transactions-unbroken, hold-from, capacity-good}
use Rattle.store_defs.proofs.JoinedLemmas.{is_kept_of_joined}

-- ---- In the genesis

pub outputs-hold : (t : Transaction) (i : ℕ) (output : CellOutput) → IsTrue (outputs_hold_their_own t) → slice_get t.raw.outputs i ≡ Some output
    → IsTrue (holds_its_own output (data_of t i))
outputs-hold t i output hold there =
    let at : 0 + i ≡ i = omega arith in
    subst (λ (k : ℕ). IsTrue (holds_its_own output (data_of t k))) at
    (all-at (output_holds_its_own t) 0 t.raw.outputs i output hold there)

pub genesis-holds : (b : Block) (o : OutPoint) (cell : Cell) → IsTrue (all_hold_capacity b) → IsOutputOf b o cell
    → IsTrue (holds_its_own cell.output cell.content)
genesis-holds b o cell all is =
    subst (λ (content : List ℕ). IsTrue (holds_its_own cell.output content)) is.content
    (outputs-hold is.t o.index cell.output (every-at outputs_hold_their_own b.transactions cell.transaction is.t all is.there) is.output)

-- ---- In another block

plain-untyped : (t : Transaction) (i : ℕ) (output : CellOutput) → IsTrue (has_plain_output t) → slice_get t.raw.outputs i ≡ Some output
    → IsSome output.type_script → ⊥
plain-untyped t i output plain there typed =
    false≢true (sym (ap not typed)
    ∙ every-at (λ (x : CellOutput). not (is_some x.type_script)) t.raw.outputs i output (and_parts _ _ (and_parts _ _ plain).0).1 there)

pub first-formed : (live : OutPoint → Option Cell) (number : ℕ) (txs : List Transaction) (t : Transaction) → IsTrue (is_first_well_formed live number txs)
    → slice_get txs 0 ≡ Some t → IsTrue (is_well_formed_cellbase live number t)
first-formed live number [] t formed there = absurd (cc)
first-formed live number (first ∷ later) t formed there =
    subst (λ (x : Transaction). IsTrue (is_well_formed_cellbase live number x)) (same_Some first t there) formed

pub formed-plain : (live : OutPoint → Option Cell) (number : ℕ) (t : Transaction) → IsTrue (is_well_formed_cellbase live number t) → IsTrue (has_plain_output t)
formed-plain live number t formed = (and_parts _ _ (and_parts _ _ (and_parts _ _ formed).0).0).1

pub rest-at : {X : Type 0} (xs : List X) (i : ℕ) (x : X) → slice_get xs (suc i) ≡ Some x → slice_get (drop 1 xs) i ≡ Some x
rest-at [] i x there = absurd (cc)
rest-at (y ∷ ys) i x there = there

block-holds : (spec : Specification) (on : List Block) (b : Block) (o : OutPoint) (cell : Cell) → first_broken spec on b ≡ None → IsOutputOf b o cell
    → IsSome cell.output.type_script → IsTrue (holds_its_own cell.output cell.content)
unfolding forms_cellbase
block-holds spec on b o cell unbroken is typed = by_place cell.transaction is.there
  where
    by_place : (place : ℕ) → slice_get b.transactions place ≡ Some is.t → IsTrue (holds_its_own cell.output cell.content)
    by_place zero there =
        let formed = first-formed (live_cell on) b.header.number b.transactions is.t (forms-unbroken spec on b unbroken) there in
        absurd (plain-untyped is.t o.index cell.output (formed-plain (live_cell on) b.header.number is.t formed) is.output typed)
    by_place (suc i) there =
        let hold = hold-from spec on b 1 spec.max_cycles (drop 1 b.transactions) i is.t (transactions-unbroken spec on b unbroken)
        (rest-at b.transactions i is.t there) in
        subst (λ (content : List ℕ). IsTrue (holds_its_own cell.output content)) is.content (outputs-hold is.t o.index cell.output hold is.output)

-- ---- In any block

kept-holds : (chain : Chain) → IsJoined chain → (place : ℕ) (b : Block) (o : OutPoint) (cell : Cell) → block_at chain.blocks place ≡ Some b → IsOutputOf b o cell
    → IsSome cell.output.type_script → IsTrue (holds_its_own cell.output cell.content)
kept-holds chain joined zero b o cell there is typed =
    let all : IsTrue (all_hold_capacity b) =
    subst (λ (x : Block). IsTrue (all_hold_capacity x)) (same_Some joined.genesis b (sym joined.first ∙ there)) (capacity-good joined.genesis joined.good) in
    genesis-holds b o cell all is
kept-holds chain joined (suc place) b o cell there is typed =
    let may = joined.each (suc place) b (omega arith) there in
    block-holds chain.spec (branch (take (suc place) chain.blocks) may.parent) b o cell may.unbroken is typed

pub typed-cells-hold-their-own : TypedCellsHoldTheirOwn
typed-cells-hold-their-own chain place o cell joined below live typed =
    let made = cells-are-outputs (branch chain.blocks place) o cell live in
    let on = (IsBranch-branch chain.blocks place (is_kept_of_joined chain joined) below).among cell.height made.0 made.1 in
    kept-holds chain joined on.0 made.0 o cell on.1 made.2 typed
