-- What queries find: the epoch of the tip, and what a live cell is to the DAO.
use Rattle.std.proofs.Common.{◌≡◌, ℕ, ◌<◌, Bool, true, false, cond, List, [], length, Option, Some, None, Vec, Global, refl, sym, ap, ◌∙◌, subst, arith}
use Rattle.std.specs.Prelude.{nat_lt, ◌&&◌, if◌then◌else◌, IsTrue, IsSome}
use Rattle.std.proofs.lemmas.Bool.{ltb-true}
use Rattle.std.proofs.lemmas.Option.{slice_get_within}
use Rattle.std.specs.Option.{option_map}
use Rattle.chain_defs.specs.Shape.{IsEncoding}
use Rattle.chain_defs.specs.Schema.{Script, Block, block}
use Rattle.chain_defs.specs.Kept.{block_at}
use Rattle.chain_defs.specs.Specification.{Specification}
use Rattle.chain_defs.specs.Branch.{branch}
use Rattle.chain_defs.specs.Tip.{tip_place, best_branch}
use Rattle.chain_defs.proofs.TipLaws.{tip_place-below}
use Rattle.chain_defs.specs.Cell.{Cell, holds_its_own}
use Rattle.chain_defs.specs.Events.{live_cell}
use Rattle.chain_defs.proofs.OutputLaws.{cells-are-outputs}
use Rattle.rule_defs.specs.Withdrawals.{is_dao_script, is_withdrawing, has_withdrawing_data}
use Rattle.verdict_defs.specs.Chain.{Chain}
use Rattle.store_defs.specs.Store.{IsJoined}
use Rattle.store_defs.proofs.TypedLaws.{typed-cells-hold-their-own}
use Rattle.node_store.specs.Queries.{IsBlockAt}
use Rattle.report_defs.specs.declared.dao.DaoState.{DaoState}
use Rattle.report_defs.specs.declared.dao.DaoState.TheVariants.{NotDao, Deposit, Withdrawing}
use Rattle.chain_defs.specs.Epochs.{epoch_number, epoch_index}
use Rattle.report_defs.specs.Text.{epoch_line}
use Rattle.report_defs.specs.Queries.{epoch_of, dao_state, is_deposit, has_deposit_data, height_in}
use Rattle.run_query.specs.Queries.{IsLiveIn}

-- ---- The block at a height

-- a block that was found, by its bytes
pub block-found : (kept : List Block) (height : ℕ) (found : Option (Vec ℕ Global)) (v : Vec ℕ Global) (bytes : List ℕ) → found ≡ Some v → bytes ≡ v.items
    → IsBlockAt kept height (option_map (λ (v : Vec ℕ Global). v.items) found) → (b : Block) × (block_at (best_branch kept) height ≡ Some b) × IsEncoding block bytes b
block-found kept height found v bytes is same there =
    subst (λ (bytes : List ℕ). IsBlockAt kept height (Some bytes)) (sym same)
    (subst (λ (found : Option (Vec ℕ Global)). IsBlockAt kept height (option_map (λ (v : Vec ℕ Global). v.items) found)) is there)

-- and none
pub none-found : (kept : List Block) (height : ℕ) (found : Option (Vec ℕ Global)) → found ≡ None
    → IsBlockAt kept height (option_map (λ (v : Vec ℕ Global). v.items) found) → block_at (best_branch kept) height ≡ None
none-found kept height found is there =
    subst (λ (found : Option (Vec ℕ Global)). IsBlockAt kept height (option_map (λ (v : Vec ℕ Global). v.items) found)) is there

-- ---- The epoch of the tip

pub epoch-is : (length height number index blocks : ℕ) (found : Option Block) (block : Block) → found ≡ Some block → height ≡ block.header.number
    → number ≡ epoch_number length height → index ≡ epoch_index length height → blocks ≡ length
    → epoch_line number index blocks ≡ epoch_of length found
epoch-is length height number index blocks found block is at number_is index_is blocks_is =
    ap (λ (n : ℕ). epoch_line n index blocks) (number_is ∙ ap (epoch_number length) at)
    ∙ ap (λ (n : ℕ). epoch_line (epoch_number length block.header.number) n blocks) (index_is ∙ ap (epoch_index length) at)
    ∙ ap (epoch_line (epoch_number length block.header.number) (epoch_index length block.header.number)) blocks_is
    ∙ sym (ap (epoch_of length) is)

-- ---- The DAO

-- a live cell was made at a height of the branch
pub height-below : (chain : Chain) (cell : Cell) → IsLiveIn chain cell → cell.height < length (best_branch chain.blocks)
height-below chain cell live =
    let made = cells-are-outputs (best_branch chain.blocks) live.0 cell live.1 in
    slice_get_within (best_branch chain.blocks) cell.height made.0 made.1

abbrev branch_at : List Block → Option ℕ → List Block
branch_at kept None = []
branch_at kept (Some place) = branch kept place

-- and holds what it occupies where it has a type script
pub holds : (chain : Chain) (cell : Cell) → IsJoined chain → IsLiveIn chain cell → IsSome cell.output.type_script → IsTrue (holds_its_own cell.output cell.content)
holds chain cell joined live typed = by_tip (tip_place chain.blocks) refl
  where
    by_tip : (found : Option ℕ) → tip_place chain.blocks ≡ found → IsTrue (holds_its_own cell.output cell.content)
    by_tip None is =
        let below = height-below chain cell live in
        let none : length (best_branch chain.blocks) ≡ 0 = ap (λ (found : Option ℕ). length (branch_at chain.blocks found)) is in
        absurd (omega (arith, below, none))
    by_tip (Some tip) is =
        typed-cells-hold-their-own chain tip live.0 cell joined (tip_place-below chain.blocks tip is)
        (ap (λ (found : Option ℕ). live_cell (branch_at chain.blocks found) live.0) (sym is) ∙ live.1) typed

abbrev state_by : Specification → Option Script → Cell → DaoState
state_by spec type_script cell =
    if is_dao_script spec type_script && has_deposit_data cell.content then Deposit
    else if (is_dao_script spec type_script && has_withdrawing_data cell.content) && nat_lt (height_in cell.content) cell.height
    then Withdrawing (height_in cell.content)
    else NotDao

-- one that is a cell of the DAO has a type script
has-type : (spec : Specification) (type_script : Option Script) (cell : Cell) → (state_by spec type_script cell ≡ NotDao → ⊥) → IsSome type_script
has-type spec None cell other = absurd (other refl)
has-type spec (Some script) cell other = refl

pub is-deposit : (spec : Specification) (cell : Cell) → dao_state spec cell ≡ Deposit → IsSome cell.output.type_script
is-deposit spec cell is = has-type spec cell.output.type_script cell (λ none. absurd (cc (sym is ∙ none)))

pub is-withdrawing : (spec : Specification) (cell : Cell) (deposit : ℕ) → dao_state spec cell ≡ Withdrawing deposit → IsSome cell.output.type_script
is-withdrawing spec cell deposit is = has-type spec cell.output.type_script cell (λ none. absurd (cc (sym is ∙ none)))

-- the deposit of a withdrawing cell is below its own height
pub below-its-own : (spec : Specification) (cell : Cell) (deposit : ℕ) → dao_state spec cell ≡ Withdrawing deposit → deposit < cell.height
below-its-own spec cell deposit is =
    by_tests (is_deposit spec cell) (is_withdrawing spec cell) (nat_lt (height_in cell.content) cell.height) refl is
  where
    by_tests : (first second third : Bool) → nat_lt (height_in cell.content) cell.height ≡ third
        → cond first Deposit (cond (second && third) (Withdrawing (height_in cell.content)) NotDao) ≡ Withdrawing deposit → deposit < cell.height
    by_tests true second third below same = absurd (cc)
    by_tests false true true below same =
        let named : height_in cell.content ≡ deposit = cc in
        omega (arith, named, ltb-true (height_in cell.content) cell.height below)
    by_tests false true false below same = absurd (cc)
    by_tests false false third below same = absurd (cc)
