-- What the cellbase of a block owes and its DAO field, by the kept blocks that they stand on.
use Rattle.std.proofs.Common.{◌≡◌, ℕ, ◌+◌, ◌-◌, ◌^◌, ◌<◌, ◌≤◌, Bool, true, false, ◌==◌, cond, ℤ, List, [], ◌∷◌, length, Option, Some, None, Result, Ok, Err, refl, sym, ap, ◌∙◌, arith, pos}
use Rattle.std.specs.Prelude.{slice_get, nat_le, sum_by, IfOk}
use Rattle.std.specs.Option.{option_and_then}
use Rattle.std.proofs.lemmas.Bool.{le-ltb, lt-leb, le-leb}
use Rattle.std.proofs.lemmas.Option.{same_Some, slice_get_within}
use Rattle.chain_defs.specs.First.{first_failing}
use Rattle.chain_defs.proofs.FirstLemmas.{first_failing-fails, first_failing-holds, first_failing-none}
use Rattle.chain_defs.specs.Schema.{Script, CellOutput, Transaction, Block}
use Rattle.chain_defs.specs.Specification.{Specification}
use Rattle.chain_defs.specs.Dao.{DaoField, next_field, field_of_bytes, as_u64}
use Rattle.chain_defs.specs.Kept.{block_at}
use Rattle.chain_defs.specs.Branch.{branch_places, branch}
use Rattle.chain_defs.proofs.BranchLaws.{branch-last}
use Rattle.chain_tree.specs.declared.entry.Entry.{Entry}
use Rattle.chain_tree.specs.Entries.{entry_at}
use Rattle.chain_tree.specs.Blocks.{IndexesBlocks}
use Rattle.chain_tree.proofs.BlockLemmas.{DescribedAt, described, len-same}
use Rattle.rule_defs.specs.Reward.{part, dao_of, field_at}
use Rattle.rule_defs.specs.Payment.{NoOutput, Pays, Unpayable, occupied_with, owed_to, lock_of, owed_after, are_owed, cellbase_outputs}
use Rattle.rule_defs.specs.Shares.{primary_at, secondary_at}
use Rattle.rule_defs.specs.Field.{made_by, movement, next_dao}
use Rattle.rule_defs.specs.RewardRules.{pays_reward, are_bytes_of, has_next_dao, end_rules}
use Rattle.block_judge.specs.Progress.{AreMoved}
use Rattle.tx_rules.proofs.BranchLemmas.{branch-block}
use Rattle.tx_rules.proofs.MoneyLemmas.{some-u64, none-u64}

-- ---- J31

pub if-ok : {T E : Type 0} (P Q : T → Type 0) (result : Result T E) → ((value : T) → P value → Q value) → IfOk result P → IfOk result Q
if-ok P Q (Ok value) more holds = more value holds
if-ok P Q (Err stop) more holds = tt

-- a height of the branch has the block of its place
pub block-up : (kept : List Block) (entries : List Entry) (parent height place : ℕ) → IndexesBlocks kept entries → parent < length entries
    → slice_get (branch_places kept parent) height ≡ Some place → block_at (branch kept parent) height ≡ block_at kept place
block-up kept entries parent height place indexes below up =
    let as_many = len-same kept entries indexes in
    branch-block kept parent height (omega (arith, below, as_many)) ∙ ap (option_and_then (block_at kept)) up

-- the outputs of a cellbase are those of the first transaction
outputs-first : (b : Block) (t : Transaction) → slice_get b.transactions 0 ≡ Some t → cellbase_outputs b ≡ t.raw.outputs
outputs-first b t there = by_list b.transactions there
  where
    by_list : (them : List Transaction) → slice_get them 0 ≡ Some t → elim them [ [] ↦ [] | first ∷ later ↦ first.raw.outputs ] ≡ t.raw.outputs
    by_list [] at = absurd (cc)
    by_list (first ∷ later) at = ap (λ (x : Transaction). x.raw.outputs) (same_Some first t at)

-- near the genesis nothing is owed
pub pays-early : (spec : Specification) (on : List Block) (b : Block) (t : Transaction) → slice_get b.transactions 0 ≡ Some t → length on ≤ spec.w_far + 1
    → pays_reward spec on b ≡ (length t.raw.outputs == 0)
unfolding pays_reward owed_after
pays-early spec on b t there early =
    ap (λ (test : Bool). are_owed (cond test NoOutput (owed_to (lock_of (block_at on (length on - (spec.w_far + 1)))) (part spec on (length on - (spec.w_far + 1)))))
    (cellbase_outputs b)) (le-leb (length on) (spec.w_far + 1) early)
    ∙ ap (λ (outputs : List CellOutput). length outputs == 0) (outputs-first b t there)

-- later the reward of an earlier block
pays-late : (spec : Specification) (on : List Block) (b : Block) (t : Transaction) (target : ℕ) → slice_get b.transactions 0 ≡ Some t
    → spec.w_far + 1 < length on → target ≡ length on - (spec.w_far + 1)
    → pays_reward spec on b ≡ are_owed (owed_to (lock_of (block_at on target)) (part spec on target)) t.raw.outputs
unfolding pays_reward owed_after
pays-late spec on b t target there late at =
    ap (λ (test : Bool). are_owed (cond test NoOutput (owed_to (lock_of (block_at on (length on - (spec.w_far + 1)))) (part spec on (length on - (spec.w_far + 1)))))
    (cellbase_outputs b)) (lt-leb (length on) (spec.w_far + 1) late)
    ∙ ap (λ (height : ℕ). are_owed (owed_to (lock_of (block_at on height)) (part spec on height)) (cellbase_outputs b)) (sym at)
    ∙ ap (are_owed (owed_to (lock_of (block_at on target)) (part spec on target))) (outputs-first b t there)

-- a reward that is found
pub pays-found : (spec : Specification) (on : List Block) (b : Block) (t : Transaction) (target reward : ℕ) (paid : Option Block) (pays : Bool)
    → slice_get b.transactions 0 ≡ Some t → spec.w_far + 1 < length on → target ≡ length on - (spec.w_far + 1) → Some reward ≡ as_u64 (pos (part spec on target))
    → block_at on target ≡ paid → pays ≡ are_owed (owed_to (lock_of paid) reward) t.raw.outputs → pays ≡ pays_reward spec on b
pays-found spec on b t target reward paid pays there late at found here is =
    is
    ∙ ap (λ (n : ℕ). are_owed (owed_to (lock_of paid) n) t.raw.outputs) (some-u64 (part spec on target) (2 ^ 64) reward found).0
    ∙ ap (λ (it : Option Block). are_owed (owed_to (lock_of it) (part spec on target)) t.raw.outputs) (sym here)
    ∙ sym (pays-late spec on b t target there late at)

-- one that is above the greatest u64
pub pays-none : (spec : Specification) (on : List Block) (b : Block) (t : Transaction) (target : ℕ) → slice_get b.transactions 0 ≡ Some t
    → spec.w_far + 1 < length on → target ≡ length on - (spec.w_far + 1) → None ≡ as_u64 (pos (part spec on target)) → false ≡ pays_reward spec on b
pays-none spec on b t target there late at none =
    by_lock (lock_of (block_at on target)) ∙ sym (pays-late spec on b t target there late at)
  where
    by_lock : (lock : Option Script) → false ≡ are_owed (owed_to lock (part spec on target)) t.raw.outputs
    by_lock None = refl
    by_lock (Some lock) =
        sym (ap (λ (test : Bool). are_owed (cond test (cond (nat_le (occupied_with lock) (part spec on target)) (Pays lock (part spec on target)) NoOutput) Unpayable)
        t.raw.outputs) (le-ltb (part spec on target) (2 ^ 64) (none-u64 (part spec on target) (2 ^ 64) none)))

-- ---- J32

-- What a block moves, number by number.
pub movement-same : (spec : Specification) (on : List Block) (b : Block) (primary secondary : ℕ) (interest : ℤ) (made freed : ℕ) → primary ≡ primary_at spec (length on)
    → secondary ≡ secondary_at spec (length on) → made ≡ sum_by made_by b.transactions → AreMoved spec on b interest freed
    → record { primary = primary; secondary = secondary; interest = interest; made = made; freed = freed } ≡ movement spec on b
unfolding movement
movement-same spec on b primary secondary interest made freed first second all moved =
    let interest_is = moved.interest_is in
    let freed_is = moved.freed_is in
    rw (first, second, all, interest_is, freed_is) refl

-- the field before a block is that of its parent's entry
pub field-before : (kept : List Block) (entries : List Entry) (parent : ℕ) (entry : Entry) → IndexesBlocks kept entries → entry_at entries parent ≡ Some entry
    → field_at (branch kept parent) (length (branch kept parent) - 1) ≡ field_of_bytes entry.dao
field-before kept entries parent entry indexes there =
    let here : DescribedAt kept parent entry = described kept entries parent entry indexes.each there in
    ap (λ (b : Option Block). field_of_bytes (dao_of b)) (branch-last kept parent (slice_get_within kept parent here.block here.there) ∙ here.there)
    ∙ ap field_of_bytes (sym here.is.dao)

pub next-there : (spec : Specification) (kept : List Block) (entries : List Entry) (parent : ℕ) (entry : Entry) (b : Block) (old : DaoField) (found : Option DaoField)
    → IndexesBlocks kept entries → entry_at entries parent ≡ Some entry → old ≡ field_of_bytes entry.dao
    → found ≡ next_field old (movement spec (branch kept parent) b) → are_bytes_of found b.header.dao ≡ has_next_dao spec (branch kept parent) b
unfolding has_next_dao next_dao
next-there spec kept entries parent entry b old found indexes there is next =
    ap (λ (o : Option DaoField). are_bytes_of o b.header.dao)
    (next ∙ ap (λ (field : DaoField). next_field field (movement spec (branch kept parent) b)) (is ∙ sym (field-before kept entries parent entry indexes there)))

-- ---- Both

pub breaks-31 : (spec : Specification) (on : List Block) (b : Block) → pays_reward spec on b ≡ false → first_failing (end_rules spec on b) ≡ Some 31
breaks-31 spec on b pays = first_failing-fails 31 (pays_reward spec on b) ((32, has_next_dao spec on b) ∷ []) pays

pub breaks-32 : (spec : Specification) (on : List Block) (b : Block) → pays_reward spec on b ≡ true → has_next_dao spec on b ≡ false
    → first_failing (end_rules spec on b) ≡ Some 32
breaks-32 spec on b pays next =
    first_failing-holds 31 (pays_reward spec on b) ((32, has_next_dao spec on b) ∷ []) pays ∙ first_failing-fails 32 (has_next_dao spec on b) [] next

pub keeps-end : (spec : Specification) (on : List Block) (b : Block) → pays_reward spec on b ≡ true → has_next_dao spec on b ≡ true
    → first_failing (end_rules spec on b) ≡ None
keeps-end spec on b pays next =
    first_failing-holds 31 (pays_reward spec on b) ((32, has_next_dao spec on b) ∷ []) pays ∙ first_failing-holds 32 (has_next_dao spec on b) [] next
    ∙ first_failing-none
