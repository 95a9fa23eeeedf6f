-- What a block is judged over, and the verdict that it comes to.
use Rattle.std.proofs.Common.{◌≡◌, ℕ, ◌-◌, ◌<◌, Bool, true, false, cond, List, [], ◌∷◌, drop, length, Option, Some, None, refl, sym, ap, ◌∙◌, subst, arith}
use Rattle.std.specs.Prelude.{Result, Ok, Err, nat_lt, is_some, IsTrue, IfOk, IsOkAnd}
use Rattle.std.proofs.lemmas.Bool.Decides.{Decides-ltb}
use Rattle.std.proofs.lemmas.List.Elements.{All-head, All-tail}
use Rattle.chain_defs.specs.Shape.{decoded}
use Rattle.chain_defs.specs.Schema.{OutPoint, Transaction, Block, block}
use Rattle.chain_defs.specs.First.{first_failing}
use Rattle.chain_defs.proofs.FirstLemmas.{finds_none}
use Rattle.chain_defs.specs.Specification.{Specification}
use Rattle.chain_defs.specs.Kept.{block_hash, place_of, follows, kept_limit}
use Rattle.chain_defs.specs.Branch.{branch}
use Rattle.chain_defs.specs.Tip.{tip_place, best_branch}
use Rattle.chain_defs.proofs.KeptLaws.{place_of-below}
use Rattle.rule_defs.specs.Header.{has_version, parent_of, header_rules}
use Rattle.chain_defs.specs.Row.{Row, live_row}
use Rattle.cell_state.specs.State.{StateValue, rows}
use Rattle.chain_tree.specs.declared.entry.Entry.{Entry}
use Rattle.chain_tree.specs.Blocks.{IndexesBlocks}
use Rattle.chain_tree.specs.Told.{Stored, blocks_of}
use Rattle.chain_tree.proofs.BlockLemmas.{len-same}
use Rattle.uncle_rules.specs.Embedded.{UnclesValue}
use Rattle.verdict_defs.specs.Ext.{ext_of}
use Rattle.verdict_defs.specs.Rules.{first_broken}
use Rattle.verdict_defs.specs.Judged.{Passed, judged_alone}
use Rattle.rule_defs.specs.Site.{site_after}
use Rattle.chain_defs.specs.Dao.{is_rated}
use Rattle.outside.specs.declared.disk.Damage.{Damage}
use Rattle.outside.specs.declared.disk.ReadStop.TheVariants.{Damaged}
use Rattle.rule_defs.specs.RuleNumber.{rule_number}
use Rattle.rule_defs.specs.declared.rule.Rule.{Rule}
use Rattle.block_judge.specs.declared.stop.JudgeStop.{JudgeStop}
use Rattle.block_judge.specs.declared.stop.JudgeStop.TheVariants.{Broken, Read}
use Rattle.block_judge.specs.Answers.{Answers, PaysAndTakes}
use Rattle.block_judge.specs.Standing.{Stands, StandsWhole}
use Rattle.verdict_defs.specs.Verdict.{verdict, verdict_of, verdict_of_block, verdict_on, verdict_by_rules}
use Rattle.verdict_defs.specs.Chain.{Chain}
use Rattle.verdict_defs.specs.Trial.{trial_on, trial_by}
use Rattle.verdict_defs.specs.declared.verdict.Verdict.{Verdict}
use Rattle.verdict_defs.specs.declared.verdict.Verdict.TheVariants.{Joined, Known, Refused, Full}
use Rattle.verdict_defs.specs.declared.trial.Trial.TheVariants as trials
use Rattle.store_defs.specs.Store.{IsJoined, AreJoined}
use Rattle.store_defs.proofs.TypedLaws.{typed-cells-hold-their-own}
use Rattle.node_store.specs.declared.decision.Joining.{Joining}
use Rattle.node_store.specs.declared.decision.Decision.{Decision}
use Rattle.node_store.specs.declared.decision.Decision.TheVariants.{Joins, Stays}
use Rattle.cell_state.specs.Moves.{AreRowsOfBranch}
use Rattle.node_store.specs.Kept.{KeptValue, kept_of, AreKept, AreRowsOfTip}
use Rattle.node_core.proofs.OwnLemmas.{have-own-fees}
use Rattle.node_core.proofs.SightLemmas.{header-at-sight, wants-passed}
use Rattle.node_store.specs.Judging.{IsEntryOn, HasPassed, IsJudged, IsDecidedBlock, IsDecided, MayBeKept, IsReadyBlock, IsReadyItem}
use Rattle.node_store.proofs.EntryLemmas.{within-entries}

pub none-there : {T : Type 0} (o : Option T) → is_some o ≡ false → o ≡ None
none-there None is = refl
none-there (Some x) is = absurd (cc)

-- ---- What it is judged over

-- the rows of its parent's branch over a chain that has joined
pub stands-on : (spec : Specification) (stored : List Stored) (entries : List Entry) (parent : ℕ) (found : OutPoint → Option Row)
    → IsJoined (record { spec = spec; blocks = blocks_of stored }) → IndexesBlocks (blocks_of stored) entries → parent < length entries
    → ((o : OutPoint) → found o ≡ live_row (blocks_of stored) parent o) → Stands stored entries parent found
stands-on spec stored entries parent found joined indexed below live = record {
  indexed = indexed;
  live = live;
  typed = λ o cell. typed-cells-hold-their-own (record { spec = spec; blocks = blocks_of stored }) parent o cell joined
      (omega (arith, below, len-same (blocks_of stored) entries indexed));
}

-- those of the tip
pub stands-tip : (spec : Specification) (stored : List Stored) (entries : List Entry) (index : UnclesValue) (found : OutPoint → Option Row) (tip : ℕ)
    → AreKept stored entries index → AreRowsOfTip (blocks_of stored) found → IsJoined (record { spec = spec; blocks = blocks_of stored })
    → tip_place (blocks_of stored) ≡ Some tip → tip < length entries → Stands stored entries tip found
stands-tip spec stored entries index found tip are live joined is below = stands-on spec stored entries tip found joined are.indexed below (live tip is)

-- all that a block is judged over, where the rows are those of its parent's branch
pub whole-at-hand : (spec : Specification) (stored : List Stored) (entries : List Entry) (index : UnclesValue) (state : StateValue) (kept : KeptValue) (b : Block)
    (entry : Entry) → kept_of spec stored entries ≡ kept → AreKept stored entries index → IsEntryOn kept.chain.blocks b entry → AreJoined kept.chain kept.exts
    → AreRowsOfBranch kept.chain.blocks entry.parent (rows state) → StandsWhole spec stored entries entry.parent (rows state) index
whole-at-hand spec stored entries index state kept b entry whole are on joined live =
    let seen : blocks_of stored ≡ kept.chain.blocks = ap (λ (k : KeptValue). k.chain.blocks) whole in
    let before : AreJoined (kept_of spec stored entries).chain (kept_of spec stored entries).exts = subst (λ (k : KeptValue). AreJoined k.chain k.exts) (sym whole) joined in
    record {
      stands = stands-on spec stored entries entry.parent (rows state) before.joined are.indexed
          (within-entries (blocks_of stored) kept.chain.blocks entries entry.parent seen are.indexed
          (place_of-below kept.chain.blocks b.header.parent_hash entry.parent on.on_kept))
          (subst (λ (blocks : List Block). AreRowsOfBranch blocks entry.parent (rows state)) (sym seen) live);
      uncles = are.uncles;
      fees = have-own-fees spec stored before are.counted;
    }

-- J5 is among the rules on a header.
pub follows-by-header : (spec : Specification) (on : List Block) (b : Block) → first_failing (header_rules spec on b) ≡ None → IsTrue (follows b (parent_of on))
follows-by-header spec on b unbroken =
    let later : List (ℕ × Bool) = drop 2 (header_rules spec on b) in
    All-head (λ rule. IsTrue rule.1) (5, follows b (parent_of on)) later
    (All-tail (λ rule. IsTrue rule.1) (4, has_version b.header) ((5, follows b (parent_of on)) ∷ later)
    ((finds_none (header_rules spec on b)).0 unbroken))

-- there is room
pub room-for : (count number : ℕ) (room : Bool) → room ≡ nat_lt count kept_limit → room ≡ true → count ≡ number → number < kept_limit
room-for count number room is so same = omega (arith, (Decides-ltb count kept_limit).0 (sym is ∙ so), same)

pub may-be-kept : (chain : Chain) (b : Block) (joining : Joining) → IsEntryOn chain.blocks b joining.entry
    → HasPassed chain joining.entry.parent b joining.hashes.items → length chain.blocks < kept_limit → is_rated b.header.dao ≡ true
    → length joining.ext.fees ≡ length b.transactions - 1 → MayBeKept chain b joining
may-be-kept chain b joining on passed room rated fees = record {
  ready = record {
    entry = on;
    next = follows-by-header chain.spec (branch chain.blocks joining.entry.parent) b
        (header-at-sight chain.spec (branch chain.blocks joining.entry.parent) b passed.sight);
    room = room;
    rated = rated;
    fees = fees;
    hashes = passed.hashes_are;
  };
  sight = passed.sight;
  wants = wants-passed chain b joining.entry.parent on.new on.on_kept passed.sight;
}

-- ---- The verdict on a block

abbrev by_found : Specification → List Block → Block → Option ℕ → Verdict
by_found spec kept b found = cond (is_some found) (Known (block_hash b)) (verdict_on spec kept b (place_of kept b.header.parent_hash))

-- one that is new
on-parent : (spec : Specification) (kept : List Block) (b : Block) (parent : Option ℕ) → place_of kept (block_hash b) ≡ None
    → place_of kept b.header.parent_hash ≡ parent → verdict_of_block spec kept b ≡ verdict_on spec kept b parent
on-parent spec kept b parent new on = ap (by_found spec kept b) new ∙ ap (verdict_on spec kept b) on

module _ (spec : Specification) (kept : List Block) (b : Block) (entry : Entry) (on : IsEntryOn kept b entry) where
  by-rules : (broken : Option ℕ) → first_broken spec (branch kept entry.parent) b ≡ broken → verdict_of_block spec kept b ≡ verdict_by_rules kept b broken
  by-rules broken is = on-parent spec kept b (Some entry.parent) on.new on.on_kept ∙ ap (verdict_by_rules kept b) is

  -- one that breaks a rule
  pub verdict-refused : (rule : ℕ) → first_broken spec (branch kept entry.parent) b ≡ Some rule → Refused rule ≡ verdict_of_block spec kept b
  verdict-refused rule is = sym (by-rules (Some rule) is)

  -- one that finds no room
  pub verdict-full : (count : ℕ) (room : Bool) → first_broken spec (branch kept entry.parent) b ≡ None → room ≡ nat_lt count kept_limit → room ≡ false
      → count ≡ length kept → Full ≡ verdict_of_block spec kept b
  verdict-full count room unbroken is none same =
      let no_room : nat_lt (length kept) kept_limit ≡ false = ap (λ (n : ℕ). nat_lt n kept_limit) (sym same) ∙ sym is ∙ none in
      sym (by-rules None unbroken ∙ ap (λ (r : Bool). cond r (Joined b.header.number (block_hash b)) Full) no_room)

-- one that may join
pub is-judged : (chain : Chain) (b : Block) (joining : Joining) → IsEntryOn chain.blocks b joining.entry
    → first_broken chain.spec (branch chain.blocks joining.entry.parent) b ≡ None → length chain.blocks < kept_limit
    → joining.ext ≡ ext_of chain.spec chain.blocks joining.entry.parent b → IsJudged chain b joining
is-judged chain b joining on unbroken room ext = record {
  may = record { new = on.new; parent = joining.entry.parent; on_kept = on.on_kept; unbroken = unbroken; room = room };
  on = refl;
  ext = ext;
}

-- ---- An item

-- one that is no block
pub verdict-no-block : (chain : Chain) (item : List ℕ) → decoded block item ≡ None → IsDecided chain item (Stays (Refused 1))
unfolding verdict
verdict-no-block chain item is = ap (verdict_of chain.spec chain.blocks) (sym is)

-- one that is a block
decided-item : (chain : Chain) (item : List ℕ) (b : Block) (decision : Decision) → decoded block item ≡ Some b → IsDecidedBlock chain b decision → IsDecided chain item decision
unfolding verdict
decided-item chain item b (Joins joining) is here = (b, is, here)
decided-item chain item b (Stays answer) is here = here ∙ ap (verdict_of chain.spec chain.blocks) (sym is)

pub decided-else : {S E : Type 0} (chain : Chain) (item : List ℕ) (b : Block) (result : Result (S × Decision) E) → decoded block item ≡ Some b
    → IfOk result (λ it. IsDecidedBlock chain b it.1) → IfOk result (λ it. IsDecided chain item it.1)
decided-else chain item b (Ok it) is here = decided-item chain item b it.1 is here
decided-else chain item b (Err stop) is here = tt

ready-item : (chain : Chain) (item : List ℕ) (b : Block) (decision : Decision) → decoded block item ≡ Some b → IsReadyBlock chain b decision → IsReadyItem chain item decision
ready-item chain item b (Joins joining) is here = (b, is, here)
ready-item chain item b (Stays answer) is here = here

pub ready-else : {S E : Type 0} (chain : Chain) (item : List ℕ) (b : Block) (result : Result (S × Decision) E) → decoded block item ≡ Some b
    → IfOk result (λ it. IsReadyBlock chain b it.1) → IfOk result (λ it. IsReadyItem chain item it.1)
ready-else chain item b (Ok it) is here = ready-item chain item b it.1 is here
ready-else chain item b (Err stop) is here = tt

-- ---- A transaction alone

abbrev branch_at : List Block → Option ℕ → List Block
branch_at kept None = []
branch_at kept (Some place) = branch kept place

best-is : (kept : List Block) (tip : ℕ) → tip_place kept ≡ Some tip → best_branch kept ≡ branch kept tip
best-is kept tip is = ap (branch_at kept) is

-- what comes of it after the tip, as it is answered
module _ (spec : Specification) (kept : List Block) (t : Transaction) (tip : ℕ) (is : tip_place kept ≡ Some tip) where
  abbrev comes : Result Passed ℕ
  comes = judged_alone (site_after spec (branch kept tip)) spec.max_cycles t

  by-value : (value : Result Passed ℕ) → comes ≡ value → trial_on spec (best_branch kept) t ≡ trial_by value
  unfolding trial_on
  by-value value found = ap (λ (on : List Block). trial_on spec on t) (best-is kept tip is) ∙ ap trial_by found

  pub trial-refused : (result : Result (ℕ × ℕ) JudgeStop) (rule : Rule) → Answers PaysAndTakes comes result → result ≡ Err (Broken rule)
      → trial_on spec (best_branch kept) t ≡ trials.Refused (rule_number rule)
  trial-refused result rule answers broken =
      by-value (Err (rule_number rule)) (subst (λ (r : Result (ℕ × ℕ) JudgeStop). Answers PaysAndTakes comes r) broken answers)

  pub trial-undamaged : (result : Result (ℕ × ℕ) JudgeStop) (damage : Damage) → Answers PaysAndTakes comes result → result ≡ Err (Read (Damaged damage)) → ⊥
  trial-undamaged result damage answers was = subst (λ (r : Result (ℕ × ℕ) JudgeStop). Answers PaysAndTakes comes r) was answers

  pub trial-passes : (result : Result (ℕ × ℕ) JudgeStop) → Answers PaysAndTakes comes result
      → IfOk result (λ it. trial_on spec (best_branch kept) t ≡ trials.Passes it.0 it.1)
  trial-passes (Err stop) answers = tt
  trial-passes (Ok it) answers = by_value comes refl answers
    where
      by_value : (value : Result Passed ℕ) → comes ≡ value → IsOkAnd value (λ passed. PaysAndTakes passed it) → trial_on spec (best_branch kept) t ≡ trials.Passes it.0 it.1
      by_value (Err rule) found same = absurd same
      by_value (Ok passed) found same = by-value (Ok passed) found ∙ (λ i. trials.Passes (sym same.fee_is i) (sym same.cycles_are i))
