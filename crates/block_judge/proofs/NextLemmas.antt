-- What the transactions of a block so far have in its ext and among its rules.
use Rattle.std.proofs.Common.{◌≡◌, ℕ, ◌+◌, ◌-◌, ◌≤◌, ◌<◌, ℤ, pos, ◌+ℤ◌, Bool, true, false, ◌&&◌, List, [], ◌∷◌, ◌++◌, length, take, drop, Vec, Global, Option, Some, Result, Ok, Err, refl, sym, ap, ◌∙◌, arith}
use Rattle.std.specs.Prelude.{slice_get, is_some, nat_lt, nat_le, ◌^◌, map, IsOkAnd, IsTrue}
use Rattle.std.specs.List.{All, list_any, filter}
use Rattle.std.proofs.lemmas.List.Elements.{All-nil, All-same}
use Rattle.std.proofs.lemmas.Int.{ints}
use Rattle.std.specs.Str.{bytes_eq}
use Rattle.chain_defs.specs.Schema.{OutPoint, Transaction, Block}
use Rattle.chain_defs.specs.First.{first_failing}
use Rattle.std.proofs.lemmas.Bool.Decides.{nat_tests}
use Rattle.chain_defs.specs.Specification.{Specification, keeps_s5}
use Rattle.chain_defs.specs.Branch.{branch}
use Rattle.chain_defs.specs.Hashes.{transaction_hash}
use Rattle.chain_tree.specs.Told.{Stored, blocks_of}
use Rattle.tx_rules.specs.At.{AtValue, IsSiteOf}
use Rattle.cell_state.specs.declared.cells.Resolved.{Resolved}
use Rattle.tx_rules.specs.Copying.{ServesAgain, row_in}
use Rattle.chain_defs.specs.Row.{Row}
use Rattle.chain_defs.specs.Ext.{Ext}
use Rattle.rule_defs.specs.Site.{Site, site_at}
use Rattle.rule_defs.specs.TransactionRules.{form_rules, cell_rules}
use Rattle.rule_defs.specs.Window.{earliest}
use Rattle.rule_defs.specs.Capacity.{fee, fees_from}
use Rattle.rule_defs.specs.Field.{freed_from, interest_from}
use Rattle.verdict_defs.specs.Scene.{scene_of}
use Rattle.verdict_defs.specs.ScriptRules.{cycles_of, script_rules}
use Rattle.verdict_defs.specs.Transactions.{transaction_rules, rules_from, rules_of_transactions}
use Rattle.verdict_defs.specs.Ext.{rows_spent, spent_from, ext_of}
use Rattle.verdict_defs.specs.Judged.{Passed, judged, judged_where, judged_transactions, passed_at, transactions_passed}
use Rattle.verdict_defs.proofs.JudgedLemmas.{judged-passes-by, passes-by, passes-with}
use Rattle.block_judge.specs.declared.stop.JudgeStop.{JudgeStop}
use Rattle.block_judge.specs.declared.transactions.PassedTransaction.{PassedTransaction}
use Rattle.block_judge.specs.declared.all_transactions.Outcome.{Outcome}
use Rattle.block_judge.specs.declared.all_transactions.Progress.{Progress}
use Rattle.block_judge.specs.Answers.{AddsAnswered, IsOutcomeOf, IsPassed, AddsJudged, StopsAs}
use Rattle.block_judge.specs.Progress.{AreProposed}
use Rattle.block_judge.proofs.AnswerLemmas.{stops-within}
use Rattle.block_judge.proofs.ExtLemmas.{rows-spent}
use Rattle.block_judge.proofs.MovedLemmas.{interest-next, interest-none, freed-next, freed-none}
use Rattle.block_judge.proofs.RestLemmas.{fees-more, fees-all, spent-more, spent-all, rules-more, rules-broken, rules-end}

-- J19 asked of the ids that are proposed, by those of the transaction's hash
pub judged-asked : (site : Site) (left : ℕ) (t : Transaction) (proposed : Bool) (ids : List (List ℕ)) (id hash : List ℕ)
    → hash ≡ transaction_hash t → id ≡ take 10 hash → proposed ≡ list_any (bytes_eq id) ids → AreProposed site.spec site.branch ids
    → judged_where proposed site left t ≡ judged site left t
judged-asked site left t proposed ids id hash hash_is id_is asked are =
    ap (λ (b : Bool). judged_where b site left t)
    (asked ∙ ap (λ (l : List ℕ). list_any (bytes_eq l) ids) (id_is ∙ ap (take 10) hash_is) ∙ are (take 10 (transaction_hash t)))

pub proposed-here : (spec : Specification) (on : List Block) (ids : List (List ℕ)) (height : ℕ)
    → ((id : List ℕ) → list_any (bytes_eq id) ids ≡ is_some (earliest spec on id height)) → height ≡ length on → AreProposed spec on ids
proposed-here spec on ids height are last id = are id ∙ ap (λ (n : ℕ). is_some (earliest spec on id n)) last

-- What was answered of the next transaction is taken, and so what it passes with.
pub is-taken : {C : Type 0} (stored : List Stored) (at : AtValue) (rows : OutPoint → Option Row) (site : Site) (left : ℕ) (t : Transaction) (proposed : Bool)
    (passed : PassedTransaction) (e : ℕ) (old new : Progress C) → at.parent < length at.entries → IsSiteOf stored at rows site → e ≡ length at.entries
    → IsOkAnd (judged_where proposed site left t) (λ is. IsPassed (blocks_of stored) at.parent is passed) → AddsAnswered e passed old new
    → IsOkAnd (judged_where proposed site left t) (λ is. AddsJudged (blocks_of stored) at.parent site is old new)
unfolding judged_where
is-taken stored at rows site left t proposed passed e old new placed is last passes taken =
    let first = first_failing (form_rules t ++ (19, proposed) ∷ cell_rules site t ++ script_rules (scene_of site t) left) in
    let by = passes-by (passed_at site left t) first (λ it. IsPassed (blocks_of stored) at.parent it passed) passes in
    passes-with (passed_at site left t) first (λ it. AddsJudged (blocks_of stored) at.parent site it old new) by.0 (record {
      left_is = taken.left_is ∙ ap (λ (n : ℕ). old.left - n) by.1.cycles_are;
      fees_are = taken.fees_are ∙ ap (λ (n : ℕ). old.ext.fees ++ n ∷ []) by.1.fee_is;
      rows_are = taken.rows_are
          ∙ ap (λ (n : ℕ). old.ext.spent ++ filter (λ it. nat_lt it.1.block n) (map row_in passed.inputs.items)) last
          ∙ ap (λ (l : List (OutPoint × Row)). old.ext.spent ++ l) (rows-spent stored at rows site t passed.inputs.items placed is by.1.rows_are);
      interest_is = taken.interest_is ∙ ap (λ (z : ℤ). old.interest +ℤ z) by.1.interest_is;
      freed_is = taken.freed_is ∙ ap (λ (n : ℕ). old.freed + n) by.1.freed_is;
    })

-- the copies of deps that are kept beside it are no part of it
pub adds-beside : {C : Type 0} (kept : List Block) (parent : ℕ) (site : Site) (comes : Result Passed ℕ) (old new : Progress C) (before after : Vec Resolved Global)
    → IsOkAnd comes (λ is. AddsJudged kept parent site is (record old { deps = before }) new)
    → IsOkAnd comes (λ is. AddsJudged kept parent site is old (record new { deps = after }))
adds-beside kept parent site (Ok is) old new before after adds =
    record { left_is = adds.left_is; fees_are = adds.fees_are; rows_are = adds.rows_are; interest_is = adds.interest_is; freed_is = adds.freed_is }
adds-beside kept parent site (Err rule) old new before after adds = absurd adds

-- no copies serve again
pub none-serve : (told : Option (List Stored)) (at : AtValue) (copies : List Resolved) → copies ≡ [] → All (ServesAgain told at) copies
none-serve told at copies none = All-same (ServesAgain told at) copies [] none (All-nil (ServesAgain told at))

-- the cycles of a block are few
pub few-cycles : (cycles : ℕ) → IsTrue (keeps_s5 cycles) → cycles ≤ 2 ^ 40
few-cycles cycles keeps = let within = after_cellbase (nat_le 1 cycles) (nat_le cycles (2 ^ 40)) keeps in grind (arith, nat_tests, within)
  where
    after_cellbase : (a b : Bool) → IsTrue (a && b) → IsTrue b
    after_cellbase true b both = both
    after_cellbase false b both = absurd (cc)

-- ---- So far

-- What is left to judge and to move of a block's transactions from a place on, where those before left so many cycles and came to this.
pub record IsPassedTo (spec : Specification) (kept : List Block) (parent : ℕ) (b : Block) (place left : ℕ) (ext : Ext) (interest : ℤ) (freed : ℕ) : Type 0 where
  pub rules : first_failing (rules_of_transactions spec (branch kept parent) b)
      ≡ first_failing (rules_from spec (branch kept parent) b place left (drop place b.transactions))
  pub fees : fees_from spec (branch kept parent) b 1 (drop 1 b.transactions)
      ≡ ext.fees ++ fees_from spec (branch kept parent) b place (drop place b.transactions)
  pub spent : spent_from spec kept parent b 1 (drop 1 b.transactions) ≡ ext.spent ++ spent_from spec kept parent b place (drop place b.transactions)
  pub withdrawn : interest_from spec (branch kept parent) b 1 (drop 1 b.transactions)
      ≡ interest +ℤ interest_from spec (branch kept parent) b place (drop place b.transactions)
  pub moved : freed_from spec (branch kept parent) b 1 (drop 1 b.transactions) ≡ freed + freed_from spec (branch kept parent) b place (drop place b.transactions)

module _ (spec : Specification) (kept : List Block) (parent : ℕ) (b : Block) where
  abbrev on : List Block
  on = branch kept parent

  pub passed-none : (left : ℕ) (ext : Ext) (interest : ℤ) (freed : ℕ) → left ≡ spec.max_cycles → ext.fees ≡ [] → ext.spent ≡ [] → interest ≡ pos 0 → freed ≡ 0
      → IsPassedTo spec kept parent b 1 left ext interest freed
  passed-none left ext interest freed all fees spent none nothing = record {
    rules = ap (λ (n : ℕ). first_failing (rules_from spec on b 1 n (drop 1 b.transactions))) (sym all);
    fees = ap (λ (l : List ℕ). l ++ fees_from spec on b 1 (drop 1 b.transactions)) (sym fees);
    spent = ap (λ (l : List (OutPoint × Row)). l ++ spent_from spec kept parent b 1 (drop 1 b.transactions)) (sym spent);
    withdrawn = omega (arith, ints, none);
    moved = omega (arith, nothing);
  }

  its-ext : (fees : List ℕ) (spent : List (OutPoint × Row)) → fees ≡ fees_from spec on b 1 (drop 1 b.transactions) → spent ≡ spent_from spec kept parent b 1 (drop 1 b.transactions)
      → ◌≡◌ {A = Ext} (record { fees = fees; spent = spent }) (ext_of spec kept parent b)
  unfolding ext_of
  its-ext fees spent same other = rw (same, other) refl

  module _ (place left : ℕ) (ext : Ext) (interest : ℤ) (freed : ℕ) (so_far : IsPassedTo spec kept parent b place left ext interest freed) where
    -- one that breaks a rule
    pub passed-breaks : (t : Transaction) (stop : JudgeStop) → slice_get b.transactions place ≡ Some t → StopsAs (judged (site_at spec on b place) left t) stop
        → StopsAs (judged_transactions spec kept parent b) stop
    unfolding judged_where
    passed-breaks t stop there stops =
        stops-within (passed_at (site_at spec on b place) left t) (transactions_passed spec kept parent b)
        (first_failing (transaction_rules (site_at spec on b place) left t)) (first_failing (rules_of_transactions spec on b)) stop
        (λ rule broken. so_far.rules ∙ rules-broken spec on b place left t rule there broken) stops

    -- one more that passes
    pub passed-more : {C : Type 0} (t : Transaction) (old new : Progress C) → slice_get b.transactions place ≡ Some t
        → old.left ≡ left → old.ext ≡ ext → old.interest ≡ interest → old.freed ≡ freed
        → IsOkAnd (judged (site_at spec on b place) left t) (λ is. AddsJudged kept parent (site_at spec on b place) is old new)
        → IsPassedTo spec kept parent b (place + 1) new.left new.ext new.interest new.freed
    passed-more t old new there left_is ext_is interest_is freed_is passes =
        let by = judged-passes-by (site_at spec on b place) left t (λ is. AddsJudged kept parent (site_at spec on b place) is old new) passes in
        let less = by.1.left_is ∙ ap (λ (n : ℕ). n - cycles_of (scene_of (site_at spec on b place) t) left) left_is in
        let withdrawn = so_far.withdrawn in
        let moved = so_far.moved in
        let withdraws = by.1.interest_is in
        let frees = by.1.freed_is in
        let interest_next = interest-next spec on b place t there in
        let freed_next = freed-next spec on b place t there in record {
          rules = so_far.rules ∙ rules-more spec on b place left t there by.0
              ∙ ap (λ (n : ℕ). first_failing (rules_from spec on b (place + 1) n (drop (place + 1) b.transactions))) (sym less);
          fees = fees-more spec on b place t _ ext.fees new.ext.fees there so_far.fees
              (by.1.fees_are ∙ ap (λ (it : Ext). it.fees ++ fee (site_at spec on b place) t ∷ []) ext_is);
          spent = spent-more spec kept parent b place t _ ext.spent new.ext.spent there so_far.spent
              (by.1.rows_are ∙ ap (λ (it : Ext). it.spent ++ rows_spent kept parent (site_at spec on b place) t) ext_is);
          withdrawn = omega (arith, ints, withdrawn, withdraws, interest_next, interest_is);
          moved = omega (arith, moved, frees, freed_next, freed_is);
        }

    -- after the last one
    pub passed-all : (outcome : Outcome) → length b.transactions ≤ place → outcome.ext ≡ ext → outcome.interest ≡ interest → outcome.freed ≡ freed
        → IsOkAnd (judged_transactions spec kept parent b) (λ is. IsOutcomeOf is outcome)
    passed-all outcome past ext_is interest_is freed_is =
        let withdrawn = so_far.withdrawn in
        let moved = so_far.moved in
        let none = interest-none spec on b place past in
        let nothing = freed-none spec on b place past in
        passes-with (transactions_passed spec kept parent b) (first_failing (rules_of_transactions spec on b)) (λ is. IsOutcomeOf is outcome)
        (so_far.rules ∙ rules-end spec on b place left past) (record {
          ext_is = ext_is ∙ its-ext ext.fees ext.spent (fees-all spec on b place _ ext.fees past so_far.fees) (spent-all spec kept parent b place _ ext.spent past so_far.spent);
          interest_is = omega (arith, ints, withdrawn, none, interest_is);
          freed_is = omega (arith, moved, nothing, freed_is);
        })
