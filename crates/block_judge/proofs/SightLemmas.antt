-- The rules that a block is judged by at sight, one group after another, and all rules of a block that has passed.
use Rattle.std.proofs.Common.{◌≡◌, ℕ, ◌<◌, ◌≤◌, inr, Bool, true, false, ◌&&◌, List, [], ◌∷◌, ◌++◌, length, map, Option, Some, None, refl, sym, ap, ◌∙◌, arith, subst}
use Rattle.std.specs.Prelude.{◌==◌, not, option_map, is_some, nat_le, drop}
use Rattle.std.specs.List.{All, list_all, list_any}
use Rattle.std.proofs.lemmas.List.Elements.{All-nil, All-cons, All-head, All-tail}
use Rattle.std.proofs.lemmas.Option.{same_Some, none-some}
use Rattle.chain_defs.specs.First.{first_failing}
use Rattle.chain_defs.proofs.FirstLemmas.{first_failing-append-fails, first_failing-append-holds, first_failing-fails, first_failing-holds, first_failing-none, finds_none}
use Rattle.chain_defs.specs.Schema.{OutPoint, Transaction, Block}
use Rattle.chain_defs.specs.Specification.{Specification}
use Rattle.chain_defs.specs.Branch.{branch}
use Rattle.chain_defs.specs.Hashes.{transaction_hash, are_distinct}
use Rattle.chain_defs.specs.Cell.{Cell}
use Rattle.chain_defs.specs.Events.{live_cell, made_out_points}
use Rattle.chain_defs.specs.Row.{Row, row_on, live_row}
use Rattle.rule_defs.specs.Header.{header_rules}
use Rattle.rule_defs.specs.Body.{fits_length, has_proposals, commits_to_proposals, commits_to_transactions, has_few_uncles, commits_to_uncles, body_rules}
use Rattle.rule_defs.specs.Uncles.{has_uncles}
use Rattle.rule_defs.specs.Cellbase.{has_cellbase, begins_with_cellbase, has_since, has_plain_output, names_lock, is_first_well_formed, forms_cellbase}
use Rattle.verdict_defs.specs.Transactions.{rules_of_transactions}
use Rattle.rule_defs.specs.RewardRules.{end_rules}
use Rattle.rule_defs.specs.FamilyRules.{uncle_and_cellbase_rules, uncle_and_cellbase_rules_over, no_cell}
use Rattle.verdict_defs.specs.Rules.{all_rules, first_broken, broken_at_sight}
use Rattle.rule_defs.specs.RuleNumber.{rule_number}
use Rattle.rule_defs.specs.declared.rule.Rule.{Rule}
use Rattle.block_judge.specs.declared.stop.JudgeStop.{JudgeStop}
use Rattle.block_judge.specs.declared.stop.JudgeStop.TheVariants.{Broken, Read}
use Rattle.block_judge.specs.ByRows.{StopsByForm}
use Rattle.block_judge.specs.Standing.{rules_left}

-- ---- At sight

-- a rule that is broken is one of those that were listed
failing-one : (Listed : ℕ → Type 0) (rules : List (ℕ × Bool)) (rule : ℕ) → All (λ row. Listed row.0) rules → first_failing rules ≡ Some rule → Listed rule
unfolding first_failing
failing-one Listed [] rule listed is = absurd (cc)
failing-one Listed ((n, true) ∷ rules) rule listed is = failing-one Listed rules rule (All-tail (λ row. Listed row.0) (n, true) rules listed) is
failing-one Listed ((n, false) ∷ rules) rule listed is =
    subst Listed (same_Some n rule is) (All-head (λ row. Listed row.0) (n, false) rules listed)

abbrev IsOfBody : ℕ → Type 0
IsOfBody rule = (9 ≤ rule) × (rule ≤ 14)

pub body-rule : (spec : Specification) (b : Block) (rule : ℕ) → first_failing (body_rules spec b) ≡ Some rule → (9 ≤ rule) × (rule ≤ 14)
body-rule spec b rule is =
    let from_14 : List (ℕ × Bool) = (14, commits_to_uncles b) ∷ [] in
    let from_13 : List (ℕ × Bool) = (13, has_few_uncles b) ∷ from_14 in
    let from_12 : List (ℕ × Bool) = (12, commits_to_transactions b) ∷ from_13 in
    let from_11 : List (ℕ × Bool) = (11, commits_to_proposals b) ∷ from_12 in
    let from_10 : List (ℕ × Bool) = (10, has_proposals spec b) ∷ from_11 in
    failing-one IsOfBody (body_rules spec b) rule
    (listed 9 (fits_length spec b) (omega arith) (omega arith) from_10 (listed 10 (has_proposals spec b) (omega arith) (omega arith) from_11
    (listed 11 (commits_to_proposals b) (omega arith) (omega arith) from_12 (listed 12 (commits_to_transactions b) (omega arith) (omega arith) from_13
    (listed 13 (has_few_uncles b) (omega arith) (omega arith) from_14 (listed 14 (commits_to_uncles b) (omega arith) (omega arith) []
    (All-nil (λ row. IsOfBody row.0)))))))) is
  where
    listed : (n : ℕ) (test : Bool) → 9 ≤ n → n ≤ 14 → (rules : List (ℕ × Bool)) → All (λ row. IsOfBody row.0) rules → All (λ row. IsOfBody row.0) ((n, test) ∷ rules)
    listed n test low high rules rest = All-cons (λ row. IsOfBody row.0) (n, test) rules (low, high) rest

-- A block whose body keeps its rules fits the length, and its proposals are few enough.
pub body-asks : (spec : Specification) (b : Block) → None ≡ first_failing (body_rules spec b)
    → (fits_length spec b ≡ true) × (nat_le (length b.proposals) spec.max_proposals ≡ true)
body-asks spec b kept =
    let from_10 : List (ℕ × Bool) =
    (10, has_proposals spec b) ∷ (11, commits_to_proposals b) ∷ (12, commits_to_transactions b) ∷ (13, has_few_uncles b) ∷ (14, commits_to_uncles b) ∷ [] in
    let all : All (λ rule. rule.1 ≡ true) ((9, fits_length spec b) ∷ from_10) = (finds_none (body_rules spec b)).0 (sym kept) in
    let second : has_proposals spec b ≡ true =
    All-head (λ rule. rule.1 ≡ true) (10, has_proposals spec b) (drop 1 from_10) (All-tail (λ rule. rule.1 ≡ true) (9, fits_length spec b) from_10 all) in
    (All-head (λ rule. rule.1 ≡ true) (9, fits_length spec b) from_10 all, first (nat_le (length b.proposals) spec.max_proposals) (are_distinct b.proposals) second)
  where
    first : (one other : Bool) → (one && other) ≡ true → one ≡ true
    first true other both = refl
    first false other both = absurd (cc)

pub breaks-header : (spec : Specification) (on : List Block) (b : Block) (rule : ℕ) → Some rule ≡ first_failing (header_rules spec on b)
    → broken_at_sight spec on b ≡ Some rule
unfolding broken_at_sight
breaks-header spec on b rule is = first_failing-append-fails rule (header_rules spec on b) (body_rules spec b ++ uncle_and_cellbase_rules_over no_cell spec on b) (sym is)

pub breaks-body : (spec : Specification) (on : List Block) (b : Block) (rule : ℕ) → None ≡ first_failing (header_rules spec on b)
    → Some rule ≡ first_failing (body_rules spec b) → broken_at_sight spec on b ≡ Some rule
unfolding broken_at_sight
breaks-body spec on b rule header is =
    first_failing-append-holds (header_rules spec on b) (body_rules spec b ++ uncle_and_cellbase_rules_over no_cell spec on b) ((finds_none (header_rules spec on b)).0 (sym header))
    ∙ first_failing-append-fails rule (body_rules spec b) (uncle_and_cellbase_rules_over no_cell spec on b) (sym is)

pub leaves-family : (spec : Specification) (on : List Block) (b : Block) → None ≡ first_failing (header_rules spec on b) → None ≡ first_failing (body_rules spec b)
    → broken_at_sight spec on b ≡ first_failing (uncle_and_cellbase_rules_over no_cell spec on b)
unfolding broken_at_sight
leaves-family spec on b header body =
    first_failing-append-holds (header_rules spec on b) (body_rules spec b ++ uncle_and_cellbase_rules_over no_cell spec on b) ((finds_none (header_rules spec on b)).0 (sym header))
    ∙ first_failing-append-holds (body_rules spec b) (uncle_and_cellbase_rules_over no_cell spec on b) ((finds_none (body_rules spec b)).0 (sym body))

pub breaks-15 : (live : OutPoint → Option Cell) (spec : Specification) (on : List Block) (b : Block) → has_uncles spec on b ≡ false
    → first_failing (uncle_and_cellbase_rules_over live spec on b) ≡ Some 15
breaks-15 live spec on b uncles = first_failing-fails 15 (has_uncles spec on b) _ uncles

pub breaks-16 : (live : OutPoint → Option Cell) (spec : Specification) (on : List Block) (b : Block) → has_uncles spec on b ≡ true → has_cellbase b ≡ false
    → first_failing (uncle_and_cellbase_rules_over live spec on b) ≡ Some 16
breaks-16 live spec on b uncles cellbase = first_failing-holds 15 (has_uncles spec on b) _ uncles ∙ first_failing-fails 16 (has_cellbase b) _ cellbase

leaves-17 : (live : OutPoint → Option Cell) (spec : Specification) (on : List Block) (b : Block) (later : List (ℕ × Bool)) → has_uncles spec on b ≡ true
    → has_cellbase b ≡ true → first_failing (uncle_and_cellbase_rules_over live spec on b ++ later) ≡ first_failing ((17, forms_cellbase live b) ∷ later)
leaves-17 live spec on b later uncles cellbase = first_failing-holds 15 (has_uncles spec on b) _ uncles ∙ first_failing-holds 16 (has_cellbase b) _ cellbase

pub breaks-17 : (live : OutPoint → Option Cell) (spec : Specification) (on : List Block) (b : Block) → has_uncles spec on b ≡ true → has_cellbase b ≡ true
    → forms_cellbase live b ≡ false → first_failing (uncle_and_cellbase_rules_over live spec on b) ≡ Some 17
breaks-17 live spec on b uncles cellbase form = leaves-17 live spec on b [] uncles cellbase ∙ first_failing-fails 17 (forms_cellbase live b) [] form

pub keeps-family : (live : OutPoint → Option Cell) (spec : Specification) (on : List Block) (b : Block) → has_uncles spec on b ≡ true → has_cellbase b ≡ true
    → forms_cellbase live b ≡ true → first_failing (uncle_and_cellbase_rules_over live spec on b) ≡ None
keeps-family live spec on b uncles cellbase form =
    leaves-17 live spec on b [] uncles cellbase ∙ first_failing-holds 17 (forms_cellbase live b) [] form ∙ first_failing-none

-- a block with a cellbase has a transaction
pub has-first : (b : Block) → has_cellbase b ≡ true → 0 < length b.transactions
unfolding has_cellbase
has-first b is = by_list b.transactions is
  where
    by_list : (transactions : List Transaction) → (begins_with_cellbase transactions && are_distinct (map transaction_hash transactions)) ≡ true → 0 < length transactions
    by_list [] none = absurd (cc)
    by_list (first ∷ later) some = omega arith

-- a row stands just where a cell is live
pub live-there : (kept : List Block) (parent : ℕ) (o : OutPoint) (row : Option Row) → row ≡ live_row kept parent o
    → is_some row ≡ is_some (live_cell (branch kept parent) o)
unfolding live_row
live-there kept parent o row is = ap is_some is ∙ by_cell (live_cell (branch kept parent) o)
  where
    by_cell : (live : Option Cell) → is_some (option_map (row_on kept parent) live) ≡ is_some live
    by_cell None = refl
    by_cell (Some cell) = refl

-- ---- All rules, on a block that has passed at sight

-- where none of a list is broken, none of its first ones is, and none of the others
pub kept-first : (earlier later : List (ℕ × Bool)) → first_failing (earlier ++ later) ≡ None → first_failing earlier ≡ None
kept-first earlier later kept = by_first (first_failing earlier) refl
  where
    by_first : (first : Option ℕ) → first_failing earlier ≡ first → first ≡ None
    by_first None is = refl
    by_first (Some rule) is = absurd (none-some rule (sym kept ∙ first_failing-append-fails rule earlier later is))

pub kept-later : (earlier later : List (ℕ × Bool)) → first_failing (earlier ++ later) ≡ None → first_failing later ≡ None
kept-later earlier later kept =
    sym (first_failing-append-holds earlier later ((finds_none earlier).0 (kept-first earlier later kept))) ∙ kept

kept-head : (n : ℕ) (test : Bool) (later : List (ℕ × Bool)) → first_failing ((n, test) ∷ later) ≡ None → test ≡ true
kept-head n true later kept = refl
kept-head n false later kept = absurd (none-some n (sym kept ∙ first_failing-fails n false later refl))

-- It is judged by J17 over the live cells, and then by the rules after it.
pub passed : (spec : Specification) (on : List Block) (b : Block) → broken_at_sight spec on b ≡ None → first_broken spec on b ≡ first_failing (rules_left spec on b)
unfolding first_broken all_rules broken_at_sight
passed spec on b kept =
    let header : List (ℕ × Bool) = header_rules spec on b in
    let body : List (ℕ × Bool) = body_rules spec b in
    let last : List (ℕ × Bool) = rules_of_transactions spec on b ++ end_rules spec on b in
    let others : first_failing (body ++ uncle_and_cellbase_rules_over no_cell spec on b) ≡ None = kept-later header (body ++ uncle_and_cellbase_rules_over no_cell spec on b) kept in
    let family : first_failing (uncle_and_cellbase_rules_over no_cell spec on b) ≡ None = kept-later body (uncle_and_cellbase_rules_over no_cell spec on b) others in
    let uncles : has_uncles spec on b ≡ true = kept-head 15 (has_uncles spec on b) _ family in
    let after_15 = sym (first_failing-holds 15 (has_uncles spec on b) ((16, has_cellbase b) ∷ (17, forms_cellbase no_cell b) ∷ []) uncles) ∙ family in
    let cellbase : has_cellbase b ≡ true = kept-head 16 (has_cellbase b) _ after_15 in
    first_failing-append-holds header (body ++ (uncle_and_cellbase_rules spec on b ++ last))
    ((finds_none header).0 (kept-first header (body ++ uncle_and_cellbase_rules_over no_cell spec on b) kept))
    ∙ first_failing-append-holds body (uncle_and_cellbase_rules spec on b ++ last) ((finds_none body).0 (kept-first body (uncle_and_cellbase_rules_over no_cell spec on b) others))
    ∙ leaves-17 (live_cell on) spec on b last uncles cellbase

pub first-cellbase : (spec : Specification) (on : List Block) (b : Block) → forms_cellbase (live_cell on) b ≡ false → first_failing (rules_left spec on b) ≡ Some 17
first-cellbase spec on b form = first_failing-fails 17 (forms_cellbase (live_cell on) b) (rules_of_transactions spec on b ++ end_rules spec on b) form

past-cellbase : (spec : Specification) (on : List Block) (b : Block) → forms_cellbase (live_cell on) b ≡ true
    → first_failing (rules_left spec on b) ≡ first_failing (rules_of_transactions spec on b ++ end_rules spec on b)
past-cellbase spec on b form = first_failing-holds 17 (forms_cellbase (live_cell on) b) (rules_of_transactions spec on b ++ end_rules spec on b) form

pub first-transaction : (spec : Specification) (on : List Block) (b : Block) (rule : ℕ) → forms_cellbase (live_cell on) b ≡ true
    → first_failing (rules_of_transactions spec on b) ≡ Some rule → first_failing (rules_left spec on b) ≡ Some rule
first-transaction spec on b rule form is =
    past-cellbase spec on b form ∙ first_failing-append-fails rule (rules_of_transactions spec on b) (end_rules spec on b) is

-- One that keeps those before is judged by the last ones.
pub at-end : (spec : Specification) (on : List Block) (b : Block) → forms_cellbase (live_cell on) b ≡ true
    → first_failing (rules_of_transactions spec on b) ≡ None → first_failing (rules_left spec on b) ≡ first_failing (end_rules spec on b)
at-end spec on b form judged =
    past-cellbase spec on b form
    ∙ first_failing-append-holds (rules_of_transactions spec on b) (end_rules spec on b) ((finds_none (rules_of_transactions spec on b)).0 judged)

-- ---- Answers over any source of blocks

-- a stop after J17, where the cellbase has its form
pub stops-after : (form : Bool) (stop : JudgeStop) → form ≡ true → ((rule : Rule) → stop ≡ Broken rule → 17 < rule_number rule) → StopsByForm form stop
stops-after form (Broken rule) kept later = inr (later rule refl, kept)
stops-after form (Read stop) kept later = kept

-- ---- J17, over more live cells

none-live : (os : List OutPoint) → list_any (λ o. is_some (no_cell o)) os ≡ false
none-live [] = refl
none-live (o ∷ os) = none-live os

-- the test on live cells is one of several that must all hold
one-of-all : (version cells headers since plain live named : Bool)
    → (version && cells && headers && since && plain && not false && named) ≡ false
    → (version && cells && headers && since && plain && not live && named) ≡ false
one-of-all false cells headers since plain live named is = refl
one-of-all true false headers since plain live named is = refl
one-of-all true true false since plain live named is = refl
one-of-all true true true false plain live named is = refl
one-of-all true true true true false live named is = refl
one-of-all true true true true true false named is = is
one-of-all true true true true true true named is = refl

forms-over-more : (live : OutPoint → Option Cell) (number : ℕ) (transactions : List Transaction) → is_first_well_formed no_cell number transactions ≡ false
    → is_first_well_formed live number transactions ≡ false
forms-over-more live number [] is = refl
forms-over-more live number (t ∷ later) is =
    one-of-all (t.raw.version == 0) (length t.raw.cell_deps == 0) (length t.raw.header_deps == 0) (list_all (has_since number) t.raw.inputs)
    (has_plain_output t) (list_any (λ o. is_some (live o)) (made_out_points t)) (names_lock t)
    (ap (λ (any : Bool). (t.raw.version == 0) && (length t.raw.cell_deps == 0) && (length t.raw.header_deps == 0)
    && list_all (has_since number) t.raw.inputs && has_plain_output t && not any && names_lock t) (sym (none-live (made_out_points t))) ∙ is)

cellbase-over-more : (live : OutPoint → Option Cell) (b : Block) → forms_cellbase no_cell b ≡ false → forms_cellbase live b ≡ false
unfolding forms_cellbase
cellbase-over-more live b is = forms-over-more live b.header.number b.transactions is

-- ---- The first rule that is broken

-- after rules that may be broken too
after-others : (earlier one other : List (ℕ × Bool)) (rule : ℕ) → (first_failing one ≡ Some rule → first_failing other ≡ Some rule)
    → first_failing (earlier ++ one) ≡ Some rule → first_failing (earlier ++ other) ≡ Some rule
unfolding first_failing
after-others [] one other rule later is = later is
after-others ((n, true) ∷ earlier) one other rule later is = after-others earlier one other rule later is
after-others ((n, false) ∷ earlier) one other rule later is = is

family-over-more : (uncles cellbase form more : Bool) (rule : ℕ) → (form ≡ false → more ≡ false)
    → first_failing ((15, uncles) ∷ (16, cellbase) ∷ (17, form) ∷ []) ≡ Some rule
    → first_failing ((15, uncles) ∷ (16, cellbase) ∷ (17, more) ∷ []) ≡ Some rule
unfolding first_failing
family-over-more false cellbase form more rule less is = is
family-over-more true false form more rule less is = is
family-over-more true true false more rule less is = ap (λ (test : Bool). first_failing ((17, test) ∷ [])) (less refl) ∙ is
family-over-more true true true more rule less is = absurd (cc)

-- what is broken at sight is the first of all
pub first-at-sight : (spec : Specification) (on : List Block) (b : Block) (rule : ℕ) → broken_at_sight spec on b ≡ Some rule → first_broken spec on b ≡ Some rule
unfolding broken_at_sight first_broken all_rules
first-at-sight spec on b rule is =
    let rest : List (ℕ × Bool) = rules_of_transactions spec on b ++ end_rules spec on b in
    after-others (header_rules spec on b) (body_rules spec b ++ uncle_and_cellbase_rules_over no_cell spec on b) (body_rules spec b ++ (uncle_and_cellbase_rules spec on b ++ rest)) rule
    (after-others (body_rules spec b) (uncle_and_cellbase_rules_over no_cell spec on b) (uncle_and_cellbase_rules spec on b ++ rest) rule
    (λ here. first_failing-append-fails rule (uncle_and_cellbase_rules spec on b) rest
    (family-over-more (has_uncles spec on b) (has_cellbase b) (forms_cellbase no_cell b) (forms_cellbase (live_cell on) b) rule
    (cellbase-over-more (live_cell on) b) here))) is
