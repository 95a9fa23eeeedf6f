-- What a block's transactions from a place on have in its ext and among its rules, one transaction at a time.
use Rattle.std.proofs.Common.{◌≡◌, ℕ, suc, ◌+◌, ◌≤◌, List, [], ◌∷◌, ◌++◌, length, drop, Some, None, sym, ap, ◌∙◌, arith}
use Rattle.std.specs.Prelude.{slice_get}
use Rattle.std.proofs.lemmas.List.{append-nil, append_assoc, drop_all}
use Rattle.std.proofs.lemmas.Option.{slice_get_within, get_or_from_slice_get}
use Rattle.std.proofs.Math.Seq.{drop-cons}
use Rattle.chain_defs.specs.Schema.{OutPoint, Transaction, Block}
use Rattle.chain_defs.specs.Specification.{Specification}
use Rattle.chain_defs.specs.Branch.{branch}
use Rattle.chain_defs.specs.First.{first_failing}
use Rattle.chain_defs.proofs.FirstLemmas.{first_failing-none, first_failing-append-holds, first_failing-append-fails, finds_none}
use Rattle.chain_defs.specs.Row.{Row}
use Rattle.rule_defs.specs.Capacity.{fee, fees_from}
use Rattle.verdict_defs.specs.Transactions.{transaction_rules, left_after, rules_from}
use Rattle.rule_defs.specs.Site.{site_at}
use Rattle.verdict_defs.specs.Ext.{rows_spent, spent_from}

-- the transaction at a place, and those after it
pub rest-next : (transactions : List Transaction) (place : ℕ) (t : Transaction) → slice_get transactions place ≡ Some t
    → drop place transactions ≡ t ∷ drop (place + 1) transactions
rest-next transactions place t there =
    let next : suc place ≡ place + 1 = omega arith in
    drop-cons transactions place t (slice_get_within transactions place t there)
    ∙ ap (λ (first : Transaction). first ∷ drop (suc place) transactions) (get_or_from_slice_get transactions place t t there)
    ∙ ap (λ (n : ℕ). t ∷ drop n transactions) next

-- ---- The fees

pub fees-more : (spec : Specification) (on : List Block) (b : Block) (place : ℕ) (t : Transaction) (all old new : List ℕ) → slice_get b.transactions place ≡ Some t
    → all ≡ old ++ fees_from spec on b place (drop place b.transactions) → new ≡ old ++ fee (site_at spec on b place) t ∷ []
    → all ≡ new ++ fees_from spec on b (place + 1) (drop (place + 1) b.transactions)
unfolding fees_from
fees-more spec on b place t all old new there so_far one =
    let next : suc place ≡ place + 1 = omega arith in
    let later : List ℕ = fees_from spec on b (place + 1) (drop (place + 1) b.transactions) in
    so_far
    ∙ ap (λ (these : List Transaction). old ++ fees_from spec on b place these) (rest-next b.transactions place t there)
    ∙ ap (λ (n : ℕ). old ++ fee (site_at spec on b place) t ∷ fees_from spec on b n (drop (place + 1) b.transactions)) next
    ∙ sym (append_assoc old (fee (site_at spec on b place) t ∷ []) later)
    ∙ ap (λ (front : List ℕ). front ++ later) (sym one)

pub fees-all : (spec : Specification) (on : List Block) (b : Block) (place : ℕ) (all old : List ℕ) → length b.transactions ≤ place
    → all ≡ old ++ fees_from spec on b place (drop place b.transactions) → old ≡ all
unfolding fees_from
fees-all spec on b place all old past so_far =
    sym (so_far ∙ ap (λ (these : List Transaction). old ++ fees_from spec on b place these) (drop_all place b.transactions past) ∙ append-nil old)

-- ---- The rows that are spent

pub spent-more : (spec : Specification) (kept : List Block) (parent : ℕ) (b : Block) (place : ℕ) (t : Transaction) (all old new : List (OutPoint × Row))
    → slice_get b.transactions place ≡ Some t → all ≡ old ++ spent_from spec kept parent b place (drop place b.transactions)
    → new ≡ old ++ rows_spent kept parent (site_at spec (branch kept parent) b place) t
    → all ≡ new ++ spent_from spec kept parent b (place + 1) (drop (place + 1) b.transactions)
unfolding spent_from
spent-more spec kept parent b place t all old new there so_far one =
    let next : suc place ≡ place + 1 = omega arith in
    let rows : List (OutPoint × Row) = rows_spent kept parent (site_at spec (branch kept parent) b place) t in
    let later : List (OutPoint × Row) = spent_from spec kept parent b (place + 1) (drop (place + 1) b.transactions) in
    so_far
    ∙ ap (λ (these : List Transaction). old ++ spent_from spec kept parent b place these) (rest-next b.transactions place t there)
    ∙ ap (λ (n : ℕ). old ++ (rows ++ spent_from spec kept parent b n (drop (place + 1) b.transactions))) next
    ∙ sym (append_assoc old rows later)
    ∙ ap (λ (front : List (OutPoint × Row)). front ++ later) (sym one)

pub spent-all : (spec : Specification) (kept : List Block) (parent : ℕ) (b : Block) (place : ℕ) (all old : List (OutPoint × Row)) → length b.transactions ≤ place
    → all ≡ old ++ spent_from spec kept parent b place (drop place b.transactions) → old ≡ all
unfolding spent_from
spent-all spec kept parent b place all old past so_far =
    sym (so_far ∙ ap (λ (these : List Transaction). old ++ spent_from spec kept parent b place these) (drop_all place b.transactions past) ∙ append-nil old)

-- ---- The rules

rules-next : (spec : Specification) (on : List Block) (b : Block) (place left : ℕ) (t : Transaction) → slice_get b.transactions place ≡ Some t
    → rules_from spec on b place left (drop place b.transactions)
    ≡ transaction_rules (site_at spec on b place) left t
    ++ rules_from spec on b (place + 1) (left_after (site_at spec on b place) left t) (drop (place + 1) b.transactions)
unfolding rules_from
rules-next spec on b place left t there =
    let next : suc place ≡ place + 1 = omega arith in
    ap (rules_from spec on b place left) (rest-next b.transactions place t there)
    ∙ ap (λ (n : ℕ). transaction_rules (site_at spec on b place) left t
    ++ rules_from spec on b n (left_after (site_at spec on b place) left t) (drop (place + 1) b.transactions)) next

-- One that keeps its rules leaves those of the transactions after it.
pub rules-more : (spec : Specification) (on : List Block) (b : Block) (place left : ℕ) (t : Transaction) → slice_get b.transactions place ≡ Some t
    → first_failing (transaction_rules (site_at spec on b place) left t) ≡ None
    → first_failing (rules_from spec on b place left (drop place b.transactions))
    ≡ first_failing (rules_from spec on b (place + 1) (left_after (site_at spec on b place) left t) (drop (place + 1) b.transactions))
rules-more spec on b place left t there kept =
    let own = transaction_rules (site_at spec on b place) left t in
    let later = rules_from spec on b (place + 1) (left_after (site_at spec on b place) left t) (drop (place + 1) b.transactions) in
    ap first_failing (rules-next spec on b place left t there) ∙ first_failing-append-holds own later ((finds_none own).0 kept)

-- The first that one breaks is the first of all that are left.
pub rules-broken : (spec : Specification) (on : List Block) (b : Block) (place left : ℕ) (t : Transaction) (rule : ℕ) → slice_get b.transactions place ≡ Some t
    → first_failing (transaction_rules (site_at spec on b place) left t) ≡ Some rule
    → first_failing (rules_from spec on b place left (drop place b.transactions)) ≡ Some rule
rules-broken spec on b place left t rule there broken =
    let own = transaction_rules (site_at spec on b place) left t in
    let later = rules_from spec on b (place + 1) (left_after (site_at spec on b place) left t) (drop (place + 1) b.transactions) in
    ap first_failing (rules-next spec on b place left t there) ∙ first_failing-append-fails rule own later broken

-- After the last one none is left.
pub rules-end : (spec : Specification) (on : List Block) (b : Block) (place left : ℕ) → length b.transactions ≤ place
    → first_failing (rules_from spec on b place left (drop place b.transactions)) ≡ None
unfolding rules_from
rules-end spec on b place left past =
    ap (λ (these : List Transaction). first_failing (rules_from spec on b place left these)) (drop_all place b.transactions past) ∙ first_failing-none
