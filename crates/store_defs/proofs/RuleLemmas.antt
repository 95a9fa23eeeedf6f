-- What single rules say of a block that breaks none, and of a genesis.
use Rattle.std.proofs.Common.{◌≡◌, ℕ, zero, suc, ◌<◌, ◌^◌, Bool, true, List, [], ◌∷◌, ◌++◌, drop, Some, None, subst, arith}
use Rattle.std.specs.Prelude.{IsTrue, nat_lt, slice_get}
use Rattle.std.specs.List.{All}
use Rattle.std.proofs.lemmas.Bool.{and_parts}
use Rattle.std.proofs.lemmas.Bool.Decides.{Decides-ltb}
use Rattle.std.proofs.lemmas.Option.{same_Some}
use Rattle.std.proofs.lemmas.List.Elements.{All-nil, All-cons, All-head, All-tail, All-drop}
use Rattle.chain_defs.specs.Schema.{Transaction, Block}
use Rattle.chain_defs.specs.First.{first_failing, AllHold}
use Rattle.chain_defs.proofs.FirstLemmas.{finds_none}
use Rattle.chain_defs.specs.Specification.{Specification}
use Rattle.chain_defs.specs.Events.{live_cell}
use Rattle.rule_defs.specs.Site.{Site, site_at}
use Rattle.rule_defs.specs.Capacity.{makes_good_cells, balances, counted_in, fee, fees_from}
use Rattle.chain_defs.specs.Cell.{outputs_hold_their_own}
use Rattle.rule_defs.specs.Uncles.{has_uncles}
use Rattle.rule_defs.specs.Cellbase.{forms_cellbase}
use Rattle.verdict_defs.specs.Transactions.{transaction_rules, left_after, rules_from, rules_of_transactions}
use Rattle.rule_defs.specs.RewardRules.{pays_reward, has_next_dao, end_rules}
use Rattle.verdict_defs.specs.Rules.{all_rules, first_broken}
use Rattle.chain_defs.specs.Dao.{is_rated}
use Rattle.rule_defs.specs.Genesis.{is_first, has_no_uncles_or_proposals, has_transactions, all_hold_capacity, genesis_rules}

-- ---- Rows before and after

pub holds-prefix : (earlier later : List (ℕ × Bool)) → AllHold (earlier ++ later) → AllHold earlier
holds-prefix [] later hold = All-nil (λ rule. IsTrue rule.1)
holds-prefix (rule ∷ rules) later hold =
    All-cons (λ rule. IsTrue rule.1) rule rules (All-head (λ rule. IsTrue rule.1) rule (rules ++ later) hold)
    (holds-prefix rules later (All-tail (λ rule. IsTrue rule.1) rule (rules ++ later) hold))

pub holds-after : (earlier later : List (ℕ × Bool)) → AllHold (earlier ++ later) → AllHold later
holds-after [] later hold = hold
holds-after (rule ∷ rules) later hold = holds-after rules later (All-tail (λ rule. IsTrue rule.1) rule (rules ++ later) hold)

-- ---- A block

all-hold : (spec : Specification) (branch : List Block) (b : Block) → first_broken spec branch b ≡ None → AllHold (all_rules spec branch b)
unfolding first_broken
all-hold spec branch b unbroken = (finds_none (all_rules spec branch b)).0 unbroken

-- J15
pub uncles-unbroken : (spec : Specification) (branch : List Block) (b : Block) → first_broken spec branch b ≡ None → IsTrue (has_uncles spec branch b)
unfolding all_rules
uncles-unbroken spec branch b unbroken =
    All-head (λ rule. IsTrue rule.1) (15, has_uncles spec branch b) (drop 12 (all_rules spec branch b))
    (All-drop (λ rule. IsTrue rule.1) 11 (all_rules spec branch b) (all-hold spec branch b unbroken))

-- J17
pub forms-unbroken : (spec : Specification) (branch : List Block) (b : Block) → first_broken spec branch b ≡ None
    → IsTrue (forms_cellbase (live_cell branch) b)
unfolding all_rules
forms-unbroken spec branch b unbroken =
    All-head (λ rule. IsTrue rule.1) (17, forms_cellbase (live_cell branch) b) (drop 14 (all_rules spec branch b))
    (All-drop (λ rule. IsTrue rule.1) 13 (all_rules spec branch b) (all-hold spec branch b unbroken))

behind-forms : (spec : Specification) (branch : List Block) (b : Block) → first_broken spec branch b ≡ None
    → AllHold (rules_of_transactions spec branch b ++ end_rules spec branch b)
unfolding all_rules
behind-forms spec branch b unbroken = All-drop (λ rule. IsTrue rule.1) 14 (all_rules spec branch b) (all-hold spec branch b unbroken)

-- J31
pub reward-unbroken : (spec : Specification) (branch : List Block) (b : Block) → first_broken spec branch b ≡ None → IsTrue (pays_reward spec branch b)
reward-unbroken spec branch b unbroken =
    All-head (λ rule. IsTrue rule.1) (31, pays_reward spec branch b) ((32, has_next_dao spec branch b) ∷ [])
    (holds-after (rules_of_transactions spec branch b) (end_rules spec branch b) (behind-forms spec branch b unbroken))

-- J32
pub dao-unbroken : (spec : Specification) (branch : List Block) (b : Block) → first_broken spec branch b ≡ None → IsTrue (has_next_dao spec branch b)
dao-unbroken spec branch b unbroken =
    let last : List (ℕ × Bool) = (32, has_next_dao spec branch b) ∷ [] in
    All-head (λ rule. IsTrue rule.1) (32, has_next_dao spec branch b) []
    (All-tail (λ rule. IsTrue rule.1) (31, pays_reward spec branch b) last
    (holds-after (rules_of_transactions spec branch b) (end_rules spec branch b) (behind-forms spec branch b unbroken)))

-- the rules on all its transactions after the first
pub transactions-unbroken : (spec : Specification) (branch : List Block) (b : Block) → first_broken spec branch b ≡ None
    → AllHold (rules_of_transactions spec branch b)
transactions-unbroken spec branch b unbroken =
    holds-prefix (rules_of_transactions spec branch b) (end_rules spec branch b) (behind-forms spec branch b unbroken)

-- ---- A transaction

-- J25, by the rules on it
hold-by-rules : (site : Site) (left : ℕ) (t : Transaction) → AllHold (transaction_rules site left t) → IsTrue (outputs_hold_their_own t)
hold-by-rules site left t hold =
    let good : IsTrue (makes_good_cells site t) =
    All-head (λ rule. IsTrue rule.1) (25, makes_good_cells site t) (drop 8 (transaction_rules site left t))
    (All-drop (λ rule. IsTrue rule.1) 7 (transaction_rules site left t) hold) in
    (and_parts _ _ good).0

-- and by those on several transactions
pub hold-from : (spec : Specification) (branch : List Block) (b : Block) (place left : ℕ) (txs : List Transaction) (i : ℕ) (t : Transaction)
    → AllHold (rules_from spec branch b place left txs) → slice_get txs i ≡ Some t → IsTrue (outputs_hold_their_own t)
unfolding rules_from
hold-from spec branch b place left [] i t hold there = absurd (cc)
hold-from spec branch b place left (first ∷ later) zero t hold there =
    subst (λ (x : Transaction). IsTrue (outputs_hold_their_own x)) (same_Some first t there)
    (hold-by-rules (site_at spec branch b place) left first
    (holds-prefix (transaction_rules (site_at spec branch b place) left first)
    (rules_from spec branch b (suc place) (left_after (site_at spec branch b place) left first) later) hold))
hold-from spec branch b place left (first ∷ later) (suc i) t hold there =
    hold-from spec branch b (suc place) (left_after (site_at spec branch b place) left first) later i t
    (holds-after (transaction_rules (site_at spec branch b place) left first)
    (rules_from spec branch b (suc place) (left_after (site_at spec branch b place) left first) later) hold) there

-- J27: each fee is a number of eight bytes.
balances-by-rules : (site : Site) (left : ℕ) (t : Transaction) → AllHold (transaction_rules site left t) → IsTrue (balances site t)
balances-by-rules site left t hold =
    All-head (λ rule. IsTrue rule.1) (27, balances site t) (drop 10 (transaction_rules site left t))
    (All-drop (λ rule. IsTrue rule.1) 9 (transaction_rules site left t) hold)

fee-fits : (site : Site) (t : Transaction) → IsTrue (balances site t) → fee site t < 2 ^ 64
fee-fits site t balanced =
    let counted : nat_lt (counted_in site t) (2 ^ 64) ≡ true = (and_parts _ _ (and_parts _ _ balanced).0).0 in
    omega (arith, (Decides-ltb (counted_in site t) (2 ^ 64)).0 counted)

pub fees-fit : (spec : Specification) (branch : List Block) (b : Block) (place left : ℕ) (txs : List Transaction)
    → AllHold (rules_from spec branch b place left txs) → All (λ paid. paid < 2 ^ 64) (fees_from spec branch b place txs)
unfolding rules_from fees_from
fees-fit spec branch b place left [] hold = All-nil (λ paid. paid < 2 ^ 64)
fees-fit spec branch b place left (t ∷ later) hold =
    let site : Site = site_at spec branch b place in
    let rest : List (ℕ × Bool) = rules_from spec branch b (suc place) (left_after site left t) later in
    All-cons (λ paid. paid < 2 ^ 64) (fee site t) (fees_from spec branch b (suc place) later)
    (fee-fits site t (balances-by-rules site left t (holds-prefix (transaction_rules site left t) rest hold)))
    (fees-fit spec branch b (suc place) (left_after site left t) later (holds-after (transaction_rules site left t) rest hold))

-- ---- A genesis

genesis-rule : (genesis : Block) → first_failing (genesis_rules genesis) ≡ None → AllHold (genesis_rules genesis)
genesis-rule genesis good = (finds_none (genesis_rules genesis)).0 good

-- G2
pub first-good : (genesis : Block) → first_failing (genesis_rules genesis) ≡ None → IsTrue (is_first genesis)
first-good genesis good = All-head (λ rule. IsTrue rule.1) (2, is_first genesis) (drop 1 (genesis_rules genesis)) (genesis-rule genesis good)

-- G3
pub alone-good : (genesis : Block) → first_failing (genesis_rules genesis) ≡ None → IsTrue (has_no_uncles_or_proposals genesis)
alone-good genesis good =
    All-head (λ rule. IsTrue rule.1) (3, has_no_uncles_or_proposals genesis) (drop 2 (genesis_rules genesis))
    (All-drop (λ rule. IsTrue rule.1) 1 (genesis_rules genesis) (genesis-rule genesis good))

-- G4
pub rated-good : (genesis : Block) → first_failing (genesis_rules genesis) ≡ None → IsTrue (is_rated genesis.header.dao)
rated-good genesis good =
    All-head (λ rule. IsTrue rule.1) (4, is_rated genesis.header.dao) (drop 3 (genesis_rules genesis))
    (All-drop (λ rule. IsTrue rule.1) 2 (genesis_rules genesis) (genesis-rule genesis good))

-- G5
pub distinct-good : (genesis : Block) → first_failing (genesis_rules genesis) ≡ None → IsTrue (has_transactions genesis)
distinct-good genesis good =
    All-head (λ rule. IsTrue rule.1) (5, has_transactions genesis) (drop 4 (genesis_rules genesis))
    (All-drop (λ rule. IsTrue rule.1) 3 (genesis_rules genesis) (genesis-rule genesis good))

-- G7
pub capacity-good : (genesis : Block) → first_failing (genesis_rules genesis) ≡ None → IsTrue (all_hold_capacity genesis)
capacity-good genesis good =
    All-head (λ rule. IsTrue rule.1) (7, all_hold_capacity genesis) []
    (All-drop (λ rule. IsTrue rule.1) 5 (genesis_rules genesis) (genesis-rule genesis good))
