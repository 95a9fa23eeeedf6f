-- The rules on the transactions of a block to which one more is added.
use Rattle.std.proofs.Common.{◌≡◌, ℕ, suc, ◌+◌, ◌<◌, Bool, List, [], ◌∷◌, ◌++◌, length, take, refl, sym, ap, ◌∙◌, arith}
use Rattle.std.specs.Prelude.{IsTrue}
use Rattle.std.proofs.lemmas.List.{append-nil, append_assoc}
use Rattle.std.proofs.lemmas.List.Elements.{All-cons, All-head, All-tail}
use Rattle.chain_defs.specs.Schema.{OutPoint, Transaction, Block}
use Rattle.chain_defs.specs.First.{AllHold}
use Rattle.chain_defs.specs.Specification.{Specification, is_second_at}
use Rattle.chain_defs.specs.Events.{events, events_from, cell_after}
use Rattle.rule_defs.specs.Site.{Site, site_at}
use Rattle.verdict_defs.specs.Transactions.{transaction_rules, left_after, rules_from}
use Rattle.pool_defs.specs.Laws.{left_from}

pub hold-append : (earlier later : List (ℕ × Bool)) → AllHold earlier → AllHold later → AllHold (earlier ++ later)
hold-append [] later before after = after
hold-append (rule ∷ rules) later before after =
    All-cons (λ rule. IsTrue rule.1) rule (rules ++ later) (All-head (λ rule. IsTrue rule.1) rule rules before)
    (hold-append rules later (All-tail (λ rule. IsTrue rule.1) rule rules before) after)

-- where a transaction stands after these of its block
abbrev site_after_these : Specification → List Block → ℕ → List Transaction → Site
site_after_these spec branch timestamp earlier = record {
  spec = spec;
  branch = branch;
  timestamp = timestamp;
  second = is_second_at spec (length branch);
  cell = λ (o : OutPoint). cell_after (events branch ++ events_from 0 earlier (length branch)) o;
}

-- Two blocks have one timestamp, and the same transactions before a place.
pub record AgreeUpTo (end : ℕ) (b other : Block) : Type 0 where
  pub timestamps : b.header.timestamp ≡ other.header.timestamp
  pub before : (place : ℕ) → place < end → take place b.transactions ≡ take place other.transactions

pub site-agrees : (spec : Specification) (branch : List Block) (b other : Block) (place : ℕ) → b.header.timestamp ≡ other.header.timestamp
    → take place b.transactions ≡ take place other.transactions → site_at spec branch b place ≡ site_at spec branch other place
site-agrees spec branch b other place timestamps agree =
    ap (λ (timestamp : ℕ). site_after_these spec branch timestamp (take place b.transactions)) timestamps
    ∙ ap (site_after_these spec branch other.header.timestamp) agree

pub rules-agree : (spec : Specification) (branch : List Block) (b other : Block) (place left : ℕ) (txs : List Transaction)
    → AgreeUpTo (place + length txs) b other → rules_from spec branch b place left txs ≡ rules_from spec branch other place left txs
unfolding rules_from
rules-agree spec branch b other place left [] agree = refl
rules-agree spec branch b other place left (t ∷ later) agree =
    let here : site_at spec branch b place ≡ site_at spec branch other place = site-agrees spec branch b other place agree.timestamps (agree.before place (omega arith)) in
    ap (λ (site : Site). transaction_rules site left t ++ rules_from spec branch b (suc place) (left_after site left t) later) here
    ∙ ap (λ (rest : List (ℕ × Bool)). transaction_rules (site_at spec branch other place) left t ++ rest)
    (rules-agree spec branch b other (suc place) (left_after (site_at spec branch other place) left t) later
    (record { timestamps = agree.timestamps; before = λ p below. agree.before p (omega (arith, below)) }))

pub left-agrees : (spec : Specification) (branch : List Block) (b other : Block) (place left : ℕ) (txs : List Transaction)
    → AgreeUpTo (place + length txs) b other → left_from spec branch b place left txs ≡ left_from spec branch other place left txs
unfolding left_from
left-agrees spec branch b other place left [] agree = refl
left-agrees spec branch b other place left (t ∷ later) agree =
    let here : site_at spec branch b place ≡ site_at spec branch other place = site-agrees spec branch b other place agree.timestamps (agree.before place (omega arith)) in
    ap (λ (site : Site). left_from spec branch b (suc place) (left_after site left t) later) here
    ∙ left-agrees spec branch b other (suc place) (left_after (site_at spec branch other place) left t) later
    (record { timestamps = agree.timestamps; before = λ p below. agree.before p (omega (arith, below)) })

-- one transaction more
pub rules-push : (spec : Specification) (branch : List Block) (b : Block) (place left : ℕ) (txs : List Transaction) (t : Transaction)
    → rules_from spec branch b place left (txs ++ t ∷ [])
    ≡ rules_from spec branch b place left txs ++ transaction_rules (site_at spec branch b (place + length txs)) (left_from spec branch b place left txs) t
unfolding rules_from left_from
rules-push spec branch b place left [] t =
    let here : place ≡ place + 0 = omega arith in
    append-nil (transaction_rules (site_at spec branch b place) left t)
    ∙ ap (λ (p : ℕ). transaction_rules (site_at spec branch b p) left t) here
rules-push spec branch b place left (first ∷ later) t =
    let next : suc place + length later ≡ place + suc (length later) = omega arith in
    let site : Site = site_at spec branch b place in
    ap (λ (rest : List (ℕ × Bool)). transaction_rules site left first ++ rest)
    (rules-push spec branch b (suc place) (left_after site left first) later t
    ∙ ap (λ (p : ℕ). rules_from spec branch b (suc place) (left_after site left first) later
    ++ transaction_rules (site_at spec branch b p) (left_from spec branch b (suc place) (left_after site left first) later) t) next)
    ∙ sym (append_assoc (transaction_rules site left first) (rules_from spec branch b (suc place) (left_after site left first) later) _)

pub left-push : (spec : Specification) (branch : List Block) (b : Block) (place left : ℕ) (txs : List Transaction) (t : Transaction)
    → left_from spec branch b place left (txs ++ t ∷ [])
    ≡ left_after (site_at spec branch b (place + length txs)) (left_from spec branch b place left txs) t
unfolding left_from
left-push spec branch b place left [] t =
    let here : place ≡ place + 0 = omega arith in ap (λ (p : ℕ). left_after (site_at spec branch b p) left t) here
left-push spec branch b place left (first ∷ later) t =
    let next : suc place + length later ≡ place + suc (length later) = omega arith in
    let site : Site = site_at spec branch b place in
    left-push spec branch b (suc place) (left_after site left first) later t
    ∙ ap (λ (p : ℕ). left_after (site_at spec branch b p) (left_from spec branch b (suc place) (left_after site left first) later) t) next
