-- What a block moves of the rewards that are not to be paid yet: it comes with its own shares and with its fees, since each fee that it commits has
-- just one earliest proposer, whose reward is one of these; and the reward that its cellbase is to pay goes.
use Rattle.std.proofs.Common.{◌≡◌, ℕ, zero, suc, ◌+◌, ◌-◌, ◌<◌, ◌≤◌, max, Bool, true, false, cond, List, [], ◌∷◌, ◌++◌, length, take, drop, Option, Some, None, ◌⊎◌, ⊎_elim, refl, sym, ap, ◌∙◌, arith}
use Rattle.std.specs.Prelude.{◌&&◌, ◌==◌, nat_le, IsTrue, is_some, if◌then◌else◌}
use Rattle.std.specs.List.{sum, sum_by, filter, flat_map, list_any, range_with_len}
use Rattle.std.specs.Str.{bytes_eq}
use Rattle.std.proofs.lemmas.Bool.{and_parts, leb-true, eqb-true, cases_lt, cases_eq}
use Rattle.std.proofs.lemmas.Bool.Decides.{nat_tests}
use Rattle.std.proofs.lemmas.List.{take_at, nil_from_length, length_push}
use Rattle.std.proofs.lemmas.List.Elements.{All-head, All-tail}
use Rattle.std.proofs.lemmas.List.Sums.{sum_by-cons, sum-map}
use Rattle.std.proofs.lemmas.Option.{slice_get_past}
use Rattle.chain_defs.specs.Schema.{UncleBlock, Transaction, Block}
use Rattle.chain_defs.specs.First.{AllHold}
use Rattle.chain_defs.specs.Specification.{Specification, keeps_s3}
use Rattle.chain_defs.specs.Dao.{miner_part, field_of_bytes}
use Rattle.chain_defs.specs.Hashes.{proposal_id}
use Rattle.chain_defs.specs.Kept.{block_at}
use Rattle.chain_defs.proofs.KeptLaws.{slice_get-before, slice_get-push}
use Rattle.rule_defs.specs.Genesis.{has_no_uncles_or_proposals}
use Rattle.rule_defs.specs.Site.{site_at}
use Rattle.rule_defs.specs.Window.{proposes, proposes_at, earliest}
use Rattle.rule_defs.specs.Shares.{primary_at, secondary_at}
use Rattle.rule_defs.specs.Capacity.{fee}
use Rattle.rule_defs.specs.Fees.{Paid, paid_from, paid_in, paid_at, proposer_share, committer_share}
use Rattle.rule_defs.specs.Reward.{dao_of, field_at, is_at, is_first_proposed_at, proposer_part, commit_heights, part}
use Rattle.rule_defs.proofs.FeeLaws.{fees-paid}
use Rattle.rule_defs.proofs.PartLaws.{paid-longer, sum-agree}
use Rattle.rule_defs.proofs.WindowLaws.{earliest-is-earliest, earliest-stays}
use Rattle.verdict_defs.specs.Transactions.{is_proposed, transaction_rules, left_after, rules_from}
use Rattle.verdict_defs.specs.Rules.{first_broken}
use Rattle.store_defs.proofs.RuleLemmas.{holds-prefix, holds-after, transactions-unbroken}
use Rattle.supply_defs.specs.Sums.{due, first_unpaid, unpaid}
use Rattle.supply_defs.specs.Step.{last_field, fees_of}
use Rattle.supply_defs.proofs.Ranges.{range-last, sum-same, sum-both, sum-none, filter-none, if_at, at-itself, at-another, range-beside, range-within}

-- the window is not empty, and begins after its block
pub window-parts : (spec : Specification) → IsTrue (keeps_s3 spec.w_close spec.w_far) → (1 ≤ spec.w_close) × (spec.w_close ≤ spec.w_far)
window-parts spec keeps =
    let both = and_parts (nat_le 1 spec.w_close && nat_le spec.w_close spec.w_far) (nat_le spec.w_far 100) keeps in
    let first = and_parts (nat_le 1 spec.w_close) (nat_le spec.w_close spec.w_far) both.0 in
    (leb-true 1 spec.w_close first.0, leb-true spec.w_close spec.w_far first.1)

-- ---- Fees that are spread over their proposers

-- what is shared to one height
abbrev shared_to : (Paid → Option ℕ) → (Paid → ℕ) → List Paid → ℕ → ℕ
shared_to proposer share paids height = sum_by share (filter (λ (paid : Paid). is_at height (proposer paid)) paids)

-- each has a proposer in a range
abbrev EachWithin : (Paid → Option ℕ) → ℕ → ℕ → List Paid → Type 0
EachWithin proposer low count [] = Unit {0}
EachWithin proposer low count (paid ∷ later) =
    ((found : ℕ) × (proposer paid ≡ Some found) × (low ≤ found) × (found < low + count)) × EachWithin proposer low count later

shared-one : (proposer : Paid → Option ℕ) (share : Paid → ℕ) (paid : Paid) (later : List Paid) (found height : ℕ) → proposer paid ≡ Some found
    → shared_to proposer share (paid ∷ later) height ≡ if_at found (share paid) height + shared_to proposer share later height
shared-one proposer share paid later found height is =
    ap (λ (p : Option ℕ). sum_by share (cond (is_at height p) (paid ∷ rest) rest)) is ∙ by_test (found == height)
  where
    rest : List Paid
    rest = filter (λ (paid : Paid). is_at height (proposer paid)) later

    by_test : (b : Bool) → sum_by share (cond b (paid ∷ rest) rest) ≡ cond b (share paid) 0 + sum_by share rest
    by_test true = sum_by-cons share paid rest
    by_test false = omega arith

shares-spread : (proposer : Paid → Option ℕ) (share : Paid → ℕ) (low count : ℕ) (paids : List Paid) → EachWithin proposer low count paids
    → sum_by (shared_to proposer share paids) (range_with_len low count) ≡ sum_by share paids
shares-spread proposer share low count [] each = sum-none (range_with_len low count)
shares-spread proposer share low count (paid ∷ later) each =
    let found : ℕ = each.0.0 in
    let rest = shares-spread proposer share low count later each.1 in
    let split : sum_by (shared_to proposer share (paid ∷ later)) (range_with_len low count)
    ≡ sum_by (if_at found (share paid)) (range_with_len low count) + sum_by (shared_to proposer share later) (range_with_len low count) =
    sum-same (shared_to proposer share (paid ∷ later)) (λ (height : ℕ). if_at found (share paid) height + shared_to proposer share later height) (range_with_len low count)
    (λ height. shared-one proposer share paid later found height each.0.1)
    ∙ sum-both (if_at found (share paid)) (shared_to proposer share later) (range_with_len low count) in
    let one = range-within found (share paid) low count each.0.2 each.0.3 in
    omega (arith, split, one, rest, sum_by-cons share paid later)

-- ---- What a height commits for a proposer

part-past-end : (spec : Specification) (branch : List Block) (proposer committed : ℕ) → length branch ≤ committed → proposer_part spec branch proposer committed ≡ 0
unfolding proposer_part paid_at
part-past-end spec branch proposer committed least =
    ap (λ (b : Option Block). sum_by (λ (paid : Paid). proposer_share paid.fee)
    (filter (is_first_proposed_at spec branch proposer committed) (paid_in spec (take committed branch) b))) (slice_get_past branch committed least)

-- outside of its window a height commits nothing for it
part-outside : (spec : Specification) (branch : List Block) (proposer committed : ℕ) → (proposer + spec.w_close ≤ committed → proposer + spec.w_far < committed)
    → proposer_part spec branch proposer committed ≡ 0
unfolding proposer_part
part-outside spec branch proposer committed outside =
    ap (sum_by (λ (paid : Paid). proposer_share paid.fee))
    (filter-none (is_first_proposed_at spec branch proposer committed) (paid_at spec branch committed)
    (λ paid. not-first paid.id (earliest spec branch paid.id committed) refl))
  where
    not-first : (id : List ℕ) (found : Option ℕ) → earliest spec branch id committed ≡ found → is_at proposer found ≡ false
    not-first id None is = refl
    not-first id (Some found) is = by_test (found == proposer) refl
      where
        by_test : (b : Bool) → (found == proposer) ≡ b → b ≡ false
        by_test false test = refl
        by_test true test =
            let same : found ≡ proposer = eqb-true found proposer test in
            let at = (earliest-is-earliest spec branch id committed found).0 is in
            let close = at.close in
            let far = at.far in
            absurd (omega (arith, same, close, far, outside))

filter-same : {X : Type 0} (one other : X → Bool) (xs : List X) → ((x : X) → one x ≡ other x) → filter one xs ≡ filter other xs
filter-same one other [] same = refl
filter-same one other (x ∷ xs) same =
    ap (λ (b : Bool). cond b (x ∷ filter one xs) (filter one xs)) (same x)
    ∙ ap (λ (rest : List _). cond (other x) (x ∷ rest) rest) (filter-same one other xs same)

part-longer : (spec : Specification) (branch more : List Block) (proposer committed : ℕ) → 1 ≤ spec.w_close → committed < length branch
    → proposer_part spec (branch ++ more) proposer committed ≡ proposer_part spec branch proposer committed
unfolding proposer_part
part-longer spec branch more proposer committed close within =
    ap (λ (paids : List Paid). sum_by (λ (paid : Paid). proposer_share paid.fee) (filter (is_first_proposed_at spec (branch ++ more) proposer committed) paids))
    (paid-longer spec branch more committed within)
    ∙ ap (sum_by (λ (paid : Paid). proposer_share paid.fee))
    (filter-same _ _ (paid_at spec branch committed)
    (λ paid. ap (is_at proposer) (earliest-stays spec branch more paid.id committed close (omega (arith, within)))))

-- ---- What a block is given, with one block more

field-longer : (branch more : List Block) (height : ℕ) → height < length branch → field_at (branch ++ more) height ≡ field_at branch height
field-longer branch more height within = ap (λ (b : Option Block). field_of_bytes (dao_of b)) (slice_get-before branch more height within)

-- of all heights that may commit for it, just the new one comes to it
commits-grow : (spec : Specification) (on : List Block) (b : Block) (height : ℕ) → IsTrue (keeps_s3 spec.w_close spec.w_far)
    → sum_by (proposer_part spec (on ++ b ∷ []) height) (commit_heights spec height)
    ≡ sum_by (proposer_part spec on height) (commit_heights spec height) + proposer_part spec (on ++ b ∷ []) height (length on)
commits-grow spec on b height keeps =
    let split : sum_by (proposer_part spec after height) heights ≡ sum_by (proposer_part spec on height) heights + sum_by (if_at (length on) new) heights =
    sum-same (proposer_part spec after height) (λ (c : ℕ). proposer_part spec on height c + if_at (length on) new c) heights each
    ∙ sum-both (proposer_part spec on height) (if_at (length on) new) heights in
    omega (arith, split, one)
  where
    after : List Block
    after = on ++ b ∷ []

    heights : List ℕ
    heights = commit_heights spec height

    new : ℕ
    new = proposer_part spec after height (length on)

    each : (c : ℕ) → proposer_part spec after height c ≡ proposer_part spec on height c + if_at (length on) new c
    each c = ⊎_elim before (λ least. ⊎_elim (here least) (beyond least) (cases_eq (length on) c)) (cases_lt c (length on))
      where
        before : c < length on → proposer_part spec after height c ≡ proposer_part spec on height c + if_at (length on) new c
        before within =
            let same = part-longer spec on (b ∷ []) height c (window-parts spec keeps).0 within in
            let none = at-another (length on) new c (λ is. omega (arith, is, within)) in
            omega (arith, same, none)

        here : length on ≤ c → length on ≡ c → proposer_part spec after height c ≡ proposer_part spec on height c + if_at (length on) new c
        here least is =
            let none = part-past-end spec on height c least in
            let all : new ≡ proposer_part spec after height c = ap (proposer_part spec after height) is in
            let whole : if_at (length on) new c ≡ new = ap (if_at (length on) new) (sym is) ∙ at-itself (length on) new in
            omega (arith, none, all, whole)

        beyond : length on ≤ c → (length on ≡ c → ⊥) → proposer_part spec after height c ≡ proposer_part spec on height c + if_at (length on) new c
        beyond least differ =
            let long = length_push on b in
            let none = part-past-end spec on height c least in
            let none_after = part-past-end spec after height c (omega (arith, least, differ, long)) in
            let nowhere = at-another (length on) new c differ in
            omega (arith, none, none_after, nowhere)

    outside : (height + spec.w_close ≤ length on → height + spec.w_far < length on) → sum_by (if_at (length on) new) heights ≡ new
    outside out =
        let none = part-outside spec after height (length on) out in
        let order = (window-parts spec keeps).1 in
        let beside = range-beside (length on) new (height + spec.w_close) (spec.w_far + 1 - spec.w_close) (λ least. omega (arith, out, least, order)) in
        omega (arith, none, beside)

    one : sum_by (if_at (length on) new) heights ≡ new
    one = ⊎_elim
        (λ early. outside (λ least. omega (arith, early, least)))
        (λ close. ⊎_elim
        (λ late. outside (λ least. late))
        (λ far. range-within (length on) new (height + spec.w_close) (spec.w_far + 1 - spec.w_close) close (omega (arith, far, close, (window-parts spec keeps).1)))
        (cases_lt (height + spec.w_far) (length on)))
        (cases_lt (length on) (height + spec.w_close))

four : (a b c d e x : ℕ) → e ≡ d + x → a + b + c + e ≡ (a + b + c + d) + x
four a b c d e x is = omega (arith, is)

part-grows : (spec : Specification) (on : List Block) (b : Block) (height : ℕ) → IsTrue (keeps_s3 spec.w_close spec.w_far) → 1 ≤ height → height < length on
    → part spec (on ++ b ∷ []) height ≡ part spec on height + proposer_part spec (on ++ b ∷ []) height (length on)
unfolding part
part-grows spec on b height keeps some within =
    (λ i. primary_at spec height
    + miner_part (field-longer on (b ∷ []) (height - 1) (omega (arith, some, within)) i) (secondary_at spec height)
    + sum_by (λ (paid : Paid). committer_share paid.fee) (paid-longer spec on (b ∷ []) height within i)
    + sum_by (proposer_part spec (on ++ b ∷ []) height) (commit_heights spec height))
    ∙ four _ _ _ _ _ _ (commits-grow spec on b height keeps)

-- ---- What the new block is given

paid-last : (spec : Specification) (on : List Block) (b : Block) → paid_at spec (on ++ b ∷ []) (length on) ≡ paid_in spec on (Some b)
unfolding paid_at
paid-last spec on b = (λ i. paid_in spec (take_at on (b ∷ []) (length on) refl i) (slice_get-push on b i))

none-yet : (spec : Specification) (on : List Block) (b : Block) (proposer low count : ℕ) → length on < low
    → sum_by (proposer_part spec (on ++ b ∷ []) proposer) (range_with_len low count) ≡ 0
none-yet spec on b proposer low zero beyond = refl
none-yet spec on b proposer low (suc count) beyond =
    let rest = none-yet spec on b proposer (low + 1) count (omega (arith, beyond)) in
    let long = length_push on b in
    let here = part-past-end spec (on ++ b ∷ []) proposer low (omega (arith, beyond, long)) in
    omega (arith, rest, here, sum_by-cons (proposer_part spec (on ++ b ∷ []) proposer) low (range_with_len (low + 1) count))

no-fourth : (a b c d : ℕ) → d ≡ 0 → a + b + c + d ≡ a + b + c
no-fourth a b c d is = omega (arith, is)

own-part : (spec : Specification) (on : List Block) (b : Block) → IsTrue (keeps_s3 spec.w_close spec.w_far) → 0 < length on
    → part spec (on ++ b ∷ []) (length on) ≡ primary_at spec (length on) + miner_part (last_field on) (secondary_at spec (length on))
    + sum_by (λ (paid : Paid). committer_share paid.fee) (paid_in spec on (Some b))
unfolding part
own-part spec on b keeps above =
    (λ i. primary_at spec (length on)
    + miner_part (field-longer on (b ∷ []) (length on - 1) (omega (arith, above)) i) (secondary_at spec (length on))
    + sum_by (λ (paid : Paid). committer_share paid.fee) (paid-last spec on b i)
    + sum_by (proposer_part spec (on ++ b ∷ []) (length on)) (commit_heights spec (length on)))
    ∙ no-fourth _ _ _ _ (none-yet spec on b (length on) (length on + spec.w_close) (spec.w_far + 1 - spec.w_close) (omega (arith, (window-parts spec keeps).0)))

-- ---- Its fees

shares-whole : (paid : ℕ) → paid ≡ committer_share paid + proposer_share paid
shares-whole paid = omega arith

pub fees-shared : (spec : Specification) (on : List Block) (b : Block)
    → fees_of spec on b ≡ sum_by (λ (paid : Paid). committer_share paid.fee) (paid_in spec on (Some b))
    + sum_by (λ (paid : Paid). proposer_share paid.fee) (paid_in spec on (Some b))
fees-shared spec on b =
    ap sum (sym (fees-paid spec on b 1 (drop 1 b.transactions)))
    ∙ sum-map (λ (paid : Paid). paid.fee) (paid_in spec on (Some b))
    ∙ sum-same (λ (paid : Paid). paid.fee) (λ (paid : Paid). committer_share paid.fee + proposer_share paid.fee) (paid_in spec on (Some b)) (λ paid. shares-whole paid.fee)
    ∙ sum-both (λ (paid : Paid). committer_share paid.fee) (λ (paid : Paid). proposer_share paid.fee) (paid_in spec on (Some b))

-- ---- Their proposers

-- G3: the genesis proposes nothing.
abbrev pub ProposesNothing : List Block → Type 0
ProposesNothing on = (id : List ℕ) → proposes_at on id 0 ≡ false

pub genesis-proposes-nothing : (on : List Block) (genesis : Block) → block_at on 0 ≡ Some genesis → IsTrue (has_no_uncles_or_proposals genesis) → ProposesNothing on
unfolding proposes_at
genesis-proposes-nothing on genesis first none id =
    let both = and_parts (length genesis.uncles == 0) (length genesis.proposals == 0) none in
    let uncles : genesis.uncles ≡ [] = nil_from_length genesis.uncles (eqb-true (length genesis.uncles) 0 both.0) in
    let own : genesis.proposals ≡ [] = nil_from_length genesis.proposals (eqb-true (length genesis.proposals) 0 both.1) in
    ap (proposes id) first
    ∙ ap (λ (ids : List (List ℕ)). list_any (λ other. bytes_eq other id) (ids ++ flat_map (λ (uncle : UncleBlock). uncle.proposals) genesis.uncles)) own
    ∙ ap (λ (us : List UncleBlock). list_any (λ other. bytes_eq other id) (flat_map (λ (uncle : UncleBlock). uncle.proposals) us)) uncles

-- The earliest proposer of an id that is committed is a block whose reward is not to be paid yet.
abbrev HasProposer : Specification → List Block → Block → ℕ → ℕ → List ℕ → Type 0
HasProposer spec on b low count id =
    (found : ℕ) × (earliest spec (on ++ b ∷ []) id (length on) ≡ Some found) × (low ≤ found) × (found < low + count)

has-proposer : (spec : Specification) (on : List Block) (b : Block) (low count : ℕ) (id : List ℕ) → IsTrue (keeps_s3 spec.w_close spec.w_far)
    → ProposesNothing on → low ≡ max 1 (length on - spec.w_far) → low + count ≡ length on → IsTrue (is_some (earliest spec on id (length on)))
    → HasProposer spec on b low count id
has-proposer spec on b low count id keeps nothing from to there = by_found (earliest spec on id (length on)) refl there
  where
    close : 1 ≤ spec.w_close
    close = (window-parts spec keeps).0

    by_found : (found : Option ℕ) → earliest spec on id (length on) ≡ found → IsTrue (is_some found) → HasProposer spec on b low count id
    by_found None is some = absurd (cc)
    by_found (Some found) is some =
        let at = (earliest-is-earliest spec on id (length on) found).0 is in
        let near = at.close in
        let far = at.far in
        let proposed = at.proposed in
        let later : found ≡ 0 → ⊥ = (λ (first : found ≡ 0).
        let never : proposes_at on id found ≡ false = ap (proposes_at on id) first ∙ nothing id in absurd (cc)) in (
          found,
          earliest-stays spec on (b ∷ []) id (length on) close (omega arith) ∙ is,
          omega (arith, from, far, later),
          omega (arith, to, near, close),
        )

-- J19 asks it of each transaction after the cellbase.
each-has-proposer : (spec : Specification) (on : List Block) (b : Block) (low count : ℕ)
    → ((id : List ℕ) → IsTrue (is_some (earliest spec on id (length on))) → HasProposer spec on b low count id)
    → (place left : ℕ) (txs : List Transaction) → AllHold (rules_from spec on b place left txs)
    → EachWithin (λ (paid : Paid). earliest spec (on ++ b ∷ []) paid.id (length on)) low count (paid_from spec on b place txs)
unfolding rules_from paid_from
each-has-proposer spec on b low count has place left [] hold = tt
each-has-proposer spec on b low count has place left (t ∷ later) hold = (
  has (proposal_id t) (All-head (λ rule. IsTrue rule.1) (19, is_proposed spec on t) (drop 2 (transaction_rules (site_at spec on b place) left t))
      (All-tail (λ rule. IsTrue rule.1) (18, _) (drop 1 (transaction_rules (site_at spec on b place) left t))
      (holds-prefix (transaction_rules (site_at spec on b place) left t) (rules_from spec on b (suc place) (left_after (site_at spec on b place) left t) later) hold))),
  each-has-proposer spec on b low count has (suc place) (left_after (site_at spec on b place) left t) later
      (holds-after (transaction_rules (site_at spec on b place) left t) (rules_from spec on b (suc place) (left_after (site_at spec on b place) left t) later) hold),
)

-- So the proposers' shares of its fees are spread over the rewards that are not to be paid yet.
fees-spread : (spec : Specification) (on : List Block) (b : Block) (low count : ℕ) → IsTrue (keeps_s3 spec.w_close spec.w_far) → ProposesNothing on
    → low ≡ max 1 (length on - spec.w_far) → low + count ≡ length on → first_broken spec on b ≡ None
    → sum_by (λ (height : ℕ). proposer_part spec (on ++ b ∷ []) height (length on)) (range_with_len low count)
    ≡ sum_by (λ (paid : Paid). proposer_share paid.fee) (paid_in spec on (Some b))
unfolding proposer_part
fees-spread spec on b low count keeps nothing from to unbroken =
    ap (λ (paids : List Paid). sum_by (shared_to proposer (λ (paid : Paid). proposer_share paid.fee) paids) (range_with_len low count)) (paid-last spec on b)
    ∙ shares-spread proposer (λ (paid : Paid). proposer_share paid.fee) low count (paid_in spec on (Some b))
    (each-has-proposer spec on b low count (λ id there. has-proposer spec on b low count id keeps nothing from to there) 1 spec.max_cycles (drop 1 b.transactions)
    (transactions-unbroken spec on b unbroken))
  where
    proposer : Paid → Option ℕ
    proposer = λ paid. earliest spec (on ++ b ∷ []) paid.id (length on)

-- ---- All of them

-- the rewards from a height on, with one block more
parts-grow : (spec : Specification) (on : List Block) (b : Block) → IsTrue (keeps_s3 spec.w_close spec.w_far) → (low count : ℕ) → 1 ≤ low
    → low + count ≤ length on
    → sum_by (part spec (on ++ b ∷ [])) (range_with_len low count)
    ≡ sum_by (part spec on) (range_with_len low count)
    + sum_by (λ (height : ℕ). proposer_part spec (on ++ b ∷ []) height (length on)) (range_with_len low count)
parts-grow spec on b keeps low count some within =
    sum-agree (part spec (on ++ b ∷ [])) (λ (height : ℕ). part spec on height + proposer_part spec (on ++ b ∷ []) height (length on)) low count
    (λ height least below. part-grows spec on b height keeps (omega (arith, some, least)) (omega (arith, within, below)))
    ∙ sum-both (part spec on) (λ (height : ℕ). proposer_part spec (on ++ b ∷ []) height (length on)) (range_with_len low count)

-- the one that the next cellbase is to pay, and those after it
due-first : (spec : Specification) (on : List Block) (low count : ℕ) → low ≡ max 1 (length on - spec.w_far) → low + count ≡ length on → 0 < length on
    → unpaid spec on ≡ due spec on + sum_by (part spec on) (range_with_len low count)
unfolding unpaid due
due-first spec on low count from to above = ⊎_elim late early (cases_lt (spec.w_far + 1) (length on))
  where
    first : ℕ
    first = first_unpaid spec on

    early : length on ≤ spec.w_far + 1 → sum_by (part spec on) (range_with_len first (length on - first))
        ≡ (if nat_le (length on) (spec.w_far + 1) then 0 else part spec on (length on - (spec.w_far + 1))) + sum_by (part spec on) (range_with_len low count)
    early least =
        let test : nat_le (length on) (spec.w_far + 1) ≡ true = grind (arith, nat_tests, least) in
        let same : first ≡ low = omega (arith, from, least) in
        let many : length on - first ≡ count = omega (arith, same, to) in
        let none : 0 + sum_by (part spec on) (range_with_len low count) ≡ sum_by (part spec on) (range_with_len low count) = omega arith in
        rw test ((λ i. sum_by (part spec on) (range_with_len (same i) (many i))) ∙ sym none)

    late : spec.w_far + 1 < length on → sum_by (part spec on) (range_with_len first (length on - first))
        ≡ (if nat_le (length on) (spec.w_far + 1) then 0 else part spec on (length on - (spec.w_far + 1))) + sum_by (part spec on) (range_with_len low count)
    late more =
        let test : nat_le (length on) (spec.w_far + 1) ≡ false = grind (arith, nat_tests, more) in
        let same : first ≡ length on - (spec.w_far + 1) = omega (arith, more) in
        let next : (length on - (spec.w_far + 1)) + 1 ≡ low = omega (arith, from, more) in
        let many : length on - first ≡ suc count = omega (arith, same, next, to, more) in
        rw test ((λ i. sum_by (part spec on) (range_with_len (same i) (many i)))
        ∙ sum_by-cons (part spec on) (length on - (spec.w_far + 1)) (range_with_len ((length on - (spec.w_far + 1)) + 1) count)
        ∙ ap (λ (n : ℕ). part spec on (length on - (spec.w_far + 1)) + sum_by (part spec on) (range_with_len n count)) next)

-- those of the branch with the block are these and the block's own
own-last : (spec : Specification) (on : List Block) (b : Block) (low count : ℕ) → low ≡ max 1 (length on - spec.w_far) → low + count ≡ length on → 0 < length on
    → unpaid spec (on ++ b ∷ []) ≡ sum_by (part spec (on ++ b ∷ [])) (range_with_len low count) + part spec (on ++ b ∷ []) (length on)
unfolding unpaid
own-last spec on b low count from to above =
    let long = length_push on b in
    let same : first_unpaid spec (on ++ b ∷ []) ≡ low = omega (arith, from, long) in
    let many : length (on ++ b ∷ []) - first_unpaid spec (on ++ b ∷ []) ≡ count + 1 = omega (arith, same, to, long) in
    (λ i. sum_by (part spec (on ++ b ∷ [])) (range_with_len (same i) (many i)))
    ∙ range-last (part spec (on ++ b ∷ [])) low count
    ∙ ap (λ (height : ℕ). sum_by (part spec (on ++ b ∷ [])) (range_with_len low count) + part spec (on ++ b ∷ []) height) to

pub unpaid-moves : (spec : Specification) (on : List Block) (b : Block) → IsTrue (keeps_s3 spec.w_close spec.w_far) → ProposesNothing on → 0 < length on
    → first_broken spec on b ≡ None
    → unpaid spec (on ++ b ∷ []) + due spec on
    ≡ unpaid spec on + (primary_at spec (length on) + miner_part (last_field on) (secondary_at spec (length on)) + fees_of spec on b)
unpaid-moves spec on b keeps nothing above unbroken =
    let before = due-first spec on low count refl to above in
    let after = own-last spec on b low count refl to above in
    let grown = parts-grow spec on b keeps low count (omega arith) (omega (arith, to)) in
    let spread = fees-spread spec on b low count keeps nothing refl to unbroken in
    let own = own-part spec on b keeps above in
    let fees = fees-shared spec on b in
    omega (arith, before, after, grown, spread, own, fees)
  where
    low : ℕ
    low = max 1 (length on - spec.w_far)

    count : ℕ
    count = length on - low

    to : low + count ≡ length on
    to = omega (arith, above)
