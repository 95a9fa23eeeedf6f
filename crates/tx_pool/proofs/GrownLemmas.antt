-- What the transactions of a block move, and the rows after them, where one more stands at their end.
use Rattle.std.proofs.Common.{◌≡◌, ℕ, suc, ◌+◌, ◌<◌, ℤ, pos, ◌+ℤ◌, Bool, true, false, ◌||◌, List, [], ◌∷◌, ◌++◌, length, map, drop, Option, refl, sym, ap, ◌∙◌, arith}
use Rattle.std.specs.List.{AllByRecursion}
use Rattle.std.specs.Str.{bytes_eq}
use Rattle.std.proofs.lemmas.Int.{ints}
use Rattle.std.proofs.lemmas.List.{append-nil, append_assoc, map-append, take-append-le}
use Rattle.std.proofs.lemmas.List.Folds.{list_any-append}
use Rattle.chain_defs.specs.Schema.{OutPoint, Transaction, Block}
use Rattle.chain_defs.specs.Specification.{Specification}
use Rattle.chain_defs.specs.Branch.{branch}
use Rattle.chain_defs.specs.Hashes.{transaction_hash}
use Rattle.chain_tree.specs.Told.{Stored, blocks_of}
use Rattle.chain_tree.proofs.BlockLemmas.{len-same}
use Rattle.chain_defs.specs.Events.{Event, events_of, events_from}
use Rattle.chain_defs.specs.Row.{Row, row_after}
use Rattle.rule_defs.specs.Site.{Site, site_at}
use Rattle.rule_defs.specs.Capacity.{interest}
use Rattle.rule_defs.specs.Field.{freed_by, freed_from, interest_from}
use Rattle.block_judge.specs.Appending.{SoFarValue, SeesSoFar}
use Rattle.block_judge.specs.Progress.{AreMoved}
use Rattle.block_judge.specs.Standing.{ContextValue, ContextStandsFor}
use Rattle.block_judge.proofs.ChangeLemmas.{row_after-nil, row_after-append, row_after-same}
use Rattle.block_judge.proofs.SiteLemmas.{branch-some}
use Rattle.pool_defs.specs.Assembly.{with_transaction, with_proposal, next_site}
use Rattle.pool_defs.proofs.RulesLemmas.{AgreeUpTo, site-agrees}
use Rattle.tx_pool.specs.Draft.{has}

-- ---- Lists

pub each-push : {T : Type 0} (P : T → Type 0) (values : List T) (value : T) → AllByRecursion P values → P value → AllByRecursion P (values ++ value ∷ [])
each-push P [] value each one = (one, tt)
each-push P (first ∷ later) value each one = (each.0, each-push P later value each.1 one)

or-none : (one other : Bool) → (one || (other || false)) ≡ (one || other)
or-none true other = refl
or-none false true = refl
or-none false false = refl

pub has-push : (values : List (List ℕ)) (value other : List ℕ) → has (values ++ value ∷ []) other ≡ (has values other || bytes_eq value other)
has-push values value other =
    list_any-append (λ it. bytes_eq it other) values (value ∷ []) ∙ or-none (has values other) (bytes_eq value other)

pub has-hash-push : (transactions : List Transaction) (t : Transaction) (hash : List ℕ)
    → has (map transaction_hash (transactions ++ t ∷ [])) hash ≡ (has (map transaction_hash transactions) hash || bytes_eq (transaction_hash t) hash)
has-hash-push transactions t hash =
    ap (λ (hashes : List (List ℕ)). has hashes hash) (map-append transaction_hash transactions (t ∷ []))
    ∙ has-push (map transaction_hash transactions) (transaction_hash t) hash

drop-push : (txs : List Transaction) (t : Transaction) → 0 < length txs → drop 1 (txs ++ t ∷ []) ≡ drop 1 txs ++ t ∷ []
drop-push [] t some = absurd (omega (arith, some))
drop-push (first ∷ later) t some = refl

after-first : (txs : List Transaction) → 0 < length txs → 1 + length (drop 1 txs) ≡ length txs
after-first [] some = absurd (omega (arith, some))
after-first (first ∷ later) some = omega arith

-- ---- What transactions move

interest-agrees : (spec : Specification) (branch : List Block) (b other : Block) (place : ℕ) (txs : List Transaction)
    → AgreeUpTo (place + length txs) b other → interest_from spec branch b place txs ≡ interest_from spec branch other place txs
unfolding interest_from
interest-agrees spec branch b other place [] agree = refl
interest-agrees spec branch b other place (t ∷ later) agree =
    let here : site_at spec branch b place ≡ site_at spec branch other place = site-agrees spec branch b other place agree.timestamps (agree.before place (omega arith)) in
    ap (λ (site : Site). interest site t +ℤ interest_from spec branch b (suc place) later) here
    ∙ ap (λ (rest : ℤ). interest (site_at spec branch other place) t +ℤ rest)
    (interest-agrees spec branch b other (suc place) later (record { timestamps = agree.timestamps; before = λ p below. agree.before p (omega (arith, below)) }))

freed-agrees : (spec : Specification) (branch : List Block) (b other : Block) (place : ℕ) (txs : List Transaction)
    → AgreeUpTo (place + length txs) b other → freed_from spec branch b place txs ≡ freed_from spec branch other place txs
unfolding freed_from
freed-agrees spec branch b other place [] agree = refl
freed-agrees spec branch b other place (t ∷ later) agree =
    let here : site_at spec branch b place ≡ site_at spec branch other place = site-agrees spec branch b other place agree.timestamps (agree.before place (omega arith)) in
    ap (λ (site : Site). freed_by site t + freed_from spec branch b (suc place) later) here
    ∙ ap (λ (rest : ℕ). freed_by (site_at spec branch other place) t + rest)
    (freed-agrees spec branch b other (suc place) later (record { timestamps = agree.timestamps; before = λ p below. agree.before p (omega (arith, below)) }))

at-end : (one : ℤ) → one +ℤ pos 0 ≡ pos 0 +ℤ one
at-end one = omega (arith, ints)

one-on : (first whole rest last : ℤ) → whole ≡ rest +ℤ last → first +ℤ whole ≡ (first +ℤ rest) +ℤ last
one-on first whole rest last is = omega (arith, ints, is)

interest-push : (spec : Specification) (branch : List Block) (b : Block) (place : ℕ) (txs : List Transaction) (t : Transaction)
    → interest_from spec branch b place (txs ++ t ∷ []) ≡ interest_from spec branch b place txs +ℤ interest (site_at spec branch b (place + length txs)) t
unfolding interest_from
interest-push spec branch b place [] t =
    let here : place ≡ place + 0 = omega arith in
    ap (λ (p : ℕ). interest (site_at spec branch b p) t +ℤ pos 0) here ∙ at-end (interest (site_at spec branch b (place + 0)) t)
interest-push spec branch b place (first ∷ later) t =
    let next : suc place + length later ≡ place + suc (length later) = omega arith in
    one-on (interest (site_at spec branch b place) first) (interest_from spec branch b (suc place) (later ++ t ∷ [])) (interest_from spec branch b (suc place) later)
    (interest (site_at spec branch b (place + suc (length later))) t)
    (interest-push spec branch b (suc place) later t
    ∙ ap (λ (p : ℕ). interest_from spec branch b (suc place) later +ℤ interest (site_at spec branch b p) t) next)

freed-push : (spec : Specification) (branch : List Block) (b : Block) (place : ℕ) (txs : List Transaction) (t : Transaction)
    → freed_from spec branch b place (txs ++ t ∷ []) ≡ freed_from spec branch b place txs + freed_by (site_at spec branch b (place + length txs)) t
unfolding freed_from
freed-push spec branch b place [] t =
    let here : place ≡ place + 0 = omega arith in
    ap (λ (p : ℕ). freed_by (site_at spec branch b p) t + 0) here ∙ omega arith
freed-push spec branch b place (first ∷ later) t =
    let next : suc place + length later ≡ place + suc (length later) = omega arith in
    let rest = freed-push spec branch b (suc place) later t
    ∙ ap (λ (p : ℕ). freed_from spec branch b (suc place) later + freed_by (site_at spec branch b p) t) next in
    omega (arith, rest)

-- a transaction more at the end
module _ (spec : Specification) (on : List Block) (b : Block) (t : Transaction) (some : 0 < length b.transactions) where
  abbrev other : Block
  other = with_transaction b t

  abbrev rest : List Transaction
  rest = drop 1 b.transactions

  agree : AgreeUpTo (1 + length rest) b other
  agree = record {
    timestamps = refl;
    before = λ place below. sym (take-append-le place b.transactions (t ∷ []) (omega (arith, below, after-first b.transactions some)));
  }

  site : site_at spec on other (1 + length rest) ≡ next_site spec on b
  site =
      ap (site_at spec on other) (after-first b.transactions some)
      ∙ site-agrees spec on other b (length b.transactions) refl (take-append-le (length b.transactions) b.transactions (t ∷ []) (omega arith))

  interest-grown : interest_from spec on other 1 (drop 1 other.transactions) ≡ interest_from spec on b 1 rest +ℤ interest (next_site spec on b) t
  interest-grown =
      ap (interest_from spec on other 1) (drop-push b.transactions t some)
      ∙ interest-push spec on other 1 rest t
      ∙ ap (λ (z : ℤ). z +ℤ interest (site_at spec on other (1 + length rest)) t) (sym (interest-agrees spec on b other 1 rest agree))
      ∙ ap (λ (s : Site). interest_from spec on b 1 rest +ℤ interest s t) site

  freed-grown : freed_from spec on other 1 (drop 1 other.transactions) ≡ freed_from spec on b 1 rest + freed_by (next_site spec on b) t
  freed-grown =
      ap (freed_from spec on other 1) (drop-push b.transactions t some)
      ∙ freed-push spec on other 1 rest t
      ∙ ap (λ (n : ℕ). n + freed_by (site_at spec on other (1 + length rest)) t) (sym (freed-agrees spec on b other 1 rest agree))
      ∙ ap (λ (s : Site). freed_from spec on b 1 rest + freed_by s t) site

  pub moved-push : (old new : ℤ) (freed more : ℕ) → AreMoved spec on b old freed → new ≡ old +ℤ interest (next_site spec on b) t
      → more ≡ freed + freed_by (next_site spec on b) t → AreMoved spec on other new more
  moved-push old new freed more moved withdraws frees = record {
    interest_is = withdraws ∙ ap (λ (z : ℤ). z +ℤ interest (next_site spec on b) t) moved.interest_is ∙ sym interest-grown;
    freed_is = frees ∙ ap (λ (n : ℕ). n + freed_by (next_site spec on b) t) moved.freed_is ∙ sym freed-grown;
  }

-- a proposal id more
pub moved-same : (spec : Specification) (on : List Block) (b : Block) (id : List ℕ) (moves : ℤ) (frees : ℕ) → AreMoved spec on b moves frees
    → AreMoved spec on (with_proposal b id) moves frees
moved-same spec on b id moves frees moved = record {
  interest_is = moved.interest_is ∙ interest-agrees spec on b (with_proposal b id) 1 (drop 1 b.transactions) (record { timestamps = refl; before = λ place below. refl });
  freed_is = moved.freed_is ∙ freed-agrees spec on b (with_proposal b id) 1 (drop 1 b.transactions) (record { timestamps = refl; before = λ place below. refl });
}

-- a cellbase alone moves nothing
pub moved-nothing : (spec : Specification) (on : List Block) (b : Block) (t : Transaction) (moves : ℤ) (frees : ℕ) → b.transactions ≡ t ∷ [] → moves ≡ pos 0 → frees ≡ 0
    → AreMoved spec on b moves frees
unfolding interest_from freed_from
moved-nothing spec on b t moves frees alone none nothing = record {
  interest_is = none ∙ ap (λ (txs : List Transaction). interest_from spec on b 1 (drop 1 txs)) (sym alone);
  freed_is = nothing ∙ ap (λ (txs : List Transaction). freed_from spec on b 1 (drop 1 txs)) (sym alone);
}

-- ---- Rows

events-push : (place : ℕ) (transactions : List Transaction) (t : Transaction) (height : ℕ)
    → events_from place (transactions ++ t ∷ []) height ≡ events_from place transactions height ++ events_of t height (place + length transactions)
events-push place [] t height =
    let at : place ≡ place + 0 = omega arith in append-nil (events_of t height place) ∙ ap (events_of t height) at
events-push place (first ∷ later) t height =
    let at : (place + 1) + length later ≡ place + length (first ∷ later) = omega arith in
    ap (λ (rest : List Event). events_of first height place ++ rest) (events-push (place + 1) later t height)
    ∙ sym (append_assoc (events_of first height place) (events_from (place + 1) later height) (events_of t height ((place + 1) + length later)))
    ∙ ap (λ (n : ℕ). (events_of first height place ++ events_from (place + 1) later height) ++ events_of t height n) at

-- a block so far with one transaction more, and these rows
abbrev pub with_more : SoFarValue → Transaction → (OutPoint → Option Row) → SoFarValue
with_more so_far t rows = record { timestamp = so_far.timestamp; transactions = so_far.transactions ++ t ∷ []; rows = rows }

pub sees-push : (stored : List Stored) (on : ContextValue) (before : SoFarValue) (t : Transaction) (e : ℕ) (after : OutPoint → Option Row)
    → on.parent < length on.entries → e ≡ length on.entries → SeesSoFar stored on before
    → ((height : ℕ) (o : OutPoint) → 0 < height → after o ≡ row_after e (events_of t height (length before.transactions)) before.rows o)
    → SeesSoFar stored on (with_more before t after)
sees-push stored on before t e after placed last sees put = record { stands = sees.stands; rows_are = rows }
  where
    so_far : List Transaction
    so_far = before.transactions

    height : ℕ
    height = length (branch (blocks_of stored) on.parent)

    long : length on.entries ≡ length (blocks_of stored)
    long = len-same (blocks_of stored) on.entries sees.stands.indexed

    some : 0 < height
    some = branch-some (blocks_of stored) on.parent (omega (arith, placed, long))

    at_end : (events_from 0 so_far height ++ events_of t height (0 + length so_far)) ≡ (events_from 0 so_far height ++ events_of t height (length so_far))
    at_end = let same : 0 + length so_far ≡ length so_far = omega arith in
        ap (λ (n : ℕ). events_from 0 so_far height ++ events_of t height n) same

    rows : (o : OutPoint) → after o ≡ row_after (length on.entries) (events_from 0 (so_far ++ t ∷ []) height) on.rows o
    rows o =
        put height o some
        ∙ ap (λ (n : ℕ). row_after n (events_of t height (length so_far)) before.rows o) last
        ∙ row_after-same (length on.entries) (events_of t height (length so_far)) before.rows (row_after (length on.entries) (events_from 0 so_far height) on.rows) o (sees.rows_are o)
        ∙ sym (row_after-append (length on.entries) (events_from 0 so_far height) (events_of t height (length so_far)) on.rows o)
        ∙ ap (λ (all : List Event). row_after (length on.entries) all on.rows o) (sym (events-push 0 so_far t height ∙ at_end))

-- before any transaction
pub sees-none : (stored : List Stored) (on : ContextValue) (timestamp : ℕ) (rows : OutPoint → Option Row) → ContextStandsFor stored on
    → ((o : OutPoint) → rows o ≡ on.rows o) → SeesSoFar stored on (record { timestamp = timestamp; transactions = []; rows = rows })
sees-none stored on timestamp rows stands same = record {
  stands = stands;
  rows_are = λ o. same o ∙ sym (row_after-nil (length on.entries) on.rows o);
}
