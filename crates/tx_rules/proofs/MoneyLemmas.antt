-- Sums of shannons, and what a withdrawing cell counts.
use Rattle.std.proofs.Common.{◌≡◌, ℕ, ◌+◌, ◌<◌, ◌≤◌, Bool, true, false, ◌&&◌, ◌||◌, not, ◌==◌, nat_lt, nat_le, List, [], ◌∷◌, length, Option, Some, None, refl, sym, ap, ◌∙◌, inl, inr, ◌⊎◌, arith}
use Rattle.std.specs.Prelude.{slice_get, slice_index, sum_by, is_some, IsTrue, IsSome, if◌then◌else◌}
use Rattle.std.specs.Option.{option_map, option_and_then}
use Rattle.std.specs.List.{AllZip, list_any, enumerate_from}
use Rattle.std.proofs.lemmas.List.Sums.{sum_by-cons}
use Rattle.std.proofs.lemmas.Bool.{lt-ltb, le-ltb, le-leb, lt-leb, ltb-true, ltb-false, leb-true, cases_lt}
use Rattle.std.proofs.lemmas.Option.{get_or_from_slice_get, same_Some, cond_some}
use Rattle.chain_defs.specs.Schema.{OutPoint, Script, Block, Transaction}
use Rattle.chain_defs.specs.Specification.{Specification}
use Rattle.chain_defs.specs.Dao.{field_of_bytes}
use Rattle.chain_defs.specs.Kept.{block_at}
use Rattle.chain_defs.specs.Branch.{branch_places, branch}
use Rattle.chain_defs.proofs.KeptLaws.{slice_get-below}
use Rattle.chain_tree.specs.declared.entry.Entry.{Entry}
use Rattle.chain_tree.specs.Entries.{entry_at}
use Rattle.chain_tree.specs.Told.{Stored, blocks_of}
use Rattle.chain_tree.proofs.BlockLemmas.{DescribedAt, described, len-same}
use Rattle.chain_defs.specs.Cell.{Cell, occupied_by}
use Rattle.chain_defs.specs.Row.{Row}
use Rattle.chain_defs.proofs.WalkLemmas.{all-at}
use Rattle.rule_defs.specs.Site.{Site, Found, height_at}
use Rattle.rule_defs.specs.Resolving.{inputs, heights}
use Rattle.rule_defs.specs.Withdrawals.{is_dao_script, is_withdrawing, deposit_height, deposit_index, withdraws_well, names_deposits}
use Rattle.rule_defs.specs.Capacity.{rate_of, rate_at, withdrawn, counted, counted_in}
use Rattle.tx_rules.specs.At.{AtValue, IsAtParent, IsSiteOf}
use Rattle.cell_state.specs.Copies.{ResolvedValue}
use Rattle.tx_rules.specs.Outcome.{Copies}
use Rattle.tx_rules.specs.Seen.{IsRowOf}
use Rattle.tx_rules.proofs.BranchLemmas.{PlaceOfHeight, place-of-height}
use Rattle.tx_rules.proofs.SiteLemmas.{IsKeptRow, IsOwnRow}
use Rattle.tx_rules.proofs.AgeLemmas.{row-of}
use Rattle.tx_rules.proofs.DepositLemmas.{EntryOfHeight, entry-of-height, heights-below, listed-below}

-- ---- 64 bits

pub fits-u64 : (n bound : ℕ) → n < bound → Some n ≡ (if nat_lt n bound then Some n else None)
fits-u64 n bound fits = ap (λ (b : Bool). if b then Some n else None) (sym (lt-ltb n bound fits))

pub past-u64 : (n bound : ℕ) → bound ≤ n → None ≡ (if nat_lt n bound then Some n else None)
past-u64 n bound past = ap (λ (b : Bool). if b then Some n else None) (sym (le-ltb n bound past))

pub some-u64 : (n bound x : ℕ) → Some x ≡ (if nat_lt n bound then Some n else None) → (x ≡ n) × (n < bound)
some-u64 n bound x is = let both = cond_some (nat_lt n bound) n x (sym is) in (sym both.1, ltb-true n bound both.0)

pub none-u64 : (n bound : ℕ) → None ≡ (if nat_lt n bound then Some n else None) → bound ≤ n
none-u64 n bound is = by_test (nat_lt n bound) refl is
  where
    by_test : (b : Bool) → nat_lt n bound ≡ b → None ≡ (if b then Some n else None) → bound ≤ n
    by_test true test same = absurd (cc)
    by_test false test same = ltb-false n bound test

pub not-below : (a b : ℕ) → (a < b → ⊥) → b ≤ a
not-below a b never = by_order (cases_lt a b)
  where
    by_order : (a < b) ⊎ (b ≤ a) → b ≤ a
    by_order (inl below) = absurd (never below)
    by_order (inr above) = above

-- ---- Sums of what is left

pub sum-more : {X : Type 0} (f : X → ℕ) (rest later : List X) (x : X) (sum more whole : ℕ) → rest ≡ x ∷ later → sum + sum_by f rest ≡ whole
    → more ≡ sum + f x → more + sum_by f later ≡ whole
sum-more f rest later x sum more whole is so_far next =
    let cons : sum_by f rest ≡ f x + sum_by f later = ap (sum_by f) is ∙ sum_by-cons f x later in
    omega (arith, cons, so_far, next)

pub sum-past : {X : Type 0} (f : X → ℕ) (rest later : List X) (x : X) (sum bound whole : ℕ) → rest ≡ x ∷ later → sum + sum_by f rest ≡ whole
    → bound ≤ sum + f x → bound ≤ whole
sum-past f rest later x sum bound whole is so_far past =
    let cons : sum_by f rest ≡ f x + sum_by f later = ap (sum_by f) is ∙ sum_by-cons f x later in
    omega (arith, cons, so_far, past)

pub sum-end : {X : Type 0} (f : X → ℕ) (rest : List X) (sum whole : ℕ) → rest ≡ [] → sum + sum_by f rest ≡ whole → sum ≡ whole
sum-end f rest sum whole none so_far =
    let zero : sum_by f rest ≡ 0 = ap (sum_by f) none in omega (arith, zero, so_far)

-- what is so of all elements with their places is so at each
-- ---- The rate of a block

-- that of the block at a height, by its place
pub rate-same : (stored : List Stored) (at : AtValue) (rows : OutPoint → Option Row) (site : Site) (height place rate : ℕ)
    → IsAtParent at → IsSiteOf stored at rows site → height < height_at site → place ≡ slice_index (branch_places (blocks_of stored) at.parent) height
    → ((entry : Entry) → entry_at at.entries place ≡ Some entry → rate ≡ (field_of_bytes entry.dao).rate) → rate ≡ rate_at site height
rate-same stored at rows site height place rate placed is low same of_entry =
    of_entry entry.entry there ∙ ap (λ (dao : List ℕ). (field_of_bytes dao).rate) here.is.dao
    ∙ sym (ap (λ (blocks : List Block). rate_of (block_at blocks height)) is.on_branch ∙ ap rate_of block_there)
  where
    under : height < length (branch (blocks_of stored) at.parent)
    under = let long : length site.branch ≡ length (branch (blocks_of stored) at.parent) = ap length is.on_branch in omega (arith, low, long)

    below : at.parent < length (blocks_of stored)
    below = let long : length at.entries ≡ length (blocks_of stored) = len-same (blocks_of stored) at.entries is.indexed in
        let parent : at.parent < length at.entries = placed.parent in omega (arith, parent, long)

    entry : EntryOfHeight (blocks_of stored) at.entries at.parent height
    entry = entry-of-height (blocks_of stored) at.entries at.parent height is.indexed placed.parent under

    there : entry_at at.entries place ≡ Some entry.entry
    there = ap (entry_at at.entries) same ∙ entry.there

    here : DescribedAt (blocks_of stored) place entry.entry
    here = described (blocks_of stored) at.entries place entry.entry is.indexed.each there

    block_there : block_at (branch (blocks_of stored) at.parent) height ≡ Some here.block
    block_there = let block = slice_get-below (branch (blocks_of stored) at.parent) height under in
        let of_height : PlaceOfHeight (blocks_of stored) at.parent height block.0 = place-of-height (blocks_of stored) at.parent height block.0 below block.1 in
        block.1 ∙ sym of_height.there ∙ ap (block_at (blocks_of stored)) (sym same) ∙ here.there

-- ---- A withdrawing cell of a kept block

pub made-below : (stored : List Stored) (at : AtValue) (rows : OutPoint → Option Row) (site : Site) (found : Found) (row : Row)
    → IsAtParent at → IsSiteOf stored at rows site → IsRowOf (blocks_of stored) at.parent site found row → found.cell.height < height_at site
    → IsKeptRow stored at found.out_point found.cell row
made-below stored at rows site found row placed is its low = by_made (row-of stored at rows site found row placed is its)
  where
    by_made : IsKeptRow stored at found.out_point found.cell row ⊎ IsOwnRow stored at found.out_point found.cell row
        → IsKeptRow stored at found.out_point found.cell row
    by_made (inl kept) = kept
    by_made (inr own) =
        let long : length site.branch ≡ length (branch (blocks_of stored) at.parent) = ap length is.on_branch in
        absurd (omega (arith, own.height, low, long))

pub made-place : (stored : List Stored) (at : AtValue) (rows : OutPoint → Option Row) (site : Site) (found : Found) (row : Row)
    → IsAtParent at → IsSiteOf stored at rows site → IsRowOf (blocks_of stored) at.parent site found row → found.cell.height < height_at site
    → row.block ≡ slice_index (branch_places (blocks_of stored) at.parent) found.cell.height
made-place stored at rows site found row placed is its low =
    sym (get_or_from_slice_get (branch_places (blocks_of stored) at.parent) found.cell.height row.block 0
    (made-below stored at rows site found row placed is its low).place)

-- it holds what it occupies
pub made-holds : (stored : List Stored) (at : AtValue) (rows : OutPoint → Option Row) (site : Site) (found : Found) (row : Row)
    → IsSiteOf stored at rows site → IsRowOf (blocks_of stored) at.parent site found row → found.cell.height < height_at site
    → IsSome found.cell.output.type_script → row.occupied ≤ row.capacity
made-holds stored at rows site found row is its low typed =
    let holds = leb-true (occupied_by found.cell.output found.cell.content) found.cell.output.capacity (is.typed found.out_point found.cell its.seen low typed) in
    let occupied : row.occupied ≡ occupied_by found.cell.output found.cell.content = ap (λ (r : Row). r.occupied) its.is in
    let capacity : row.capacity ≡ found.cell.output.capacity = ap (λ (r : Row). r.capacity) its.is in
    omega (arith, holds, occupied, capacity)

-- one function of equal numbers
pub four-same : {V : Type 0} (f : ℕ → ℕ → ℕ → ℕ → V) (a b d e a' b' d' e' : ℕ) → a ≡ a' → b ≡ b' → d ≡ d' → e ≡ e' → f a b d e ≡ f a' b' d' e'
four-same f a b d e a' b' d' e' one two three four =
    ap (λ (n : ℕ). f n b d e) one ∙ ap (λ (n : ℕ). f a' n d e) two ∙ ap (λ (n : ℕ). f a' b' n e) three ∙ ap (f a' b' d') four

-- ---- What an input counts

pub counted-plain : (site : Site) (t : Transaction) (i : ℕ) (found : Found) → is_withdrawing site.spec found.cell ≡ false
    → counted site t (i, found) ≡ found.cell.output.capacity
unfolding counted
counted-plain site t i found other =
    ap (λ (b : Bool). if b then withdrawn site found.cell (deposit_height (heights site t) t i found.cell) else found.cell.output.capacity) other

pub counted-withdrawn : (site : Site) (t : Transaction) (i : ℕ) (found : Found) (deposit : Option ℕ) → is_withdrawing site.spec found.cell ≡ true
    → deposit_height (heights site t) t i found.cell ≡ deposit → counted site t (i, found) ≡ withdrawn site found.cell deposit
unfolding counted
counted-withdrawn site t i found deposit withdraws is =
    ap (λ (b : Bool). if b then withdrawn site found.cell (deposit_height (heights site t) t i found.cell) else found.cell.output.capacity) withdraws
    ∙ ap (withdrawn site found.cell) is

pub none-plain : (withdraws : Bool) (height : ℕ) → None ≡ (if withdraws then Some height else None) → withdraws ≡ false
none-plain true height is = absurd (cc)
none-plain false height is = refl

-- its cell was made by a kept block
either-listed : (withdraws listed deposit : Bool) → (not withdraws || (listed && deposit)) ≡ true → withdraws ≡ true → listed ≡ true
either-listed true true deposit well is = refl
either-listed true false deposit well is = well
either-listed false listed deposit well is = absurd (cc)

pub made-listed : (site : Site) (t : Transaction) (i : ℕ) (found : Found) → IsTrue (withdraws_well site t (i, found))
    → is_withdrawing site.spec found.cell ≡ true → found.cell.height < height_at site
made-listed site t i found well withdraws =
    listed-below (heights site t) found.cell.height (length site.branch) (heights-below site t)
    (either-listed (is_withdrawing site.spec found.cell) (list_any (λ height. height == found.cell.height) (heights site t))
    (is_some (deposit_height (heights site t) t i found.cell)) well withdraws)

pub typed-some : (spec : Specification) (type_script : Option Script) → is_dao_script spec type_script ≡ true → IsSome type_script
typed-some spec None is = absurd (cc)
typed-some spec (Some script) is = refl

pub mapped-none : (f : ℕ → ℕ) (found : Option ℕ) → None ≡ option_map f found → found ≡ None
mapped-none f None is = refl
mapped-none f (Some n) is = absurd (cc)

pub mapped-some : (f : ℕ → ℕ) (found : Option ℕ) (place : ℕ) → Some place ≡ option_map f found → (n : ℕ) × (found ≡ Some n) × (place ≡ f n)
mapped-some f None place is = absurd (cc)
mapped-some f (Some n) place is = (n, refl, same_Some place (f n) is)

-- the deposit block is an earlier one
pub deposit-below : (hs : List ℕ) (t : Transaction) (i : ℕ) (cell : Cell) (height : ℕ) → deposit_height hs t i cell ≡ Some height → height < cell.height
unfolding deposit_height
deposit-below hs t i cell height is = by_named (option_and_then (slice_get hs) (deposit_index t i)) is
  where
    by_named : (named : Option ℕ) → option_and_then (λ (h : ℕ). if nat_lt h cell.height then Some h else None) named ≡ Some height → height < cell.height
    by_named None same = absurd (cc)
    by_named (Some h) same =
        let both = cond_some (nat_lt h cell.height) h height same in
        let low = ltb-true h cell.height both.0 in
        omega (arith, low, both.1)

-- ---- What all inputs count

pub counted-init : (site : Site) (t : Transaction) → 0 + sum_by (counted site t) (enumerate_from 0 (inputs site t)) ≡ counted_in site t
unfolding counted_in
counted-init site t = omega arith

-- each input that withdraws names its headers
pub well-at : (site : Site) (t : Transaction) (i : ℕ) (found : Found) → IsTrue (names_deposits site t) → slice_get (inputs site t) i ≡ Some found
    → IsTrue (withdraws_well site t (i, found))
well-at site t i found named there =
    let at : i ≡ 0 + i = omega arith in
    ap (λ (k : ℕ). withdraws_well site t (k, found)) at ∙ all-at (withdraws_well site t) 0 (inputs site t) i found named there

-- ---- The balance

and-false : (b : Bool) → (b && false) ≡ false
and-false true = refl
and-false false = refl

pub none-balances : (inside outside bound : ℕ) → bound ≤ inside → (nat_lt inside bound && nat_lt outside bound && nat_le outside inside) ≡ false
none-balances inside outside bound past =
    ap (λ (b : Bool). b && nat_lt outside bound && nat_le outside inside) (le-ltb inside bound past)

pub more-balances : (inside outside bound : ℕ) → inside < outside → (nat_lt inside bound && nat_lt outside bound && nat_le outside inside) ≡ false
more-balances inside outside bound more =
    ap (λ (b : Bool). nat_lt inside bound && nat_lt outside bound && b) (lt-leb outside inside more)
    ∙ and-false (nat_lt inside bound && nat_lt outside bound)

pub all-balances : (inside outside bound : ℕ) → inside < bound → outside < bound → outside ≤ inside
    → (nat_lt inside bound && nat_lt outside bound && nat_le outside inside) ≡ true
all-balances inside outside bound one two three =
    ap (λ (b : Bool). b && nat_lt outside bound && nat_le outside inside) (lt-ltb inside bound one)
    ∙ ap (λ (b : Bool). b && nat_le outside inside) (lt-ltb outside bound two) ∙ le-leb outside inside three

-- the capacities of copies are those of the cells
pub capacities-same : (kept : List Block) (parent : ℕ) (founds : List Found) (copies : List ResolvedValue) → AllZip (Copies kept parent) founds copies
    → sum_by (λ copy. copy.row.capacity) copies ≡ sum_by (λ found. found.cell.output.capacity) founds
capacities-same kept parent [] [] each = refl
capacities-same kept parent [] (copy ∷ copies) each = absurd each
capacities-same kept parent (found ∷ founds) [] each = absurd each
capacities-same kept parent (found ∷ founds) (copy ∷ copies) each =
    let here : copy.row.capacity ≡ found.cell.output.capacity = ap (λ (pair : OutPoint × Row). pair.1.capacity) each.0.row in
    let rest = capacities-same kept parent founds copies each.1 in
    let one = sum_by-cons (λ (it : ResolvedValue). it.row.capacity) copy copies in
    let other = sum_by-cons (λ (it : Found). it.cell.output.capacity) found founds in
    omega (arith, here, rest, one, other)
