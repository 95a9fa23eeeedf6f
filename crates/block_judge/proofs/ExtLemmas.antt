-- The rows that an ext has of a transaction.
use Rattle.std.proofs.Common.{◌≡◌, ℕ, ◌+◌, ◌<◌, ◌≤◌, nat_lt, inl, inr, ◌⊎◌, Bool, cond, List, [], ◌∷◌, ◌++◌, length, map, take, get_or, Option, Some, None, refl, sym, ap, ◌∙◌, subst, arith}
use Rattle.std.specs.List.{filter, filter_map, cons_option}
use Rattle.std.proofs.lemmas.Bool.{lt-ltb, le-ltb}
use Rattle.std.proofs.lemmas.List.{append_assoc, map-append, take_all, take_more}
use Rattle.std.proofs.lemmas.List.Elements.{All-head, All-tail, filter-append}
use Rattle.chain_defs.specs.Schema.{OutPoint, Transaction, Block}
use Rattle.chain_defs.specs.Branch.{branch}
use Rattle.chain_tree.specs.Told.{Stored, blocks_of}
use Rattle.chain_defs.specs.Row.{Row, row_of, row_on}
use Rattle.cell_state.specs.Copies.{ResolvedValue}
use Rattle.rule_defs.specs.Site.{Site, Found, height_at}
use Rattle.rule_defs.specs.Resolving.{inputs}
use Rattle.tx_rules.specs.At.{AtValue, IsSiteOf, found_row, AreSeen}
use Rattle.tx_rules.specs.Copying.{row_in}
use Rattle.tx_rules.proofs.SiteLemmas.{IsKeptRow, IsOwnRow, row-made, inputs-seen}
use Rattle.verdict_defs.specs.Ext.{row_before, rows_spent}
use Rattle.block_judge.proofs.SiteLemmas.{place-below}

-- a row is that of a block below a place
abbrev is_below : ℕ → OutPoint × Row → Bool
is_below e it = nat_lt it.1.block e

-- one row: it is below the block's place just where a block before made the cell
row-before : (stored : List Stored) (at : AtValue) (rows : OutPoint → Option Row) (site : Site) (found : Found) (row : Row) (later : List (OutPoint × Row))
    → at.parent < length at.entries → IsSiteOf stored at rows site → site.cell found.out_point ≡ Some found.cell
    → row ≡ (found_row (blocks_of stored) at.parent found).1
    → cond (is_below (length at.entries) (found_row (blocks_of stored) at.parent found)) (found_row (blocks_of stored) at.parent found ∷ later) later
    ≡ cons_option (row_before (blocks_of stored) at.parent site found) later
row-before stored at rows site found row later placed is seen its_row =
    by_made (row-made stored at rows site found.out_point found.cell row placed is seen its_row)
  where
    high : height_at site ≡ length (branch (blocks_of stored) at.parent)
    high = ap (λ (blocks : List Block). length blocks) is.on_branch

    by_made : IsKeptRow stored at found.out_point found.cell row ⊎ IsOwnRow stored at found.out_point found.cell row
        → cond (is_below (length at.entries) (found_row (blocks_of stored) at.parent found)) (found_row (blocks_of stored) at.parent found ∷ later) later
        ≡ cons_option (row_before (blocks_of stored) at.parent site found) later
    by_made (inl made) =
        let low : (found_row (blocks_of stored) at.parent found).1.block < length at.entries =
        subst (λ (r : Row). r.block < length at.entries) its_row made.below in
        ap (λ (b : Bool). cond b (found_row (blocks_of stored) at.parent found ∷ later) later)
        (lt-ltb (found_row (blocks_of stored) at.parent found).1.block (length at.entries) low)
        ∙ ap (λ (place : ℕ). (found.out_point, row_of place found.cell) ∷ later) (place-below (blocks_of stored) at.parent found.cell.height made.height)
        ∙ sym (ap (λ (b : Bool). cons_option (cond b (Some (found.out_point, row_on (blocks_of stored) at.parent found.cell)) None) later)
        (lt-ltb found.cell.height (height_at site) (omega (arith, made.height, high))))
    by_made (inr own) =
        let last : (found_row (blocks_of stored) at.parent found).1.block ≡ length at.entries =
        subst (λ (r : Row). r.block ≡ length at.entries) its_row own.last in
        ap (λ (b : Bool). cond b (found_row (blocks_of stored) at.parent found ∷ later) later)
        (le-ltb (found_row (blocks_of stored) at.parent found).1.block (length at.entries) (omega (arith, last)))
        ∙ sym (ap (λ (b : Bool). cons_option (cond b (Some (found.out_point, row_on (blocks_of stored) at.parent found.cell)) None) later)
        (le-ltb found.cell.height (height_at site) (omega (arith, own.height, high))))

-- The rows below the block's place are those that blocks before it made.
pub rows-before : (stored : List Stored) (at : AtValue) (rows : OutPoint → Option Row) (site : Site) (founds : List Found) → at.parent < length at.entries
    → IsSiteOf stored at rows site → AreSeen site founds
    → filter (λ it. nat_lt it.1.block (length at.entries)) (map (found_row (blocks_of stored) at.parent) founds)
    ≡ filter_map (row_before (blocks_of stored) at.parent site) founds
rows-before stored at rows site [] placed is seen = refl
rows-before stored at rows site (found ∷ founds) placed is seen =
    row-before stored at rows site found (found_row (blocks_of stored) at.parent found).1 (filter (is_below (length at.entries)) (map (found_row (blocks_of stored) at.parent) founds))
    placed is (All-head (λ it. site.cell it.out_point ≡ Some it.cell) found founds seen) refl
    ∙ ap (cons_option (row_before (blocks_of stored) at.parent site found))
    (rows-before stored at rows site founds placed is (All-tail (λ it. site.cell it.out_point ≡ Some it.cell) found founds seen))

pub rows-spent : (stored : List Stored) (at : AtValue) (rows : OutPoint → Option Row) (site : Site) (t : Transaction) (copies : List ResolvedValue)
    → at.parent < length at.entries → IsSiteOf stored at rows site → map row_in copies ≡ map (found_row (blocks_of stored) at.parent) (inputs site t)
    → filter (λ it. nat_lt it.1.block (length at.entries)) (map row_in copies) ≡ rows_spent (blocks_of stored) at.parent site t
rows-spent stored at rows site t copies placed is spends =
    ap (filter (λ (it : OutPoint × Row). nat_lt it.1.block (length at.entries))) spends
    ∙ rows-before stored at rows site (inputs site t) placed is (inputs-seen site t)

-- ---- One input after the other

-- the rows of the inputs up to one more
pub spent-more : (e : ℕ) (copies : List ResolvedValue) (i : ℕ) (copy : ResolvedValue) (old before new : List (OutPoint × Row)) → i < length copies
    → copy ≡ get_or copies i copy → before ≡ old ++ filter (λ it. nat_lt it.1.block e) (map row_in (take i copies))
    → new ≡ before ++ cond (nat_lt copy.row.block e) (row_in copy ∷ []) []
    → new ≡ old ++ filter (λ it. nat_lt it.1.block e) (map row_in (take (i + 1) copies))
spent-more e copies i copy old before new within is so_far pushed =
    pushed
    ∙ ap (λ (front : List (OutPoint × Row)). front ++ filter (is_below e) (row_in copy ∷ [])) so_far
    ∙ append_assoc old (filter (is_below e) (map row_in (take i copies))) (filter (is_below e) (row_in copy ∷ []))
    ∙ ap (λ (rows : List (OutPoint × Row)). old ++ rows) (sym one_more)
  where
    one_more : filter (is_below e) (map row_in (take (i + 1) copies)) ≡ filter (is_below e) (map row_in (take i copies)) ++ filter (is_below e) (row_in copy ∷ [])
    one_more =
        ap (λ (some : List ResolvedValue). filter (is_below e) (map row_in some))
        (take_more copies i copy within ∙ ap (λ (it : ResolvedValue). take i copies ++ it ∷ []) (sym is))
        ∙ ap (filter (is_below e)) (map-append row_in (take i copies) (copy ∷ []))
        ∙ filter-append (is_below e) (map row_in (take i copies)) (row_in copy ∷ [])

pub spent-each : (e : ℕ) (copies : List ResolvedValue) (i : ℕ) (old new : List (OutPoint × Row)) → length copies ≤ i
    → new ≡ old ++ filter (λ it. nat_lt it.1.block e) (map row_in (take i copies)) → new ≡ old ++ filter (λ it. nat_lt it.1.block e) (map row_in copies)
spent-each e copies i old new past so_far =
    so_far ∙ ap (λ (all : List ResolvedValue). old ++ filter (is_below e) (map row_in all)) (take_all i copies past)
