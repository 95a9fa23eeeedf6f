-- The rows after the first transactions of a block, and the site of a transaction that they make.
use Rattle.std.proofs.Common.{◌≡◌, ℕ, ◌+◌, ◌-◌, ◌<◌, inl, inr, ◌⊎◌, Bool, cond, List, [], ◌∷◌, ◌++◌, length, take, min, Option, Some, None, refl, sym, ap, ◌∙◌, arith}
use Rattle.std.specs.Prelude.{slice_get, slice_index, IsSome, IsTrue}
use Rattle.std.specs.Option.{option_map, option_or}
use Rattle.std.proofs.lemmas.Bool.{lt-ltb, le-ltb}
use Rattle.std.proofs.lemmas.List.{append-nil, append_assoc, length-take, take_all}
use Rattle.std.proofs.lemmas.Option.{slice_get_within, same_Some}
use Rattle.chain_defs.specs.Schema.{OutPoint, Transaction, Block}
use Rattle.chain_defs.specs.Kept.{block_at}
use Rattle.chain_defs.specs.Branch.{branch, branch_places}
use Rattle.chain_defs.proofs.KeptLaws.{slice_get-below}
use Rattle.chain_defs.proofs.BranchLaws.{branch-last}
use Rattle.chain_tree.specs.Told.{Stored, blocks_of}
use Rattle.chain_tree.proofs.BlockLemmas.{len-same}
use Rattle.chain_defs.specs.Cell.{Cell, holds_its_own}
use Rattle.chain_defs.specs.Events.{Event, Makes, Spends, last_naming, cell_left, cell_after, events, events_of, events_from, events_of_block, cell_seen}
use Rattle.chain_defs.specs.Row.{Row, row_of, row_or, row_on, row_after, live_row, IsOutputOf}
use Rattle.chain_defs.proofs.EventLemmas.{last_naming-append, made-last}
use Rattle.chain_defs.proofs.OutputLaws.{IsMadeIn, made-in-block, cells-are-outputs, seen-cells-are-outputs}
use Rattle.tx_rules.specs.At.{AtValue, IsSiteOf, IsMade, place_of_height}
use Rattle.tx_rules.specs.Own.{of_transactions}
use Rattle.tx_rules.proofs.AllThere.{take-push}
use Rattle.rule_defs.specs.Site.{site_at, site_after}
use Rattle.rule_defs.specs.Age.{timestamp_of}
use Rattle.block_judge.specs.Appending.{next_site}
use Rattle.block_judge.specs.Standing.{Stands}
use Rattle.block_judge.proofs.ChangeLemmas.{row_after-nil, row_after-append, row_after-same}

-- ---- Rows after the first transactions

-- The rows after so many of a block's transactions, whose rows have the block's place, over those before it.
abbrev pub AreRowsAfter : ℕ → Block → ℕ → (OutPoint → Option Row) → (OutPoint → Option Row) → Type 0
AreRowsAfter e b count before rows =
    (height : ℕ) (o : OutPoint) → 0 < height → rows o ≡ row_after e (events_from 0 (take count b.transactions) height) before o

pub rows-after_none : (e : ℕ) (b : Block) (before rows : OutPoint → Option Row) → ((o : OutPoint) → rows o ≡ before o) → AreRowsAfter e b 0 before rows
rows-after_none e b before rows same height o above = same o ∙ sym (row_after-nil e before o)

-- one transaction more
events-push : (place : ℕ) (transactions : List Transaction) (t : Transaction) (height : ℕ)
    → events_from place (transactions ++ t ∷ []) height ≡ events_from place transactions height ++ events_of t height (place + length transactions)
events-push place [] t height =
    let at : place ≡ place + 0 = omega arith in append-nil (events_of t height place) ∙ ap (events_of t height) at
events-push place (first ∷ later) t height =
    let at : (place + 1) + length later ≡ place + length (first ∷ later) = omega arith in
    ap (λ (after_cellbase : List Event). events_of first height place ++ after_cellbase) (events-push (place + 1) later t height)
    ∙ sym (append_assoc (events_of first height place) (events_from (place + 1) later height) (events_of t height ((place + 1) + length later)))
    ∙ ap (λ (n : ℕ). (events_of first height place ++ events_from (place + 1) later height) ++ events_of t height n) at

pub rows-after_more : (e : ℕ) (b : Block) (count : ℕ) (t : Transaction) (before rows new : OutPoint → Option Row) → AreRowsAfter e b count before rows
    → slice_get b.transactions count ≡ Some t → ((height : ℕ) (o : OutPoint) → 0 < height → new o ≡ row_after e (events_of t height count) rows o)
    → AreRowsAfter e b (count + 1) before new
rows-after_more e b count t before rows new so_far there taken height o above =
    let within : count < length b.transactions = slice_get_within b.transactions count t there in
    let long : length (take count b.transactions) ≡ min count (length b.transactions) = length-take count b.transactions in
    let at : 0 + length (take count b.transactions) ≡ count = omega (arith, long, within) in
    taken height o above
    ∙ row_after-same e (events_of t height count) rows (row_after e (events_from 0 (take count b.transactions) height) before) o (so_far height o above)
    ∙ sym (row_after-append e (events_from 0 (take count b.transactions) height) (events_of t height count) before o)
    ∙ ap (λ (all : List Event). row_after e all before o) (sym (
    ap (λ (these : List Transaction). events_from 0 these height) (take-push b.transactions count t there)
    ∙ events-push 0 (take count b.transactions) t height
    ∙ ap (λ (n : ℕ). events_from 0 (take count b.transactions) height ++ events_of t height n) at
    ))

-- ---- Where a cell was made

abbrev row_seen : List Block → ℕ → Cell → Row
row_seen kept parent cell = row_of (place_of_height kept parent cell.height) cell

pub place-below : (kept : List Block) (parent height : ℕ) → height < length (branch kept parent)
    → place_of_height kept parent height ≡ slice_index (branch_places kept parent) height
place-below kept parent height below =
    ap (λ (b : Bool). cond b (slice_index (branch_places kept parent) height) (length kept)) (lt-ltb height (length (branch kept parent)) below)

pub place-last : (kept : List Block) (parent height : ℕ) → height ≡ length (branch kept parent) → place_of_height kept parent height ≡ length kept
place-last kept parent height last =
    ap (λ (b : Bool). cond b (slice_index (branch_places kept parent) height) (length kept)) (le-ltb height (length (branch kept parent)) (omega (arith, last)))

pub branch-some : (kept : List Block) (parent : ℕ) → parent < length kept → 0 < length (branch kept parent)
branch-some kept parent below =
    let here = slice_get-below kept parent below in
    let within = slice_get_within (branch kept parent) (length (branch kept parent) - 1) here.0 (branch-last kept parent below ∙ here.1) in
    omega (arith, within)

-- what the first transactions of a block make stands at its height
made-here : (b : Block) (count height : ℕ) (o made : OutPoint) (cell : Cell)
    → last_naming o (events_from 0 (take count b.transactions) height) ≡ Some (Makes made cell) → cell.height ≡ height
unfolding events_of_block
made-here b count height o made cell last =
    let front : Block = record b { transactions = take count b.transactions } in
    (made-last (IsMadeIn front height (length (take count b.transactions))) o (events_from 0 (take count b.transactions) height) made cell
    (made-in-block height front) last).height

none-some : (cell : Cell) → ◌≡◌ {A = Option Cell} None (Some cell) → ⊥
none-some cell is = cc

-- a cell of the branch has the row of the branch
live-seen : (kept : List Block) (parent : ℕ) (o : OutPoint)
    → live_row kept parent o ≡ option_map (row_seen kept parent) (cell_after (events (branch kept parent)) o)
unfolding live_row
live-seen kept parent o = by_cell (cell_after (events (branch kept parent)) o) refl
  where
    by_cell : (live : Option Cell) → cell_after (events (branch kept parent)) o ≡ live
        → option_map (row_on kept parent) live ≡ option_map (row_seen kept parent) live
    by_cell None is = refl
    by_cell (Some cell) is =
        let made = cells-are-outputs (branch kept parent) o cell is in
        let within : cell.height < length (branch kept parent) = slice_get_within (branch kept parent) cell.height made.0 made.1 in
        ap (λ (place : ℕ). Some (row_of place cell)) (sym (place-below kept parent cell.height within))

-- ---- The site of a transaction

-- In a block, by the cells after so many others of it.
site-over : (stored : List Stored) (at : AtValue) (b : Block) (count : ℕ) (before rows : OutPoint → Option Row) → at.block ≡ Some b
    → Stands stored at.entries at.parent before
    → ((o : OutPoint) → rows o ≡ row_after (length at.entries) (events_from 0 (take count b.transactions) (length (branch (blocks_of stored) at.parent))) before o)
    → IsSiteOf stored at rows (site_at at.spec (branch (blocks_of stored) at.parent) b count)
unfolding cell_after row_after
site-over stored at b count before rows judged stands after = record {
  indexed = stands.indexed;
  spec = refl;
  on_branch = refl;
  timestamp = sym (ap timestamp_of judged);
  second = refl;
  sees = λ o. after o ∙ sees o (last_naming o done) refl;
  made = made;
  typed = typed;
}
  where
    long : length at.entries ≡ length (blocks_of stored)
    long = len-same (blocks_of stored) at.entries stands.indexed

    done : List Event
    done = events_from 0 (take count b.transactions) (length (branch (blocks_of stored) at.parent))

    seen-by : (o : OutPoint) (last : Option Event) → last_naming o done ≡ last
        → cell_seen (branch (blocks_of stored) at.parent) b count o
        ≡ cell_left (option_or last (last_naming o (events (branch (blocks_of stored) at.parent))))
    seen-by o last is =
        ap cell_left (last_naming-append o (events (branch (blocks_of stored) at.parent)) done
        ∙ ap (λ (after_cellbase : Option Event). option_or after_cellbase (last_naming o (events (branch (blocks_of stored) at.parent)))) is)

    sees : (o : OutPoint) (last : Option Event) → last_naming o done ≡ last
        → row_or (length at.entries) (before o) (last_naming o done)
        ≡ option_map (row_seen (blocks_of stored) at.parent) (cell_seen (branch (blocks_of stored) at.parent) b count o)
    sees o None is =
        ap (row_or (length at.entries) (before o)) is
        ∙ stands.live o
        ∙ live-seen (blocks_of stored) at.parent o
        ∙ ap (option_map (row_seen (blocks_of stored) at.parent)) (sym (seen-by o None is))
    sees o (Some (Makes made_at cell)) is =
        let height : cell.height ≡ length (branch (blocks_of stored) at.parent) =
        made-here b count (length (branch (blocks_of stored) at.parent)) o made_at cell is in
        ap (row_or (length at.entries) (before o)) is
        ∙ ap (λ (place : ℕ). Some (row_of place cell)) (long ∙ sym (place-last (blocks_of stored) at.parent cell.height height))
        ∙ ap (option_map (row_seen (blocks_of stored) at.parent)) (sym (seen-by o (Some (Makes made_at cell)) is))
    sees o (Some (Spends other)) is =
        ap (row_or (length at.entries) (before o)) is
        ∙ ap (option_map (row_seen (blocks_of stored) at.parent)) (sym (seen-by o (Some (Spends other)) is))

    made : (o : OutPoint) (cell : Cell) → cell_seen (branch (blocks_of stored) at.parent) b count o ≡ Some cell
        → IsMade (branch (blocks_of stored) at.parent) at.block o cell
    made o cell seen = by_made (seen-cells-are-outputs (branch (blocks_of stored) at.parent) b count o cell seen)
      where
        by_made : ((it : Block) × (block_at (branch (blocks_of stored) at.parent) cell.height ≡ Some it) × IsOutputOf it o cell)
            ⊎ ((cell.height ≡ length (branch (blocks_of stored) at.parent)) × (cell.transaction < count) × IsOutputOf b o cell)
            → IsMade (branch (blocks_of stored) at.parent) at.block o cell
        by_made (inl on_branch) = inl on_branch
        by_made (inr here) = inr (b, judged, here.0, here.2)

    typed : (o : OutPoint) (cell : Cell) → cell_seen (branch (blocks_of stored) at.parent) b count o ≡ Some cell
        → cell.height < length (branch (blocks_of stored) at.parent) → IsSome cell.output.type_script → IsTrue (holds_its_own cell.output cell.content)
    typed o cell seen below has_type = by_last (last_naming o done) refl
      where
        by_last : (last : Option Event) → last_naming o done ≡ last → IsTrue (holds_its_own cell.output cell.content)
        by_last None is = stands.typed o cell (sym (seen-by o None is) ∙ seen) has_type
        by_last (Some (Makes made_at other)) is =
            let same : other ≡ cell = same_Some other cell (sym (seen-by o (Some (Makes made_at other)) is) ∙ seen) in
            let height : other.height ≡ length (branch (blocks_of stored) at.parent) =
            made-here b count (length (branch (blocks_of stored) at.parent)) o made_at other is in
            let again : other.height ≡ cell.height = ap (λ (c : Cell). c.height) same in
            absurd (omega (arith, height, again, below))
        by_last (Some (Spends other)) is = absurd (none-some cell (sym (seen-by o (Some (Spends other)) is) ∙ seen))

-- After so many others of a block.
pub site-in_block : (stored : List Stored) (at : AtValue) (b : Block) (count : ℕ) (before rows : OutPoint → Option Row) → at.block ≡ Some b
    → at.parent < length at.entries → Stands stored at.entries at.parent before → AreRowsAfter (length at.entries) b count before rows
    → IsSiteOf stored at rows (site_at at.spec (branch (blocks_of stored) at.parent) b count)
site-in_block stored at b count before rows judged placed stands after =
    let long = len-same (blocks_of stored) at.entries stands.indexed in
    let some = branch-some (blocks_of stored) at.parent (omega (arith, placed, long)) in
    site-over stored at b count before rows judged stands (λ o. after (length (branch (blocks_of stored) at.parent)) o some)

-- At the end of a block that has these so far.
pub site-next : (stored : List Stored) (at : AtValue) (timestamp : ℕ) (so_far : List Transaction) (before rows : OutPoint → Option Row)
    → at.block ≡ Some (of_transactions timestamp so_far)
    → Stands stored at.entries at.parent before
    → ((o : OutPoint) → rows o ≡ row_after (length at.entries) (events_from 0 so_far (length (branch (blocks_of stored) at.parent))) before o)
    → IsSiteOf stored at rows (next_site at.spec (branch (blocks_of stored) at.parent) timestamp so_far)
site-next stored at timestamp so_far before rows judged stands after =
    site-over stored at (of_transactions timestamp so_far) (length so_far) before rows judged stands (λ o. after o
    ∙ ap (λ (these : List Transaction). row_after (length at.entries) (events_from 0 these (length (branch (blocks_of stored) at.parent))) before o)
    (sym (take_all (length so_far) so_far (omega arith))))

-- Alone, after the last block.
pub site-alone : (stored : List Stored) (at : AtValue) (rows : OutPoint → Option Row) → at.block ≡ None → Stands stored at.entries at.parent rows
    → IsSiteOf stored at rows (site_after at.spec (branch (blocks_of stored) at.parent))
site-alone stored at rows none stands = record {
  indexed = stands.indexed;
  spec = refl;
  on_branch = refl;
  timestamp = sym (ap timestamp_of none);
  second = refl;
  sees = λ o. stands.live o ∙ live-seen (blocks_of stored) at.parent o;
  made = λ o cell live. inl (cells-are-outputs (branch (blocks_of stored) at.parent) o cell live);
  typed = λ o cell live below. stands.typed o cell live;
}
