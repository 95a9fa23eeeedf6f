-- Each block of a chain that has joined can be taken back with its ext.
use Rattle.std.proofs.Common.{◌≡◌, ℕ, suc, ◌<◌, List, [], ◌∷◌, ◌++◌, length, take, drop, Option, None, if◌then◌else◌, refl, sym, ap, ◌∙◌, subst, arith}
use Rattle.std.specs.Prelude.{slice_index}
use Rattle.std.specs.Option.{option_map, option_and_then}
use Rattle.std.proofs.lemmas.List.{append-nil, append_assoc, length_push, length-take-le}
use Rattle.std.proofs.lemmas.Option.{slice_get_within, same_Some}
use Rattle.chain_defs.specs.Schema.{OutPoint, Block}
use Rattle.chain_defs.specs.Kept.{place_of}
use Rattle.chain_defs.specs.Branch.{branch, branch_places}
use Rattle.chain_defs.proofs.BranchLaws.{parent_place-below}
use Rattle.chain_defs.specs.Cell.{Cell}
use Rattle.chain_defs.specs.Events.{Event, Makes, Spends, same_out_point, out_point_of, last_naming, live_cell, events_of_block}
use Rattle.chain_defs.specs.Row.{Row, row_of, row_or, row_after, live_row}
use Rattle.chain_defs.proofs.JoinLemmas.{branch_places-push}
use Rattle.chain_defs.proofs.FitLemmas.{found-same}
use Rattle.chain_defs.specs.Undo.{without, row_at, row_spent, spent_of}
use Rattle.chain_defs.specs.UndoLaws.{ComesBefore}
use Rattle.verdict_defs.specs.Ext.{ext_of}
use Rattle.verdict_defs.proofs.VerdictLaws.{branch-more}
use Rattle.store_defs.proofs.KeptLemmas.{Grows, grows, parts-at}
use Rattle.store_defs.specs.ExtLaws.{KeptExtsTakeBack}
use Rattle.store_defs.proofs.ExtLaws.{exts-take-back}

-- ---- More kept blocks change no rows

places-more : (kept more : List Block) (place : ℕ) → place < length kept → branch_places (kept ++ more) place ≡ branch_places kept place
places-more kept [] place below = ap (λ (blocks : List Block). branch_places blocks place) (append-nil kept)
places-more kept (b ∷ more) place below =
    ap (λ (blocks : List Block). branch_places blocks place) (sym (append_assoc kept (b ∷ []) more))
    ∙ places-more (kept ++ b ∷ []) more place (omega (arith, below, length_push kept b))
    ∙ branch_places-push kept b place below

rows-more : (kept more : List Block) (place : ℕ) (o : OutPoint) → place < length kept → live_row (kept ++ more) place o ≡ live_row kept place o
unfolding live_row
rows-more kept more place o below =
    ap (λ (places : List ℕ). option_map (λ (cell : Cell). row_of (slice_index places cell.height) cell) (live_cell (branch (kept ++ more) place) o))
    (places-more kept more place below)
    ∙ ap (λ (on : List Block). option_map (λ (cell : Cell). row_of (slice_index (branch_places kept place) cell.height) cell) (live_cell on o))
    (branch-more kept more place below)

-- ---- Rows that are the same

row-same : (event : Event) (one other : OutPoint → Option Row) → ((o : OutPoint) → one o ≡ other o) → row_spent event one ≡ row_spent event other
row-same (Makes p cell) one other same = refl
row-same (Spends p) one other same = ap (row_at p) (same p)

spent-same : (events : List Event) (one other : OutPoint → Option Row) → ((o : OutPoint) → one o ≡ other o) → spent_of events one ≡ spent_of events other
unfolding spent_of
spent-same [] one other same = refl
spent-same (event ∷ later) one other same =
    let p = out_point_of event in
    ap (λ (list : List (OutPoint × Row)). list ++ spent_of later (without p one)) (row-same event one other same)
    ∙ ap (λ (list : List (OutPoint × Row)). row_spent event other ++ list)
    (spent-same later (without p one) (without p other) (λ o. ap (λ (found : Option Row). if same_out_point p o then None else found) (same o)))

after-same : (place : ℕ) (events : List Event) (one other : OutPoint → Option Row) (o : OutPoint) → one o ≡ other o → row_after place events one o ≡ row_after place events other o
unfolding row_after
after-same place events one other o same = ap (λ (row : Option Row). row_or place row (last_naming o events)) same

comes-same : (events : List Event) (spent : List (OutPoint × Row)) (after before later earlier : OutPoint → Option Row) → ((o : OutPoint) → after o ≡ later o)
    → ((o : OutPoint) → before o ≡ earlier o) → ComesBefore events spent after before → ComesBefore events spent later earlier
comes-same events spent after before later earlier same_after same_before it = record {
  place = it.place;
  fit = found-same events before earlier (λ o. sym (same_before o)) it.fit;
  spent_is = it.spent_is ∙ spent-same events before earlier same_before;
  after_is = λ o. sym (same_after o) ∙ it.after_is o ∙ after-same it.place events before earlier o (same_before o);
}

-- ---- Each kept block

pub kept-exts-take-back : KeptExtsTakeBack
kept-exts-take-back chain place parent b joined there on =
    subst (λ (h : ℕ). ComesBefore (events_of_block h b) (ext_of chain.spec before parent b).spent (live_row chain.blocks place) (live_row chain.blocks parent)) height
    (comes-same (events_of_block (length (branch before parent)) b) (ext_of chain.spec before parent b).spent (live_row (before ++ b ∷ []) (length before))
    (live_row before parent) (live_row chain.blocks place) (live_row chain.blocks parent) same_after same_before
    (subst (λ (p : ℕ). ComesBefore (events_of_block (length (branch before p)) b) (ext_of chain.spec before p b).spent
    (live_row (before ++ b ∷ []) (length before)) (live_row before p)) same (exts-take-back (record { spec = chain.spec; blocks = before }) b grown.may)))
  where
    before : List Block
    before = take place chain.blocks

    low : parent < place
    low = parent_place-below chain.blocks place parent on

    grown : Grows chain place b
    grown = grows chain place b joined (omega (arith, low)) there

    within : place < length chain.blocks
    within = slice_get_within chain.blocks place b there

    long : length before ≡ place
    long = length-take-le place chain.blocks (omega (arith, within))

    parts : chain.blocks ≡ before ++ b ∷ drop (suc place) chain.blocks
    parts = parts-at chain.blocks place b there

    same : grown.may.parent ≡ parent
    same =
        same_Some grown.may.parent parent (sym grown.may.on_kept
        ∙ sym (ap (option_and_then (λ (x : Block). place_of before x.header.parent_hash)) there) ∙ on)

    height : length (branch before parent) ≡ length (branch chain.blocks parent)
    height =
        ap length (sym (ap (λ (blocks : List Block). branch blocks parent) parts
        ∙ branch-more before (b ∷ drop (suc place) chain.blocks) parent (omega (arith, low, long))))

    same_before : (o : OutPoint) → live_row before parent o ≡ live_row chain.blocks parent o
    same_before o =
        sym (ap (λ (blocks : List Block). live_row blocks parent o) parts
        ∙ rows-more before (b ∷ drop (suc place) chain.blocks) parent o (omega (arith, low, long)))

    same_after : (o : OutPoint) → live_row (before ++ b ∷ []) (length before) o ≡ live_row chain.blocks place o
    same_after o =
        sym (ap (λ (blocks : List Block). live_row blocks place o) (parts ∙ sym (append_assoc before (b ∷ []) (drop (suc place) chain.blocks)))
        ∙ rows-more (before ++ b ∷ []) (drop (suc place) chain.blocks) place o (omega (arith, long, length_push before b))
        ∙ ap (λ (n : ℕ). live_row (before ++ b ∷ []) n o) (sym long))
