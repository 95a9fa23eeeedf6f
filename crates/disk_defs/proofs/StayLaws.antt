-- One block more changes no snapshot of the blocks before it.
use Rattle.std.proofs.Common.{◌≡◌, ℕ, zero, suc, ◌<◌, List, [], ◌∷◌, ◌++◌, length, Option, Some, None, refl, sym, ap, ◌∙◌, subst, arith}
use Rattle.std.specs.Prelude.{slice_index, IsSomeAnd}
use Rattle.std.specs.Option.{option_map}
use Rattle.std.proofs.lemmas.Option.{slice_get_within}
use Rattle.chain_defs.specs.Schema.{OutPoint, Block}
use Rattle.chain_defs.specs.Kept.{block_at, block_hash, parent_place}
use Rattle.chain_defs.specs.Branch.{branch, branch_places, places_within}
use Rattle.chain_defs.proofs.KeptLaws.{slice_get-before}
use Rattle.chain_defs.proofs.BranchLaws.{parent_place-below, parent_place-push, branch-push}
use Rattle.chain_defs.specs.Cell.{Cell}
use Rattle.chain_defs.specs.Events.{live_cell}
use Rattle.chain_defs.specs.Row.{row_of, row_on, live_row}
use Rattle.disk_defs.specs.Snapshot.{Snapshot}
use Rattle.disk_defs.specs.SnapshotLaws.{StaysOfBlocks, StaysSound}

abbrev places_on : ℕ → List Block → ℕ → Option ℕ → List ℕ
places_on most kept place found = elim found [
  | None ↦ place ∷ []
  | Some parent ↦ places_within most kept parent ++ place ∷ []
]

within-push : (most : ℕ) (kept : List Block) (b : Block) (place : ℕ) → place < length kept
    → places_within most (kept ++ b ∷ []) place ≡ places_within most kept place
within-push zero kept b place below = refl
within-push (suc most) kept b place below =
    ap (places_on most (kept ++ b ∷ []) place) (parent_place-push kept b place below) ∙ by-parent (parent_place kept place) refl (within-push most kept b)
  where
    by-parent : (found : Option ℕ) → parent_place kept place ≡ found
        → ((parent : ℕ) → parent < length kept → places_within most (kept ++ b ∷ []) parent ≡ places_within most kept parent)
        → places_on most (kept ++ b ∷ []) place found ≡ places_on most kept place found
    by-parent None is rest = refl
    by-parent (Some parent) is rest =
        let earlier : parent < place = parent_place-below kept place parent is in
        ap (λ (l : List ℕ). l ++ place ∷ []) (rest parent (omega (arith, earlier, below)))

places-push : (kept : List Block) (b : Block) (place : ℕ) → place < length kept → branch_places (kept ++ b ∷ []) place ≡ branch_places kept place
unfolding branch_places
places-push kept b place below = within-push (suc place) kept b place below

row-push : (kept : List Block) (b : Block) (place : ℕ) (o : OutPoint) → place < length kept → live_row (kept ++ b ∷ []) place o ≡ live_row kept place o
unfolding live_row
row-push kept b place o below =
    ap (λ (blocks : List Block). option_map (row_on (kept ++ b ∷ []) place) (live_cell blocks o)) (branch-push kept b place below)
    ∙ ap (λ (places : List ℕ). option_map (λ (cell : Cell). row_of (slice_index places cell.height) cell) (live_cell (branch kept place) o)) (places-push kept b place below)

tip-below : (kept : List Block) (s : Snapshot) (found : Option Block) → block_at kept s.tip ≡ found → IsSomeAnd found (λ b. block_hash b ≡ s.hash) → s.tip < length kept
tip-below kept s None is has = absurd has
tip-below kept s (Some b) is has = slice_get_within kept s.tip b is

pub stays-of-blocks : StaysOfBlocks
stays-of-blocks kept b s is =
    let below : s.tip < length kept = tip-below kept s (block_at kept s.tip) refl is.tip in
    record {
      tip = subst (λ (found : Option Block). IsSomeAnd found (λ x. block_hash x ≡ s.hash)) (sym (slice_get-before kept (b ∷ []) s.tip below)) is.tip;
      rows = record {
        rising = is.rows.rising;
        each = λ o row. (
          λ has. row-push kept b s.tip o below ∙ (is.rows.each o row).0 has,
          λ found. (is.rows.each o row).1 (sym (row-push kept b s.tip o below) ∙ found),
        );
      };
    }

pub stays-sound : StaysSound
stays-sound kept b area bytes sound gate =
    let it = sound gate in
    (it.0, record { holds = it.1.holds; here = it.1.here; of_blocks = stays-of-blocks kept b it.0 it.1.of_blocks })
