-- Copies that are taken to the places of their rows.
use Rattle.std.proofs.Common.{◌≡◌, ℕ, ◌<◌, List, [], ◌∷◌, length, map, Option, Some, None, refl, sym, ap, ◌∙◌, subst, inl, inr, ◌⊎◌, arith}
use Rattle.std.proofs.lemmas.List.Elements.{All-nil, All-cons, All-head, All-tail}
use Rattle.std.specs.Prelude.{Result, Ok, Err, IfOk, IfSome, IsSomeAnd, slice_get, slice_set, replicate, zero, suc}
use Rattle.std.specs.List.{All, AllZip}
use Rattle.std.proofs.lemmas.Option.{same_Some, slice_get_within}
use Rattle.chain_defs.specs.Schema.{OutPoint, Block}
use Rattle.chain_tree.specs.Told.{Stored, blocks_of}
use Rattle.chain_defs.specs.Cell.{Cell}
use Rattle.chain_defs.specs.Row.{Row}
use Rattle.cell_state.specs.Copies.{ResolvedValue, IsCopyOf, CopiesOutput, NamesOutput, output_in}
use Rattle.cell_state.proofs.CopyLemmas.{named_output}
use Rattle.rule_defs.specs.Site.{Site, Found}
use Rattle.tx_rules.specs.At.{AtValue, IsSiteOf, AreSeen, found_row}
use Rattle.tx_rules.specs.Copying.{IsFoundAt, IsBlockAt, IsCopyOfRow, CopiesItsRow, ServesAgain, AreRowsCopied, HoldsOutput, row_in}
use Rattle.tx_rules.specs.Outcome.{Copies}
use Rattle.tx_rules.proofs.SiteLemmas.{copied-of-kept}

-- ---- A copy out of a kept block that is read

-- the output that a row names in the block at its place
pub kept-output : (stored : List Stored) (at : AtValue) (rows : OutPoint → Option Row) (site : Site) (found : Found) (o : OutPoint) (row : Row) (b : Block)
    → at.parent < length at.entries → row.block < length at.entries → IsBlockAt (Some stored) row.block b
    → IsSiteOf stored at rows site → IsFoundAt stored at.parent site found (o, row)
    → output_in b row.transaction o.index ≡ Some (found.cell.output, found.cell.content)
kept-output stored at rows site found o row b placed below at_place is found_at =
    let names : NamesOutput stored o row found.cell = copied-of-kept stored at rows site found o row placed is found_at below in
    let same : names.made.block ≡ b = subst (λ (it : Option Stored). IfSome it (λ made. made.block ≡ b)) names.there at_place in
    ap (λ (block : Block). output_in block row.transaction o.index) (sym same) ∙ named_output stored o row found.cell names

its-block : (told : Option (List Stored)) (place : ℕ) (b : Block) (stored : List Stored) (made : Stored) → IsBlockAt told place b → told ≡ Some stored
    → slice_get stored place ≡ Some made → made.block ≡ b
its-block told place b stored made at_place tells there =
    subst (λ (it : Option Stored). IfSome it (λ found. found.block ≡ b)) there
    (subst (λ (it : Option (List Stored)). IfSome it (λ all. IfSome (slice_get all place) (λ found. found.block ≡ b))) tells at_place)

-- the copy of a kept block's output
kept-one : (told : Option (List Stored)) (at : AtValue) (o : OutPoint) (row : Row) (copy : ResolvedValue) → copy.out_point ≡ o → copy.row ≡ row
    → row.block < length at.entries
    → ((stored : List Stored) (made : Stored) → told ≡ Some stored → slice_get stored row.block ≡ Some made → CopiesOutput (output_in made.block row.transaction o.index) copy)
    → CopiesItsRow told at copy
kept-one told at o row copy its_point its_row below exact =
    let place : copy.row.block ≡ row.block = ap (λ (r : Row). r.block) its_row in
    record {
      block = omega (arith, place, below);
      kept = λ stored made tells there.
          subst (λ (out : OutPoint). CopiesOutput (output_in made.block copy.row.transaction out.index) copy) (sym its_point)
          (subst (λ (r : Row). CopiesOutput (output_in made.block r.transaction o.index) copy) (sym its_row) (exact stored made tells (ap (slice_get stored) (sym place) ∙ there)));
      judged = λ past. absurd (omega (arith, place, below, past));
    }

-- and of one of the block that is judged
judged-one : (told : Option (List Stored)) (at : AtValue) (o : OutPoint) (row : Row) (copy : ResolvedValue) → copy.out_point ≡ o → copy.row ≡ row
    → ((stored : List Stored) → told ≡ Some stored → length stored ≡ length at.entries) → row.block ≡ length at.entries
    → IsSomeAnd at.block (λ b. CopiesOutput (output_in b row.transaction o.index) copy) → CopiesItsRow told at copy
judged-one told at o row copy its_point its_row all past exact =
    let place : copy.row.block ≡ row.block = ap (λ (r : Row). r.block) its_row in
    record {
      block = omega (arith, place, past);
      kept = λ stored made tells there.
          let within = slice_get_within stored copy.row.block made there in
          let long = all stored tells in
          absurd (omega (arith, place, past, within, long));
      judged = λ _.
          subst (λ (out : OutPoint). IsSomeAnd at.block (λ b. CopiesOutput (output_in b copy.row.transaction out.index) copy)) (sym its_point)
          (subst (λ (r : Row). IsSomeAnd at.block (λ b. CopiesOutput (output_in b r.transaction o.index) copy)) (sym its_row) exact);
    }

pub read-copy : (told : Option (List Stored)) (at : AtValue) (o : OutPoint) (row : Row) (b : Block) (copy : ResolvedValue)
    → at.parent < length at.entries → row.block < length at.entries → IsBlockAt told row.block b
    → copy.out_point ≡ o → copy.row ≡ row → HoldsOutput copy → CopiesOutput (output_in b row.transaction o.index) copy
    → ((cell : Cell) → output_in b row.transaction o.index ≡ Some (cell.output, cell.content) → IsCopyOf cell copy)
    → IsCopyOfRow told at (o, row) copy
read-copy told at o row b copy placed below at_place its_point its_row output exact copied = record {
  row = ap (λ (out : OutPoint). (out, copy.row)) its_point ∙ ap (λ (r : Row). (o, r)) its_row;
  output = output;
  of_row = kept-one told at o row copy its_point its_row below (λ stored made tells there.
      subst (λ (block : Block). CopiesOutput (output_in block row.transaction o.index) copy) (sym (its-block told row.block b stored made at_place tells there)) exact);
  copied = λ stored seen site found tells is found_at.
      copied found.cell (kept-output stored at seen site found o row b placed below
      (subst (λ (it : Option (List Stored)). IsBlockAt it row.block b) tells at_place) is found_at);
}

-- ---- To its place

set-one : {X : Type 0} (xs : List X) (i k : ℕ) (x y : X) → slice_get (slice_set xs i x) k ≡ Some y → ((k ≡ i) × (x ≡ y)) ⊎ (slice_get xs k ≡ Some y)
set-one [] i k x y there = inr there
set-one (z ∷ zs) zero zero x y there = inl (refl, same_Some x y there)
set-one (z ∷ zs) zero (suc k) x y there = inr there
set-one (z ∷ zs) (suc i) zero x y there = inr there
set-one (z ∷ zs) (suc i) (suc k) x y there = on (set-one zs i k x y there)
  where
    on : ((k ≡ i) × (x ≡ y)) ⊎ (slice_get zs k ≡ Some y) → ((suc k ≡ suc i) × (x ≡ y)) ⊎ (slice_get zs k ≡ Some y)
    on (inl (at, is)) = inl (ap suc at, is)
    on (inr later) = inr later

-- one more is taken
pub taken-one : (told : Option (List Stored)) (at : AtValue) (rows : List (OutPoint × Row)) (slots : List (Option ResolvedValue)) (i : ℕ) (named : OutPoint × Row)
    (copy : ResolvedValue) → slice_get rows i ≡ Some named → IsCopyOfRow told at named copy → AreRowsCopied told at rows slots
    → AreRowsCopied told at rows (slice_set slots i (Some copy))
taken-one told at rows slots i named copy its is taken k row other here there = on (set-one slots i k (Some copy) (Some other) there)
  where
    on : ((k ≡ i) × (Some copy ≡ Some other)) ⊎ (slice_get slots k ≡ Some (Some other)) → IsCopyOfRow told at row other
    on (inl (place, same)) =
        subst (λ (r : OutPoint × Row). IsCopyOfRow told at r other) (same_Some named row (sym its ∙ ap (slice_get rows) (sym place) ∙ here))
        (subst (λ (c : ResolvedValue). IsCopyOfRow told at named c) (same_Some copy other same) is)
    on (inr later) = taken k row other here later

-- one is given away
pub taken-less : (told : Option (List Stored)) (at : AtValue) (rows : List (OutPoint × Row)) (slots : List (Option ResolvedValue)) (i : ℕ)
    → AreRowsCopied told at rows slots → AreRowsCopied told at rows (slice_set slots i None)
taken-less told at rows slots i taken k row other here there = on (set-one slots i k None (Some other) there)
  where
    on : ((k ≡ i) × (None ≡ Some other)) ⊎ (slice_get slots k ≡ Some (Some other)) → IsCopyOfRow told at row other
    on (inl (place, same)) = absurd (cc)
    on (inr later) = taken k row other here later

-- none is taken at first
pub taken-none : (told : Option (List Stored)) (at : AtValue) (rows : List (OutPoint × Row)) (n : ℕ) → AreRowsCopied told at rows (replicate n None)
taken-none told at rows n i row copy here there = absurd (none n i there)
  where
    none : (n i : ℕ) → slice_get (replicate n None) i ≡ Some (Some copy) → ⊥
    none zero i is = cc
    none (suc n) zero is = cc
    none (suc n) (suc i) is = none n i is

-- ---- A copy that is made at its turn

pub kept-row : {E : Type 0} (told : Option (List Stored)) (at : AtValue) (o : OutPoint) (row : Row) (result : Result ResolvedValue E)
    → IfOk result (λ copy. copy.out_point ≡ o) → IfOk result (λ copy. copy.row ≡ row) → row.block < length at.entries
    → ((stored : List Stored) (made : Stored) → told ≡ Some stored → slice_get stored row.block ≡ Some made → IfOk result (CopiesOutput (output_in made.block row.transaction o.index)))
    → IfOk result (CopiesItsRow told at)
kept-row told at o row (Err e) its_point its_row below exact = tt
kept-row told at o row (Ok copy) its_point its_row below exact = kept-one told at o row copy its_point its_row below exact

pub judged-row : {E : Type 0} (told : Option (List Stored)) (at : AtValue) (o : OutPoint) (row : Row) (result : Result ResolvedValue E)
    → IfOk result (λ copy. copy.out_point ≡ o) → IfOk result (λ copy. copy.row ≡ row)
    → ((stored : List Stored) → told ≡ Some stored → length stored ≡ length at.entries) → row.block ≡ length at.entries
    → IfOk result (λ copy. IsSomeAnd at.block (λ b. CopiesOutput (output_in b row.transaction o.index) copy)) → IfOk result (CopiesItsRow told at)
judged-row told at o row (Err e) its_point its_row all past exact = tt
judged-row told at o row (Ok copy) its_point its_row all past exact = judged-one told at o row copy its_point its_row all past exact

pub row-copy : {E : Type 0} (told : Option (List Stored)) (at : AtValue) (o : OutPoint) (row : Row) (result : Result ResolvedValue E)
    → IfOk result (λ copy. copy.out_point ≡ o) → IfOk result (λ copy. copy.row ≡ row) → IfOk result HoldsOutput → IfOk result (CopiesItsRow told at)
    → ((stored : List Stored) (seen : OutPoint → Option Row) (site : Site) (found : Found) → told ≡ Some stored → IsSiteOf stored at seen site
    → IsFoundAt stored at.parent site found (o, row) → IfOk result (IsCopyOf found.cell))
    → IfOk result (IsCopyOfRow told at (o, row))
row-copy told at o row (Err e) its_point its_row output of_row copied = tt
row-copy told at o row (Ok copy) its_point its_row output of_row copied = record {
  row = ap (λ (out : OutPoint). (out, copy.row)) its_point ∙ ap (λ (r : Row). (o, r)) its_row;
  output = output;
  of_row = of_row;
  copied = copied;
}

-- ---- Copies of all rows

pub copies-rows : (told : Option (List Stored)) (at : AtValue) (rows : List (OutPoint × Row)) (copies : List ResolvedValue)
    → AllZip (IsCopyOfRow told at) rows copies → map row_in copies ≡ rows
copies-rows told at [] [] each = refl
copies-rows told at [] (c ∷ cs) each = absurd each
copies-rows told at (r ∷ rs) [] each = absurd each
copies-rows told at (r ∷ rs) (c ∷ cs) each =
    ap (λ (front : OutPoint × Row). front ∷ map row_in cs) each.0.row ∙ ap (λ (later : List (OutPoint × Row)). r ∷ later) (copies-rows told at rs cs each.1)

pub copies-outputs : (told : Option (List Stored)) (at : AtValue) (rows : List (OutPoint × Row)) (copies : List ResolvedValue)
    → AllZip (IsCopyOfRow told at) rows copies → All HoldsOutput copies
copies-outputs told at [] [] each = All-nil HoldsOutput
copies-outputs told at [] (c ∷ cs) each = absurd each
copies-outputs told at (r ∷ rs) [] each = absurd each
copies-outputs told at (r ∷ rs) (c ∷ cs) each = All-cons HoldsOutput c cs each.0.output (copies-outputs told at rs cs each.1)

pub copies-of-rows : (told : Option (List Stored)) (at : AtValue) (rows : List (OutPoint × Row)) (copies : List ResolvedValue)
    → AllZip (IsCopyOfRow told at) rows copies → All (CopiesItsRow told at) copies
copies-of-rows told at [] [] each = All-nil (CopiesItsRow told at)
copies-of-rows told at [] (c ∷ cs) each = absurd each
copies-of-rows told at (r ∷ rs) [] each = absurd each
copies-of-rows told at (r ∷ rs) (c ∷ cs) each = All-cons (CopiesItsRow told at) c cs each.0.of_row (copies-of-rows told at rs cs each.1)

pub copies-cells : (stored : List Stored) (at : AtValue) (seen : OutPoint → Option Row) (site : Site) (founds : List Found) (rows : List (OutPoint × Row))
    (copies : List ResolvedValue) → IsSiteOf stored at seen site → AreSeen site founds → rows ≡ map (found_row (blocks_of stored) at.parent) founds
    → AllZip (IsCopyOfRow (Some stored) at) rows copies → AllZip (Copies (blocks_of stored) at.parent) founds copies
copies-cells stored at seen site founds rows copies is are_seen are each =
    go founds copies are_seen (subst (λ (rs : List (OutPoint × Row)). AllZip (IsCopyOfRow (Some stored) at) rs copies) are each)
  where
    go : (fs : List Found) (cs : List ResolvedValue) → AreSeen site fs → AllZip (IsCopyOfRow (Some stored) at) (map (found_row (blocks_of stored) at.parent) fs) cs
        → AllZip (Copies (blocks_of stored) at.parent) fs cs
    go [] [] fs_seen zipped = tt
    go [] (c ∷ cs) fs_seen zipped = absurd zipped
    go (f ∷ fs) [] fs_seen zipped = absurd zipped
    go (f ∷ fs) (c ∷ cs) fs_seen zipped = (
      record {
        row = zipped.0.row;
        bytes = zipped.0.copied stored seen site f refl is (record {
          seen = All-head (λ (found : Found). site.cell found.out_point ≡ Some found.cell) f fs fs_seen;
          its_row = refl;
        });
      },
      go fs cs (All-tail (λ (found : Found). site.cell found.out_point ≡ Some found.cell) f fs fs_seen) zipped.1,
    )

-- ---- The current block

-- it is the one at its place, where something is known
pub hand-block : (told now : Option (List Stored)) (hand : Option ℕ) (place : ℕ) (view : Block) → now ≡ told → hand ≡ Some place
    → IfSome now (λ stored. IfSome hand (λ e. IfSome (slice_get stored e) (λ it. view ≡ it.block))) → IsBlockAt told place view
hand-block told now hand place view same in_hand of_hand =
    by_told told (subst (λ (t : Option (List Stored)). IfSome t (λ stored. IfSome (slice_get stored place) (λ it. view ≡ it.block))) same
    (subst (λ (h : Option ℕ). IfSome now (λ stored. IfSome h (λ e. IfSome (slice_get stored e) (λ it. view ≡ it.block)))) in_hand of_hand))
  where
    by_made : (made : Option Stored) → IfSome made (λ it. view ≡ it.block) → IfSome made (λ it. it.block ≡ view)
    by_made None is = tt
    by_made (Some made) is = sym is

    by_told : (t : Option (List Stored)) → IfSome t (λ stored. IfSome (slice_get stored place) (λ it. view ≡ it.block)) → IsBlockAt t place view
    by_told None is = tt
    by_told (Some stored) is = by_made (slice_get stored place) is

-- the copy that is taken at a place is its row's
pub taken-here : (told : Option (List Stored)) (at : AtValue) (rows : List (OutPoint × Row)) (slots : List (Option ResolvedValue)) (i : ℕ) (named : OutPoint × Row)
    (slot : Option ResolvedValue) → AreRowsCopied told at rows slots → slice_get rows i ≡ Some named → slice_get slots i ≡ Some slot
    → IfSome slot (IsCopyOfRow told at named)
taken-here told at rows slots i named None taken here there = tt
taken-here told at rows slots i named (Some copy) taken here there = taken i named copy here there

-- ---- Copies that were made before

-- each serves again
pub copies-again : (told : Option (List Stored)) (at : AtValue) (rows : List (OutPoint × Row)) (copies : List ResolvedValue)
    → AllZip (IsCopyOfRow told at) rows copies → All (ServesAgain told at) copies
copies-again told at [] [] each = All-nil (ServesAgain told at)
copies-again told at [] (c ∷ cs) each = absurd each
copies-again told at (r ∷ rs) [] each = absurd each
copies-again told at (r ∷ rs) (c ∷ cs) each =
    All-cons (ServesAgain told at) c cs (subst (λ (named : OutPoint × Row). IsCopyOfRow told at named c) (sym each.0.row) each.0) (copies-again told at rs cs each.1)

-- one is taken where it is that of the row there
pub taken-again : (told : Option (List Stored)) (at : AtValue) (rows : List (OutPoint × Row)) (slots : List (Option ResolvedValue)) (i : ℕ) (named : OutPoint × Row)
    (copy : ResolvedValue) → slice_get rows i ≡ Some named → row_in copy ≡ named → ServesAgain told at copy → AreRowsCopied told at rows slots
    → AreRowsCopied told at rows (slice_set slots i (Some copy))
taken-again told at rows slots i named copy here is again taken =
    taken-one told at rows slots i named copy here (subst (λ (row : OutPoint × Row). IsCopyOfRow told at row copy) is again) taken
