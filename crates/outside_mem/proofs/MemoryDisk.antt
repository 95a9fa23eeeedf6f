-- What the steps of a disk in memory leave, from above and from below.
use Rattle.std.proofs.Common.{◌≡◌, inl, inr, ℕ, ◌+◌, ◌≤◌, List, [], ◌∷◌, ◌++◌, Bool, true, false, Some, Result, Ok, Err, map, reverse, length, take, refl, sym, ◌∙◌, ap, subst, arith, if◌then◌else◌}
use Rattle.std.specs.Prelude.{nat_le, OnOk, OnErr}
use Rattle.std.proofs.lemmas.Bool.Decides.{nat_tests}
use Rattle.std.proofs.lemmas.List.{map-append, reverse-append}
use Rattle.outside.specs.declared.disk.Area.{Area}
use Rattle.outside_mem.specs.declared.history.Recorded.{Recorded}
use Rattle.outside.specs.Image.{Image, content, InArea}
use Rattle.outside.specs.Disk.{write_area, Torn, Cut, Follows, OthersRead}
use Rattle.outside_mem.specs.MemoryDisk.{Step, Wrote, Shortened, Synced, Crashed, reads, Leaves, MayLeave, LeavesExactly, FailsInPart, WritesInPart, step_of, steps_of}
use Rattle.outside.proofs.Images.{own_content}
use Rattle.outside.proofs.Torn.{torn_same, tears_to_the_written, cuts_to_any_length}

-- one call more
pub steps_of-push : (recorded : List Recorded) (one : Recorded) → steps_of (recorded ++ one ∷ []) ≡ step_of one ∷ steps_of recorded
steps_of-push recorded one = ap reverse (map-append step_of recorded (one ∷ [])) ∙ reverse-append (map step_of recorded) (step_of one ∷ [])

-- what is read after a write is among what it may leave
read_torn : (area : Area) (at : ℕ) (piece : List ℕ) (lost : ℕ) (image : Image) (test : Bool) → nat_le at (length (content area image)) ≡ test
    → InArea area (Torn at (length piece + lost)) image (if test then write_area area at piece image else image)
read_torn area at piece lost image true is =
    let within : at ≤ length (content area image) = grind (arith, nat_tests) in
    (_, tears_to_the_written at lost piece (content area image) within, refl)
read_torn area at piece lost image false is = (content area image, torn_same at (length piece + lost) (content area image), own_content area image)

pub reads_leave : (steps : List Step) → Leaves steps (reads steps)
reads_leave [] = refl
reads_leave (Wrote area at piece lost ∷ earlier) = (reads earlier, reads_leave earlier, read_torn area at piece lost (reads earlier) (nat_le at (length (content area (reads earlier)))) refl)
reads_leave (Shortened area len left ∷ earlier) =
    (reads earlier, reads_leave earlier, (take (len + left) (content area (reads earlier)), cuts_to_any_length len (len + left) (content area (reads earlier)) (omega arith), refl))
reads_leave (Synced area ∷ earlier) = (reads_leave earlier, refl)
reads_leave (Crashed left ∷ earlier) = refl

pub leaves : (steps : List Step) (image : Image) → MayLeave steps image → Leaves steps image
leaves steps image (inl now) = subst (Leaves steps) (sym now) (reads_leave steps)
leaves steps image (inr left) = left

pub write_exact : (steps : List Step) (area : Area) (at : ℕ) (piece : List ℕ) (lost : ℕ)
    → LeavesExactly (InArea area (Torn at (length piece + lost))) steps (Wrote area at piece lost ∷ steps)
write_exact steps area at piece lost image = (
  λ left. let torn = leaves (Wrote area at piece lost ∷ steps) image left in (torn.0, inr torn.1, torn.2),
  λ from. inr (from.0, leaves steps from.0 from.1, from.2),
)

pub cut_exact : (steps : List Step) (area : Area) (len left : ℕ) → LeavesExactly (InArea area (Cut len)) steps (Shortened area len left ∷ steps)
cut_exact steps area len left image = (
  λ may. let cut = leaves (Shortened area len left ∷ steps) image may in (cut.0, inr cut.1, cut.2),
  λ from. inr (from.0, leaves steps from.0 from.1, from.2),
)

-- the same, where the size of the call is known otherwise
pub write_exact_of : (steps : List Step) (area : Area) (at : ℕ) (piece : List ℕ) (lost size : ℕ) → length piece + lost ≡ size
    → LeavesExactly (InArea area (Torn at size)) steps (Wrote area at piece lost ∷ steps)
write_exact_of steps area at piece lost size is = subst (λ (n : ℕ). LeavesExactly (InArea area (Torn at n)) steps (Wrote area at piece lost ∷ steps)) is (write_exact steps area at piece lost)

write_others : (steps : List Step) (area : Area) (at : ℕ) (piece : List ℕ) (lost : ℕ) → OthersRead area (Some (reads steps)) (Some (reads (Wrote area at piece lost ∷ steps)))
write_others steps area at piece lost =
    let torn = read_torn area at piece lost (reads steps) (nat_le at (length (content area (reads steps)))) refl in
    (torn.0, ap Some torn.2)

cut_others : (steps : List Step) (area : Area) (len left : ℕ) → OthersRead area (Some (reads steps)) (Some (reads (Shortened area len left ∷ steps)))
cut_others steps area len left = (take (len + left) (content area (reads steps)), refl)

-- a call that was to fail made this step, or none
module _ {E : Type 0} (old new : List Step) (made : Step) (area : Area) where
  pub fails_in_part : (relation : List ℕ → List ℕ → Type 0) (result : Result (Unit {0}) E) → OnOk result (new ≡ made ∷ old) → OnErr result (new ≡ old)
      → LeavesExactly (InArea area relation) old (made ∷ old) → FailsInPart (InArea area relation) old new
  fails_in_part relation (Ok _) one none exact = inr (made, one, subst (λ (steps : List Step). LeavesExactly (InArea area relation) old steps) (sym one) exact)
  fails_in_part relation (Err _) one none exact = inl none

  fails_others : (result : Result (Unit {0}) E) → OnOk result (new ≡ made ∷ old) → OnErr result (new ≡ old)
      → OthersRead area (Some (reads old)) (Some (reads (made ∷ old))) → OthersRead area (Some (reads old)) (Some (reads new))
  fails_others (Ok _) one none others = subst (λ (steps : List Step). OthersRead area (Some (reads old)) (Some (reads steps))) (sym one) others
  fails_others (Err _) one none others = (content area (reads old), ap (λ (steps : List Step). Some (reads steps)) none ∙ ap Some (own_content area (reads old)))

module _ (area : Area) (relation : List ℕ → List ℕ → Type 0) (same : (bytes : List ℕ) → relation bytes bytes) where
  pub follows_in_part : (old new : List Step) → FailsInPart (InArea area relation) old new → Follows (InArea area relation) (MayLeave old) (MayLeave new)
  follows_in_part old new (inl none) image left =
      (image, subst (λ (steps : List Step). MayLeave steps image) none left, (content area image, same (content area image), own_content area image))
  follows_in_part old new (inr part) image left = (part.2 image).0 left

pub fails_cut_others : {E : Type 0} (old new : List Step) (area : Area) (len left : ℕ) (result : Result (Unit {0}) E)
    → OnOk result (new ≡ Shortened area len left ∷ old) → OnErr result (new ≡ old) → OthersRead area (Some (reads old)) (Some (reads new))
fails_cut_others old new area len left result one none =
    fails_others old new (Shortened area len left) area result one none (cut_others old area len left)

-- a call that made no step
pub others_same : (area : Area) (old new : List Step) → new ≡ old → OthersRead area (Some (reads old)) (Some (reads new))
others_same area old new none = (content area (reads old), ap (λ (steps : List Step). Some (reads steps)) none ∙ ap Some (own_content area (reads old)))

-- a write that was to fail wrote some bytes, or none
pub writes_in_part : {E : Type 0} (old new : List Step) (area : Area) (at size : ℕ) (result : Result (Unit {0}) E)
    → OnOk result (WritesInPart area at size old new) → OnErr result (new ≡ old) → FailsInPart (InArea area (Torn at size)) old new
writes_in_part old new area at size (Ok _) (made, lost, sum, one) none =
    inr (Wrote area at made lost, one, subst (λ (steps : List Step). LeavesExactly (InArea area (Torn at size)) old steps) (sym one) (write_exact_of old area at made lost size sum))
writes_in_part old new area at size (Err _) one none = inl none

pub writes_others : {E : Type 0} (old new : List Step) (area : Area) (at size : ℕ) (result : Result (Unit {0}) E)
    → OnOk result (WritesInPart area at size old new) → OnErr result (new ≡ old) → OthersRead area (Some (reads old)) (Some (reads new))
writes_others old new area at size (Ok _) (made, lost, sum, one) none =
    subst (λ (steps : List Step). OthersRead area (Some (reads old)) (Some (reads steps))) (sym one) (write_others old area at made lost)
writes_others old new area at size (Err _) one none = others_same area old new none
