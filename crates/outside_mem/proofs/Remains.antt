-- What is stored of each area stands for the steps, and a crash may leave each long enough prefix of it, with other bytes in
-- its writes.
use Rattle.std.proofs.Common.{◌≡◌, ◌⊎◌, inl, inr, ℕ, ◌+◌, ◌%◌, ◌<◌, ◌≤◌, min, max, List, [], ◌∷◌, ◌++◌, Bool, true, false, length, take, drop, slice_set, refl, sym, ◌∙◌, ap, subst, arith, if◌then◌else◌, length-append, length-drop}
use Rattle.std.specs.Prelude.{nat_le}
use Rattle.std.proofs.lemmas.Bool.Decides.{nat_tests}
use Rattle.std.proofs.lemmas.List.{take_all, length-take-le}
use Rattle.outside.specs.declared.disk.Area.{Area}
use Rattle.outside.specs.declared.disk.Area.TheVariants.{Log, SnapA, SnapB}
use Rattle.outside.specs.Image.{Image, content, with_content, InArea}
use Rattle.outside.specs.Disk.{written, write_area, Torn, Cut, ComesBy, AreaKept}
use Rattle.outside.proofs.Torn.{torn_same, cut_same, tears_to_the_written}
use Rattle.outside_mem.specs.declared.history.Recorded.{Recorded}
use Rattle.outside_mem.specs.Stored.{Stored, Parts, part, with_part, shown, image_of, nothing, after_write, after_cut, IsSettled}
use Rattle.outside_mem.specs.MemoryDisk.{Step, Wrote, Shortened, Synced, Crashed, empty, reads, Leaves, IsPick, step_of, steps_of}
use Rattle.outside_mem.specs.Remains.{LeftBy, LeavesIn, HoldsIn, Holds, MayTear}
use Rattle.outside_mem.proofs.MemoryDisk.{steps_of-push, leaves}
use Rattle.outside_mem.proofs.OtherBytes.{torn_both, torn_again, cut_both, torn_prefix, cut_front, take_take, shown_written}

-- ---- Images by their areas

abbrev number : Area → ℕ
number Log = 0
number SnapA = 1
number SnapB = 2

own : (area : Area) (bytes : List ℕ) (image : Image) → content area (with_content area bytes image) ≡ bytes
own Log bytes image = refl
own SnapA bytes image = refl
own SnapB bytes image = refl

restored : (area : Area) (bytes : List ℕ) (image : Image) → image ≡ with_content area (content area image) (with_content area bytes image)
restored Log bytes image = refl
restored SnapA bytes image = refl
restored SnapB bytes image = refl

same_or_kept : (area other : Area) (bytes : List ℕ) (image : Image) → (other ≡ area) ⊎ AreaKept area image (with_content other bytes image)
same_or_kept Log Log bytes image = inl refl
same_or_kept Log SnapA bytes image = inr refl
same_or_kept Log SnapB bytes image = inr refl
same_or_kept SnapA Log bytes image = inr refl
same_or_kept SnapA SnapA bytes image = inl refl
same_or_kept SnapA SnapB bytes image = inr refl
same_or_kept SnapB Log bytes image = inr refl
same_or_kept SnapB SnapA bytes image = inr refl
same_or_kept SnapB SnapB bytes image = inl refl

same_image : (image now : Image) → ((area : Area) → content area image ≡ content area now) → image ≡ now
same_image image now each = λ i. record { log = each Log i; snap_a = each SnapA i; snap_b = each SnapB i }

empty_in : (area : Area) → content area empty ≡ []
empty_in Log = refl
empty_in SnapA = refl
empty_in SnapB = refl

-- ---- What the steps leave of an image is what they leave of each area

from_before : (relation : List ℕ → List ℕ → Type 0) → ((bytes : List ℕ) → relation bytes bytes) → (left : List ℕ → Type 0) (area other : Area) (bytes : List ℕ)
    → LeftBy area other relation left bytes → (before : List ℕ) × left before × relation before bytes
from_before relation same left area other bytes (inl is) = (bytes, is, same bytes)
from_before relation same left area other bytes (inr by) = by.1

comes_by : (steps : List Step) (other : Area) (relation : List ℕ → List ℕ → Type 0) → ((bytes : List ℕ) → relation bytes bytes) → (image : Image)
    → ((area : Area) → LeftBy area other relation (LeavesIn area steps) (content area image))
    → ((before : Image) → ((area : Area) → LeavesIn area steps (content area before)) → Leaves steps before)
    → ComesBy (InArea other relation) (Leaves steps) image
comes_by steps other relation same image each joined =
    let from : (before : List ℕ) × LeavesIn other steps before × relation before (content other image)
    = from_before relation same (LeavesIn other steps) other other (content other image) (each other) in
    let before : Image = with_content other from.0 image in
    let here : LeavesIn other steps (content other before) = subst (LeavesIn other steps) (sym (own other from.0 image)) from.1 in
    let also : (area : Area) → other ≡ area → LeavesIn area steps (content area before)
    = λ area is. subst (λ (a : Area). LeavesIn a steps (content a before)) is here in
    let all : (area : Area) → LeavesIn area steps (content area before) = λ area. elim (same_or_kept area other from.0 image) [
      | inl is ↦ also area is
      | inr kept ↦ elim (each area) [
        | inl left ↦ subst (LeavesIn area steps) (sym kept) left
        | inr by ↦ also area by.0
      ]
    ] in
    (before, joined before all, (content other image, subst (λ (bytes : List ℕ). relation bytes (content other image)) (sym (own other from.0 image)) from.2, restored other from.0 image))

leaves_each : (steps : List Step) (image : Image) → ((area : Area) → LeavesIn area steps (content area image)) → Leaves steps image
leaves_each [] image each = same_image image empty (λ area. each area ∙ sym (empty_in area))
leaves_each (Wrote other at piece lost ∷ earlier) image each =
    comes_by earlier other (Torn at (length piece + lost)) (torn_same at (length piece + lost)) image each (leaves_each earlier)
leaves_each (Shortened other len left ∷ earlier) image each = comes_by earlier other (Cut len) (cut_same len) image each (leaves_each earlier)
leaves_each (Synced other ∷ earlier) image each = (leaves_each earlier image (λ area. (each area).1), (each other).0 refl)
leaves_each (Crashed left ∷ earlier) image each = same_image image left each

-- and the other way
step_leaves : (steps : List Step) (area other : Area) (relation : List ℕ → List ℕ → Type 0) (before image : Image) → LeavesIn area steps (content area before)
    → InArea other relation before image → LeftBy area other relation (LeavesIn area steps) (content area image)
step_leaves steps area other relation before image left (bytes, step, is) = elim (same_or_kept area other bytes before) [
  | inl same ↦ inr (
    same,
    (
      content area before,
      left,
      subst (λ (a : Area). relation (content a before) (content a image)) same
          (subst (relation (content other before)) (sym (ap (content other) is ∙ own other bytes before)) step),
    ),
  )
  | inr kept ↦ inl (subst (LeavesIn area steps) (sym (ap (content area) is ∙ kept)) left)
]

each_leaves : (steps : List Step) (image : Image) → Leaves steps image → (area : Area) → LeavesIn area steps (content area image)
each_leaves [] image left area = ap (content area) left ∙ empty_in area
each_leaves (Wrote other at piece lost ∷ earlier) image (before, left, step) area =
    step_leaves earlier area other (Torn at (length piece + lost)) before image (each_leaves earlier before left area) step
each_leaves (Shortened other len more ∷ earlier) image (before, left, step) area =
    step_leaves earlier area other (Cut len) before image (each_leaves earlier before left area) step
each_leaves (Synced other ∷ earlier) image (left, same) area =
    (λ is. subst (λ (a : Area). content a image ≡ content a (reads earlier)) is same, each_leaves earlier image left area)
each_leaves (Crashed now ∷ earlier) image is area = ap (content area) is

-- ---- Each step keeps what is stored

no_less_written : (area other : Area) (at size least : ℕ) (left : List ℕ → Type 0) → ((bytes : List ℕ) → left bytes → least ≤ length bytes)
    → (bytes : List ℕ) → LeftBy area other (Torn at size) left bytes → least ≤ length bytes
no_less_written area other at size least left none bytes (inl is) = none bytes is
no_less_written area other at size least left none bytes (inr (same, (before, was, torn))) = omega (arith, none before was, torn.no_shorter)

no_less_cut : (area other : Area) (len least : ℕ) (left : List ℕ → Type 0) → ((bytes : List ℕ) → left bytes → least ≤ length bytes)
    → (bytes : List ℕ) → LeftBy area other (Cut len) left bytes → min least len ≤ length bytes
no_less_cut area other len least left none bytes (inl is) = omega (arith, none bytes is)
no_less_cut area other len least left none bytes (inr (same, (before, was, cut))) = omega (arith, none before was, cut.no_shorter)

no_less_beside : (area other : Area) (relation : List ℕ → List ℕ → Type 0) (least : ℕ) (left : List ℕ → Type 0) → (other ≡ area → ⊥)
    → ((bytes : List ℕ) → left bytes → least ≤ length bytes) → (bytes : List ℕ) → LeftBy area other relation left bytes → least ≤ length bytes
no_less_beside area other relation least left apart none bytes (inl is) = none bytes is
no_less_beside area other relation least left apart none bytes (inr by) = absurd (apart by.0)

written_long : (at len : ℕ) (piece bytes : List ℕ) → at ≤ len → len ≤ length bytes → max len (at + length piece) ≤ length (written at piece bytes)
written_long at len piece bytes in_shown within = omega (
  arith,
  in_shown,
  within,
  length-append (take at bytes ++ piece) (drop (at + length piece) bytes),
  length-append (take at bytes) piece,
  length-take-le at bytes (omega (arith, in_shown, within)),
  length-drop (at + length piece) bytes,
)

read_written : (area : Area) (at : ℕ) (piece : List ℕ) (image : Image) (test : Bool) → nat_le at (length (content area image)) ≡ test
    → at ≤ length (content area image) → content area (if test then write_area area at piece image else image) ≡ written at piece (content area image)
read_written area at piece image true is within = own area (written at piece (content area image)) image
read_written area at piece image false is within = let none : ⊥ = grind (arith, nat_tests) in absurd none

read_other : (area other : Area) (bytes : List ℕ) (image : Image) (test : Bool) → AreaKept area image (with_content other bytes image)
    → content area (if test then with_content other bytes image else image) ≡ content area image
read_other area other bytes image true kept = kept
read_other area other bytes image false kept = refl

shown_length : (area : Area) (steps : List Step) (stored : Stored) → HoldsIn area steps stored → length (content area (reads steps)) ≡ stored.len
shown_length area steps stored holds = ap length (sym holds.as_read) ∙ length-take-le stored.len stored.bytes holds.within

hold_write : (area : Area) (steps : List Step) (stored : Stored) (at : ℕ) (piece : List ℕ) (lost : ℕ) → at ≤ stored.len → HoldsIn area steps stored
    → HoldsIn area (Wrote area at piece lost ∷ steps) (after_write at piece stored)
hold_write area steps stored at piece lost in_shown holds = record {
  as_read = shown_written at stored.len piece stored.bytes in_shown holds.within ∙ ap (written at piece) holds.as_read
      ∙ sym (read_written area at piece (reads steps) (nat_le at (length (content area (reads steps)))) refl (omega (arith, in_shown, shown_length area steps stored holds)));
  at_least = omega (arith, holds.at_least);
  within = written_long at stored.len piece stored.bytes in_shown holds.within;
  leaves = λ kept enough. inr (
    refl,
    (
      take kept stored.bytes,
      holds.leaves kept enough,
      torn_prefix at (length piece + lost) kept stored.bytes (written at piece stored.bytes) (tears_to_the_written at lost piece stored.bytes (omega (arith, in_shown, holds.within))),
    ),
  );
  no_less = no_less_written area area at (length piece + lost) stored.least (LeavesIn area steps) holds.no_less;
}

hold_cut : (area : Area) (steps : List Step) (stored : Stored) (len left : ℕ) → HoldsIn area steps stored
    → HoldsIn area (Shortened area len left ∷ steps) (after_cut len left stored)
hold_cut area steps stored len left holds = record {
  as_read = take_take (len + left) stored.len stored.bytes ∙ ap (take (len + left)) holds.as_read ∙ sym (own area (take (len + left) (content area (reads steps))) (reads steps));
  at_least = omega (arith, holds.at_least);
  within = omega (arith, holds.within);
  leaves = λ kept enough. inr (refl, (take (max stored.least kept) stored.bytes, holds.leaves (max stored.least kept) (omega arith), cut_front len stored.least kept stored.bytes enough));
  no_less = no_less_cut area area len stored.least (LeavesIn area steps) holds.no_less;
}

-- what a step in one area does to what is stored of another
abbrev Frames : Area → List Step → Step → Type 0
Frames area steps step = (other : Area) (stored : Stored) → (area ≡ other → ⊥) → ((bytes : List ℕ) (image : Image) → AreaKept other image (with_content area bytes image))
    → HoldsIn other steps stored → HoldsIn other (step ∷ steps) stored

frame_write : (area : Area) (steps : List Step) (at : ℕ) (piece : List ℕ) (lost : ℕ) → Frames area steps (Wrote area at piece lost)
frame_write area steps at piece lost other stored apart kept holds = record {
  as_read = holds.as_read ∙ sym (read_other other area (written at piece (content area (reads steps))) (reads steps) (nat_le at (length (content area (reads steps)))) (kept (written at piece (content area (reads steps))) (reads steps)));
  at_least = holds.at_least;
  within = holds.within;
  leaves = λ n enough. inl (holds.leaves n enough);
  no_less = no_less_written other area at (length piece + lost) stored.least (LeavesIn other steps) holds.no_less;
}

frame_cut : (area : Area) (steps : List Step) (len left : ℕ) → Frames area steps (Shortened area len left)
frame_cut area steps len left other stored apart kept holds = record {
  as_read = holds.as_read ∙ sym (kept (take (len + left) (content area (reads steps))) (reads steps));
  at_least = holds.at_least;
  within = holds.within;
  leaves = λ n enough. inl (holds.leaves n enough);
  no_less = no_less_beside other area (Cut len) stored.least (LeavesIn other steps) apart holds.no_less;
}

hold_all : (steps : List Step) (step : Step) (area : Area) (parts : Parts) (stored : Stored) → Holds steps parts → HoldsIn area (step ∷ steps) stored → Frames area steps step
    → Holds (step ∷ steps) (with_part area stored parts)
hold_all steps step Log parts stored holds new frame Log = new
hold_all steps step Log parts stored holds new frame SnapA = frame SnapA parts.snap_a (λ is. absurd (omega (arith, ap number is))) (λ bytes image. refl) (holds SnapA)
hold_all steps step Log parts stored holds new frame SnapB = frame SnapB parts.snap_b (λ is. absurd (omega (arith, ap number is))) (λ bytes image. refl) (holds SnapB)
hold_all steps step SnapA parts stored holds new frame Log = frame Log parts.log (λ is. absurd (omega (arith, ap number is))) (λ bytes image. refl) (holds Log)
hold_all steps step SnapA parts stored holds new frame SnapA = new
hold_all steps step SnapA parts stored holds new frame SnapB = frame SnapB parts.snap_b (λ is. absurd (omega (arith, ap number is))) (λ bytes image. refl) (holds SnapB)
hold_all steps step SnapB parts stored holds new frame Log = frame Log parts.log (λ is. absurd (omega (arith, ap number is))) (λ bytes image. refl) (holds Log)
hold_all steps step SnapB parts stored holds new frame SnapA = frame SnapA parts.snap_a (λ is. absurd (omega (arith, ap number is))) (λ bytes image. refl) (holds SnapA)
hold_all steps step SnapB parts stored holds new frame SnapB = new

pub write_holds : (steps : List Step) (area : Area) (at : ℕ) (piece : List ℕ) (lost : ℕ) (parts : Parts) → at ≤ length (content area (reads steps)) → Holds steps parts
    → Holds (Wrote area at piece lost ∷ steps) (with_part area (after_write at piece (part area parts)) parts)
write_holds steps area at piece lost parts within holds =
    let in_shown : at ≤ (part area parts).len = omega (arith, within, shown_length area steps (part area parts) (holds area)) in
    hold_all steps (Wrote area at piece lost) area parts (after_write at piece (part area parts)) holds
    (hold_write area steps (part area parts) at piece lost in_shown (holds area)) (frame_write area steps at piece lost)

pub cut_holds : (steps : List Step) (area : Area) (len left : ℕ) (parts : Parts) → Holds steps parts
    → Holds (Shortened area len left ∷ steps) (with_part area (after_cut len left (part area parts)) parts)
cut_holds steps area len left parts holds =
    hold_all steps (Shortened area len left) area parts (after_cut len left (part area parts)) holds
    (hold_cut area steps (part area parts) len left (holds area)) (frame_cut area steps len left)

-- ---- At first, and after a crash

abbrev no_parts : Parts
no_parts = record { log = nothing; snap_a = nothing; snap_b = nothing }

hold_nothing : (area : Area) → content area empty ≡ [] → HoldsIn area [] nothing
hold_nothing area is = record {
  as_read = take_all 0 [] (omega arith) ∙ sym is;
  at_least = omega arith;
  within = omega arith;
  leaves = λ kept enough. take_all kept [] (omega arith);
  no_less = λ bytes is. omega arith;
}

pub starts : Holds [] no_parts
starts Log = hold_nothing Log refl
starts SnapA = hold_nothing SnapA refl
starts SnapB = hold_nothing SnapB refl

shown_of : (area : Area) (parts : Parts) → content area (image_of parts) ≡ shown (part area parts)
shown_of Log parts = refl
shown_of SnapA parts = refl
shown_of SnapB parts = refl

all_shown : (stored : Stored) → IsSettled stored → shown stored ≡ stored.bytes
all_shown stored settled = take_all stored.len stored.bytes (omega (arith, settled.0))

pub crash_leaves : (steps : List Step) (parts : Parts) → ((area : Area) → LeavesIn area steps (part area parts).bytes) → ((area : Area) → IsSettled (part area parts))
    → Leaves steps (image_of parts)
crash_leaves steps parts left settled =
    leaves_each steps (image_of parts) (λ area. subst (LeavesIn area steps) (sym (shown_of area parts ∙ all_shown (part area parts) (settled area))) (left area))

-- what a crash leaves by its choice
pub crash_picks : (steps : List Step) (old new : Parts) (pick : ℕ) → Holds steps old → Leaves steps (image_of new) → ((area : Area) → IsSettled (part area new))
    → ((area : Area) → pick % 4 ≡ 0 → (part area new).bytes ≡ shown (part area old)) → ((area : Area) → pick % 4 ≡ 1 → length (part area new).bytes ≡ (part area old).least)
    → IsPick steps pick (image_of new)
crash_picks steps old new pick holds left settled as_read least = record {
  among = inr left;
  as_read = λ none. same_image (image_of new) (reads steps) (λ area. whole area ∙ as_read area none ∙ (holds area).as_read);
  least = λ one area image may.
      let size : length (content area (image_of new)) ≡ (part area old).least = ap length (whole area) ∙ least area one in
      omega (arith, size, (holds area).no_less (content area image) (each_leaves steps image (leaves steps image may) area));
}
  where
    whole : (area : Area) → content area (image_of new) ≡ (part area new).bytes
    whole area = shown_of area new ∙ all_shown (part area new) (settled area)

-- where no call was made
pub empty_picks : (steps : List Step) (pick : ℕ) → steps ≡ [] → IsPick steps pick (reads steps)
empty_picks steps pick none = subst (λ (l : List Step). IsPick l pick (reads l)) (sym none) (record {
  among = inl refl;
  as_read = λ zero. refl;
  least = λ one area image may. omega (arith, ap length (empty_in area));
})

-- ---- Other bytes in a write

pub tears_write : (area other : Area) (earlier : List Step) (at : ℕ) (piece : List ℕ) (lost i : ℕ) → other ≡ area → at ≤ i → i < at + (length piece + lost)
    → MayTear area (Wrote other at piece lost ∷ earlier) i
tears_write area other earlier at piece lost i is from to bytes byte (inl left) =
    inr (is, (bytes, left, torn_again at (length piece + lost) i byte bytes bytes from to (torn_same at (length piece + lost) bytes)))
tears_write area other earlier at piece lost i is from to bytes byte (inr by) =
    inr (is, (by.1.0, by.1.1, torn_again at (length piece + lost) i byte by.1.0 bytes from to by.1.2))

-- a step after the write that did not make the area durable
pub tears_behind_write : (area other : Area) (earlier : List Step) (at : ℕ) (piece : List ℕ) (lost i : ℕ) → MayTear area earlier i → MayTear area (Wrote other at piece lost ∷ earlier) i
tears_behind_write area other earlier at piece lost i may bytes byte (inl left) = inl (may bytes byte left)
tears_behind_write area other earlier at piece lost i may bytes byte (inr by) =
    inr (by.0, (slice_set by.1.0 i byte, may by.1.0 byte by.1.1, torn_both at (length piece + lost) i byte by.1.0 bytes by.1.2))

pub tears_behind_cut : (area other : Area) (earlier : List Step) (len left i : ℕ) → MayTear area earlier i → MayTear area (Shortened other len left ∷ earlier) i
tears_behind_cut area other earlier len left i may bytes byte (inl is) = inl (may bytes byte is)
tears_behind_cut area other earlier len left i may bytes byte (inr by) =
    inr (by.0, (slice_set by.1.0 i byte, may by.1.0 byte by.1.1, cut_both len i byte by.1.0 bytes by.1.2))

pub tears_behind_sync : (area other : Area) (earlier : List Step) (i : ℕ) → (other ≡ area → ⊥) → MayTear area earlier i → MayTear area (Synced other ∷ earlier) i
tears_behind_sync area other earlier i apart may bytes byte left = (λ is. absurd (apart is), may bytes byte left.1)

-- ---- The same of the record that the code keeps

-- where one call more was recorded
pub holds_recorded : (recorded before now : List Recorded) (one : Recorded) (parts : Parts) → before ≡ recorded → now ≡ before ++ one ∷ []
    → Holds (step_of one ∷ steps_of recorded) parts → Holds (steps_of now) parts
holds_recorded recorded before now one parts same is holds =
    subst (λ (steps : List Step). Holds steps parts) (sym (ap steps_of is ∙ steps_of-push before one ∙ ap (λ (l : List Recorded). step_of one ∷ steps_of l) same)) holds

pub write_recorded : (steps : List Step) (area : Area) (at : ℕ) (piece written : List ℕ) (lost : ℕ) (parts new : Parts) → written ≡ piece
    → at ≤ length (content area (reads steps)) → Holds steps parts → new ≡ with_part area (after_write at piece (part area parts)) parts
    → Holds (Wrote area at written lost ∷ steps) new
write_recorded steps area at piece written lost parts new same within holds is =
    subst (λ (bytes : List ℕ). Holds (Wrote area at bytes lost ∷ steps) new) (sym same)
    (subst (Holds (Wrote area at piece lost ∷ steps)) (sym is) (write_holds steps area at piece lost parts within holds))

pub cut_recorded : (steps : List Step) (area : Area) (len left : ℕ) (parts new : Parts) → Holds steps parts
    → new ≡ with_part area (after_cut len left (part area parts)) parts → Holds (Shortened area len left ∷ steps) new
cut_recorded steps area len left parts new holds is = subst (Holds (Shortened area len left ∷ steps)) (sym is) (cut_holds steps area len left parts holds)

module _ (area other : Area) (rest earlier : List Recorded) (one : Recorded) (i : ℕ) (last : rest ≡ earlier ++ one ∷ []) where
  at_last : (step : Step) → step_of one ≡ step → MayTear area (step ∷ steps_of earlier) i → MayTear area (steps_of rest) i
  at_last step is may = subst (λ (steps : List Step). MayTear area steps i) (sym (ap steps_of last ∙ steps_of-push earlier one ∙ ap (λ (s : Step). s ∷ steps_of earlier) is)) may

  -- in the last call
  pub tears_last : (at : ℕ) (piece : List ℕ) (lost : ℕ) → step_of one ≡ Wrote other at piece lost → other ≡ area → at ≤ i → i < at + (length piece + lost)
      → MayTear area (steps_of rest) i
  tears_last at piece lost is same from to = at_last (Wrote other at piece lost) is (tears_write area other (steps_of earlier) at piece lost i same from to)

  -- before it
  pub tears_before_write : (at : ℕ) (piece : List ℕ) (lost : ℕ) → step_of one ≡ Wrote other at piece lost → MayTear area (steps_of earlier) i → MayTear area (steps_of rest) i
  tears_before_write at piece lost is may = at_last (Wrote other at piece lost) is (tears_behind_write area other (steps_of earlier) at piece lost i may)

  pub tears_before_cut : (len left : ℕ) → step_of one ≡ Shortened other len left → MayTear area (steps_of earlier) i → MayTear area (steps_of rest) i
  tears_before_cut len left is may = at_last (Shortened other len left) is (tears_behind_cut area other (steps_of earlier) len left i may)

  pub tears_before_sync : step_of one ≡ Synced other → (other ≡ area → ⊥) → MayTear area (steps_of earlier) i → MayTear area (steps_of rest) i
  tears_before_sync is apart may = at_last (Synced other) is (tears_behind_sync area other (steps_of earlier) i apart may)

-- where the record was emptied but for what a crash left
pub crashed_record : (cleared now : List Recorded) (one : Recorded) (left : Image) → cleared ≡ [] → now ≡ cleared ++ one ∷ [] → step_of one ≡ Crashed left
    → steps_of now ≡ Crashed left ∷ []
crashed_record cleared now one left none is crash =
    ap steps_of is ∙ steps_of-push cleared one ∙ ap (λ (l : List Recorded). step_of one ∷ steps_of l) none ∙ ap (λ (step : Step). step ∷ []) crash
