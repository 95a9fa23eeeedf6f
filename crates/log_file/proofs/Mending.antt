-- A gate that stands open after the records of a log is closed.
use Rattle.std.proofs.Common.{◌≡◌, ℕ, ◌<◌, ◌≤◌, Bool, true, false, cond, List, [], ◌∷◌, length, Option, Some, None, refl, sym, ap, ◌∙◌, subst, arith}
use Rattle.std.specs.Prelude.{slice_index, IfSome, ◌==◌}
use Rattle.std.specs.Option.{option_map}
use Rattle.std.proofs.lemmas.Bool.{eqb-true, eq-eqb}
use Rattle.outside.specs.declared.disk.Area.TheVariants.{Log}
use Rattle.outside.specs.Image.{Image, InArea}
use Rattle.outside.specs.Disk.{written, write_area, Torn, ComesBy, IsDurable}
use Rattle.outside.proofs.Torn.{tears_to_the_written}
use Rattle.disk_defs.specs.Log.{Record, log_of}
use Rattle.disk_defs.specs.Rest.{EndsAt, IsAtRest, IsSettled, HasLog}
use Rattle.disk_defs.proofs.Contents.{ends_say}
use Rattle.disk_defs.proofs.Resting.{closed_rest, ends_torn, rest_mended}
use Rattle.log_file.specs.Opening.{mended}

-- ---- What is written

mended_open : (place : ℕ) (now : Image) → (slice_index now.log place == 1) ≡ true → write_area Log place (0 ∷ []) now ≡ mended place now
mended_open place now is = sym (ap (λ (b : Bool). cond b (write_area Log place (0 ∷ []) now) now) is)

mended_closed : (place : ℕ) (now : Image) → (slice_index now.log place == 1) ≡ false → now ≡ mended place now
mended_closed place now is = sym (ap (λ (b : Bool). cond b (write_area Log place (0 ∷ []) now) now) is)

pub told_mended_open : (reads later : Option Image) (place : ℕ) (gate : Bool) → gate ≡ true → IfSome reads (λ image. gate ≡ (slice_index image.log place == 1))
    → later ≡ option_map (write_area Log place (0 ∷ [])) reads → IfSome reads (λ now. later ≡ Some (mended place now))
told_mended_open None later place gate is same wrote = tt
told_mended_open (Some now) later place gate is same wrote = wrote ∙ ap Some (mended_open place now (sym same ∙ is))

pub told_mended_closed : (reads : Option Image) (place : ℕ) (gate : Bool) → gate ≡ false → IfSome reads (λ image. gate ≡ (slice_index image.log place == 1))
    → IfSome reads (λ now. reads ≡ Some (mended place now))
told_mended_closed None place gate is same = tt
told_mended_closed (Some now) place gate is same = ap Some (mended_closed place now (sym same ∙ is))

-- an open gate is 1
pub told_open : (reads : Option Image) (place : ℕ) (gate : Bool) (P : Type 0) → gate ≡ true → IfSome reads (λ image. gate ≡ (slice_index image.log place == 1))
    → IfSome reads (λ now. (slice_index now.log place ≡ 1 → ⊥) → P)
told_open None place gate P is same = tt
told_open (Some now) place gate P is same = λ closed. absurd (closed (eqb-true (slice_index now.log place) 1 (sym same ∙ is)))

pub told_there_open : (reads later : Option Image) (place : ℕ) → IfSome reads (λ image. place < length image.log)
    → later ≡ option_map (write_area Log place (0 ∷ [])) reads → IfSome later (λ image. place < length image.log)
told_there_open None later place there wrote = subst (λ (o : Option Image). IfSome o (λ image. place < length image.log)) (sym wrote) tt
told_there_open (Some now) later place there wrote =
    let kept : length now.log ≤ length (written place (0 ∷ []) now.log) = (tears_to_the_written place 0 (0 ∷ []) now.log (omega (arith, there))).no_shorter in
    subst (λ (o : Option Image). IfSome o (λ image. place < length image.log)) (sym wrote) (omega (arith, kept, there))

-- ---- What a crash leaves

-- a log that says what it said
abbrev pub SaysSame : Image → List ℕ → Type 0
SaysSame now bytes = log_of bytes ≡ log_of now.log

leaves_open : (now : Image) (place : ℕ) (records : List Record) (images : Image → Type 0) → slice_index now.log place ≡ 1 → EndsAt place records now.log → IsDurable Log images now
    → (image : Image) → ComesBy (InArea Log (Torn place 1)) images image → HasLog (SaysSame now) images image
leaves_open now place records images gate end durable image (before, left, (bytes, torn, is)) =
    let same : before.log ≡ now.log = durable before left in
    let here : Torn place 1 now.log bytes = subst (λ (l : List ℕ). Torn place 1 l bytes) same torn in
    let other : EndsAt place records bytes = ends_torn place records now.log bytes end gate here in
    (before, left, (bytes, ends_say place records bytes other ∙ sym (ends_say place records now.log end), is))

pub told_leaves : (reads : Option Image) (place : ℕ) (gate : Bool) (images : Image → Type 0) (Leaves : (Image → Type 0) → Type 0) → gate ≡ true
    → IfSome reads (λ image. gate ≡ (slice_index image.log place == 1))
    → ((P : Image → Type 0) → ((image : Image) → ComesBy (InArea Log (Torn place 1)) images image → P image) → Leaves P)
    → IfSome reads (λ now. (records : List Record) → EndsAt place records now.log → IsDurable Log images now → Leaves (HasLog (SaysSame now) images))
told_leaves None place gate images Leaves is same weaker = tt
told_leaves (Some now) place gate images Leaves is same weaker = λ records end durable.
    weaker (HasLog (SaysSame now) images) (leaves_open now place records images (eqb-true (slice_index now.log place) 1 (sym same ∙ is)) end durable)

-- ---- At rest

rest_of : (place : ℕ) (records : List Record) (now : Image) → EndsAt place records now.log → IsAtRest place records (mended place now).log
rest_of place records now end = by_gate (slice_index now.log place == 1) refl
  where
    by_gate : (b : Bool) → (slice_index now.log place == 1) ≡ b → IsAtRest place records (cond b (write_area Log place (0 ∷ []) now) now).log
    by_gate true is = rest_mended place records now.log end (eqb-true (slice_index now.log place) 1 is)
    by_gate false is = closed_rest place records now.log end (λ open_gate. absurd (both (sym (eq-eqb (slice_index now.log place) 1 open_gate) ∙ is)))
      where
        both : true ≡ false → ⊥
        both e = absurd (cc)

pub settled_of : (place : ℕ) (records : List Record) (now : Image) (later : Option Image) (images : Image → Type 0) → EndsAt place records now.log → later ≡ Some (mended place now)
    → IfSome later (IsDurable Log images) → IsSettled place records later images
settled_of place records now later images end is durable = record {
  now = mended place now;
  told = is;
  rest = rest_of place records now end;
  durable = subst (λ (o : Option Image). IfSome o (IsDurable Log images)) is durable;
}
