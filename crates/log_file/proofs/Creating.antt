-- A new log is at rest.
use Rattle.std.proofs.Common.{◌≡◌, ℕ, zero, suc, ◌+◌, ◌-◌, ◌<◌, ◌≤◌, ◌^◌, List, [], ◌∷◌, ◌++◌, length, take, Result, Err, Option, Some, None, refl, sym, ap, ◌∙◌, subst, arith}
use Rattle.std.specs.Prelude.{IfSome, IsSome, All}
use Rattle.std.specs.Option.{option_map}
use Rattle.std.proofs.lemmas.List.{append_assoc, append-nil, length-append, length-take}
use Rattle.std.proofs.Math.Seq.{drop-nil}
use Rattle.outside.specs.declared.disk.Area.{Area}
use Rattle.outside.specs.declared.disk.Area.TheVariants.{Log}
use Rattle.outside.specs.declared.disk.WriteStop.{WriteStop}
use Rattle.outside.specs.declared.disk.WriteStop.TheVariants.{DiskFault, NoMemory}
use Rattle.outside.specs.Image.{Image, InArea, content, with_content}
use Rattle.outside.specs.Disk.{written, write_area, cut_area, Torn, Cut, ComesBy, Follows, IsDurable, OthersRead}
use Rattle.outside.proofs.Images.{own_content}
use Rattle.disk_defs.specs.Log.{Record, record_bytes, all_record_bytes, magic, first_records, new_log}
use Rattle.disk_defs.specs.LogLaws.{HasFittingBody}
use Rattle.disk_defs.specs.Rest.{IsAtRest, IsSettled, HasNoLonger}
use Rattle.disk_defs.proofs.Records.{record_length, size_of_all}
use Rattle.disk_defs.proofs.Resting.{rest_made}
use Rattle.log_file.specs.Pieces.{HasUpTo}

-- the stops of a write are distinct
pub memory_is_no_fault : {T : Type 0} → ◌≡◌ {A = Result T WriteStop} (Err NoMemory) (Err DiskFault) → ⊥
memory_is_no_fault is = absurd (cc)

pub fault_is_no_memory : {T : Type 0} → ◌≡◌ {A = Result T WriteStop} (Err DiskFault) (Err NoMemory) → ⊥
fault_is_no_memory is = absurd (cc)

-- where nothing was called, the other areas read as they did
pub others_same : (area : Area) (reads : Option Image) → OthersRead area reads reads
others_same area None = ([], refl)
others_same area (Some image) = (content area image, ap Some (own_content area image))

pub others_then : (old mid new : Option Image) → OthersRead Log old mid → OthersRead Log mid new → OthersRead Log old new
others_then old mid new first second = (second.0, second.1 ∙ ap (option_map (with_content Log second.0)) first.1 ∙ over old)
  where
    over : (reads : Option Image) → option_map (with_content Log second.0) (option_map (with_content Log first.0) reads) ≡ option_map (with_content Log second.0) reads
    over None = refl
    over (Some image) = refl

-- a write into the log, as it reads after it
pub others_written : (place : ℕ) (piece : List ℕ) (old new : Option Image) → new ≡ option_map (write_area Log place piece) old → OthersRead Log old new
others_written place piece None new wrote = ([], wrote)
others_written place piece (Some image) new wrote = (written place piece image.log, wrote)

-- a cut of the log, as it reads after it
pub others_cut : (old new : Option Image) → new ≡ option_map (cut_area Log 0) old → OthersRead Log old new
others_cut None new cut = ([], cut)
others_cut (Some image) new cut = (take 0 image.log, cut)

-- the log before the first call
pub up_to_there : (size : ℕ) (images : Image → Type 0) (image : Image) → images image → HasUpTo size images image
up_to_there size images image left = (image, left, (content Log image, omega arith, own_content Log image))

cut_short : (old new : List ℕ) → Cut 0 old new → length new ≤ length old
cut_short old new cut = omega (arith, ap length cut.prefix, length-take (length new) old)

-- once it was cut
pub up_to_cut : (size : ℕ) (images images1 : Image → Type 0) → Follows (InArea Log (Cut 0)) images images1 → (image : Image) → images1 image → HasUpTo size images image
up_to_cut size images images1 follows image left = by_before (follows image left)
  where
    by_before : ComesBy (InArea Log (Cut 0)) images image → HasUpTo size images image
    by_before (before, first, (bytes, cut, is)) = (before, first, (bytes, omega (arith, cut_short before.log bytes cut), is))

-- and while it is written
pub up_to_torn : (size : ℕ) (images images1 : Image → Type 0) → Follows (InArea Log (Cut 0)) images images1 → (image : Image)
    → ComesBy (InArea Log (Torn 0 size)) images1 image → HasUpTo size images image
up_to_torn size images images1 follows image (mid, left, (bytes, torn, is)) = by_before (follows mid left)
  where
    by_before : ComesBy (InArea Log (Cut 0)) images mid → HasUpTo size images image
    by_before (before, first, (other, cut, was)) =
        let short : length mid.log ≤ length before.log = omega (arith, ap (λ (i : Image). length i.log) was, cut_short before.log other cut) in
        (before, first, (bytes, omega (arith, torn.no_longer, short), is ∙ ap (with_content Log bytes) was))

-- a log that was cut and written holds what was written
pub replaced : (bytes : List ℕ) (reads reads1 reads2 : Option Image) → reads1 ≡ option_map (cut_area Log 0) reads → reads2 ≡ option_map (write_area Log 0 bytes) reads1
    → reads2 ≡ option_map (with_content Log bytes) reads
replaced bytes reads reads1 reads2 cut wrote = wrote ∙ ap (option_map (write_area Log 0 bytes)) cut ∙ over reads
  where
    over : (o : Option Image) → option_map (write_area Log 0 bytes) (option_map (cut_area Log 0) o) ≡ option_map (with_content Log bytes) o
    over None = refl
    over (Some image) =
        ap (λ (l : List ℕ). Some (with_content Log (bytes ++ l) image)) (drop-nil (0 + length bytes)) ∙ ap (λ (l : List ℕ). Some (with_content Log l image)) (append-nil bytes)

-- a log of this length
pub no_longer : (place size : ℕ) (images : Image → Type 0) (image : Image) → size ≡ place + 1 → HasUpTo size images image → HasNoLonger place images image
no_longer place size images image is (before, left, (bytes, short, same)) = (before, left, (bytes, omega (arith, short, is), same))

both_fit : (specification genesis : List ℕ) → length specification < 2 ^ 32 → length genesis < 2 ^ 32 → All HasFittingBody (first_records specification genesis)
both_fit specification genesis one two zero d below = one
both_fit specification genesis one two (suc zero) d below = two
both_fit specification genesis one two (suc (suc k)) d below = absurd (omega (arith, below))

pub new_length : (specification genesis : List ℕ) → length (new_log specification genesis) ≡ 20 + length specification + length genesis + 1
new_length specification genesis =
    let one : Record = record { kind = 1; body = specification } in
    let two : Record = record { kind = 2; body = genesis } in
    omega (
      arith,
      length-append magic (all_record_bytes (one ∷ two ∷ []) ++ 0 ∷ []),
      length-append (all_record_bytes (one ∷ two ∷ [])) (0 ∷ []),
      length-append (record_bytes one) (record_bytes two ++ []),
      length-append (record_bytes two) [],
      record_length one,
      record_length two,
    )

pub settles_new : (place : ℕ) (specification genesis bytes : List ℕ) (reads reads1 : Option Image) (images1 : Image → Type 0) → IsSome reads
    → length specification < 2 ^ 32 → length genesis < 2 ^ 32 → bytes ≡ new_log specification genesis → place ≡ length bytes - 1
    → reads1 ≡ option_map (with_content Log bytes) reads → IfSome reads1 (IsDurable Log images1)
    → IsSettled place (first_records specification genesis) reads1 images1
settles_new place specification genesis bytes None reads1 images1 some one two is at wrote durable = absurd (cc)
settles_new place specification genesis bytes (Some old) reads1 images1 some one two is at wrote durable =
    let records : List Record = first_records specification genesis in
    let made : IsAtRest (8 + size_of_all records) records (new_log specification genesis) = rest_made records [] (both_fit specification genesis one two) in
    let long : length bytes ≡ 8 + size_of_all records + 1 =
    ap length is ∙ omega (arith, length-append magic (all_record_bytes records ++ 0 ∷ []), length-append (all_record_bytes records) (0 ∷ [])) in
    let place_is : 8 + size_of_all records ≡ place = omega (arith, long, at) in
    record {
      now = with_content Log bytes old;
      told = wrote;
      rest = subst (λ (n : ℕ). IsAtRest n records bytes) place_is (subst (IsAtRest (8 + size_of_all records) records) (sym is) made);
      durable = subst (λ (o : Option Image). IfSome o (IsDurable Log images1)) wrote durable;
    }

-- bytes that were put after others, one after the other
pub four_behind : (old a b c d one two three four : List ℕ) → a ≡ old ++ one → b ≡ a ++ two → c ≡ b ++ three → d ≡ c ++ four
    → d ≡ old ++ (one ++ ((two ++ (three ++ [])) ++ four))
four_behind old a b c d one two three four first second third fourth =
    let written : d ≡ (((old ++ one) ++ two) ++ three) ++ four =
    fourth ∙ ap (λ (l : List ℕ). l ++ four) (third ∙ ap (λ (l : List ℕ). l ++ three) (second ∙ ap (λ (l : List ℕ). l ++ two) first)) in
    let inner : ((one ++ two) ++ three) ++ four ≡ one ++ ((two ++ (three ++ [])) ++ four) =
    ap (λ (l : List ℕ). l ++ four) (append_assoc one two three) ∙ append_assoc one (two ++ three) four ∙ ap (λ (l : List ℕ). one ++ ((two ++ l) ++ four)) (sym (append-nil three)) in
    written ∙ ap (λ (l : List ℕ). l ++ four) (ap (λ (l : List ℕ). l ++ three) (append_assoc old one two) ∙ append_assoc old (one ++ two) three)
    ∙ append_assoc old ((one ++ two) ++ three) four ∙ ap (λ (l : List ℕ). old ++ l) inner
