-- A log with a record after a closed gate, and the opening of that gate.
use Rattle.std.proofs.Common.{◌≡◌, ◌⊎◌, ℕ, ◌+◌, ◌<◌, ◌≤◌, ◌^◌, List, [], ◌∷◌, ◌++◌, length, take, drop, get_or, Option, Some, None, refl, sym, ap, ◌∙◌, subst, inl, inr, arith}
use Rattle.std.specs.Prelude.{slice_index, IfSome}
use Rattle.std.specs.Option.{option_map}
use Rattle.std.specs.Int.{w32, to_le_bytes}
use Rattle.std.proofs.lemmas.Bool.{cases_eq}
use Rattle.std.proofs.lemmas.List.{append_assoc, length-append, length-take-le, take-take, drop_at, drop_more, get_or-take}
use Rattle.outside.specs.declared.disk.Area.TheVariants.{Log}
use Rattle.outside.specs.Image.{Image, with_content, InArea}
use Rattle.outside.specs.Disk.{written, write_area, Torn, ComesBy, Follows, IsDurable}
use Rattle.outside.proofs.Torn.{tears_to_the_written}
use Rattle.disk_defs.specs.Log.{Record, record_bytes}
use Rattle.disk_defs.specs.LogLaws.{HasFittingBody}
use Rattle.disk_defs.specs.Rest.{IsAtRest, IsBeforeOrAfter, IsSettled, IsNoLonger, IsAppended, HasAppended}
use Rattle.disk_defs.proofs.Records.{record_length}
use Rattle.disk_defs.proofs.Resting.{rest_kept, rest_grown}
use Rattle.log_file.specs.Pieces.{after_gate}

-- ---- The bytes of a log

pub piece_length : (r : Record) → length (after_gate r) ≡ length (record_bytes r)
piece_length r = omega (arith, record_length r, length-append (to_le_bytes w32 (length r.body)) (r.body ++ 0 ∷ []), length-append r.body (0 ∷ []))

body_fits : (r : Record) (piece : List ℕ) → piece ≡ after_gate r → length piece < 2 ^ 32 + 6 → HasFittingBody r
body_fits r piece same short = omega (arith, ap length same, piece_length r, record_length r, short)

-- whatever is written after a gate that is not open, the log is at rest
torn_kept : (place size : ℕ) (records : List Record) (bytes other : List ℕ) → IsAtRest place records bytes → Torn (place + 1) size bytes other → IsAtRest place records other
torn_kept place size records bytes other rest h =
    let same : take place other ≡ take place bytes =
    sym (take-take place (place + 1) other (omega arith)) ∙ ap (take place) h.before ∙ take-take place (place + 1) bytes (omega arith) in
    let gate : slice_index bytes place ≡ slice_index other place =
    sym (get_or-take (place + 1) bytes place 0 (omega arith)) ∙ ap (λ (l : List ℕ). get_or l place 0) (sym h.before) ∙ get_or-take (place + 1) other place 0 (omega arith) in
    rest_kept place records bytes other rest same (omega (arith, rest.there, h.no_shorter)) (λ is. rest.closed (gate ∙ is))

-- a log at rest, with a record after the gate at its end
record IsStaged (place : ℕ) (records : List Record) (r : Record) (bytes : List ℕ) : Type 0 where
  rest : IsAtRest place records bytes
  tail : List ℕ
  behind : drop (place + 1) bytes ≡ after_gate r ++ tail

written_rest : (at : ℕ) (piece bytes : List ℕ) → at ≤ length bytes → drop at (written at piece bytes) ≡ piece ++ drop (at + length piece) bytes
written_rest at piece bytes within =
    let rest : List ℕ = drop (at + length piece) bytes in
    ap (drop at) (append_assoc (take at bytes) piece rest) ∙ drop_at (take at bytes) (piece ++ rest) at (length-take-le at bytes within)

staged : (place : ℕ) (records : List Record) (r : Record) (bytes : List ℕ) → IsAtRest place records bytes → IsStaged place records r (written (place + 1) (after_gate r) bytes)
staged place records r bytes rest =
    let piece : List ℕ = after_gate r in
    let within : place + 1 ≤ length bytes = omega (arith, rest.there) in
    record {
      rest = torn_kept place (length piece + 0) records bytes (written (place + 1) piece bytes) rest (tears_to_the_written (place + 1) 0 piece bytes within);
      tail = drop (place + 1 + length piece) bytes;
      behind = written_rest (place + 1) piece bytes within;
    }

-- the record, once its gate is open
opened : (r : Record) (gate : ℕ) (after tail : List ℕ) → gate ≡ 1 → after ≡ after_gate r ++ tail → gate ∷ after ≡ record_bytes r ++ 0 ∷ tail
opened r gate after tail open_gate behind =
    let end : r.body ++ 0 ∷ [] ++ tail ≡ r.body ++ (0 ∷ tail) = append_assoc r.body (0 ∷ []) tail in
    (λ i. open_gate i ∷ behind i) ∙ ap (λ (l : List ℕ). 1 ∷ r.kind ∷ (to_le_bytes w32 (length r.body) ++ l)) end

-- while the gate opens, it is there or not
gate_torn : (place : ℕ) (records : List Record) (r : Record) (bytes other : List ℕ) → HasFittingBody r → IsStaged place records r bytes → Torn place 1 bytes other
    → IsBeforeOrAfter place records r other
gate_torn place records r bytes other fits s h = by_gate (cases_eq (slice_index other place) 1)
  where
    more : place < length other
    more = omega (arith, s.rest.there, h.no_shorter)

    by_gate : ((slice_index other place ≡ 1) ⊎ (slice_index other place ≡ 1 → ⊥)) → IsBeforeOrAfter place records r other
    by_gate (inl open_gate) =
        let new : drop place other ≡ record_bytes r ++ 0 ∷ s.tail =
        drop_more other place 0 more ∙ opened r (get_or other place 0) (drop (place + 1) other) s.tail open_gate (h.after ∙ s.behind) in
        inr (rest_grown place records r bytes other s.tail s.rest fits h.before new)
    by_gate (inr closed) = inl (rest_kept place records bytes other s.rest h.before more closed)

gate_written : (place : ℕ) (records : List Record) (r : Record) (bytes : List ℕ) → HasFittingBody r → IsStaged place records r bytes
    → IsAtRest (place + length (record_bytes r)) (records ++ r ∷ []) (written place (1 ∷ []) bytes)
gate_written place records r bytes fits s =
    let within : place ≤ length bytes = omega (arith, s.rest.there) in
    let new : drop place (written place (1 ∷ []) bytes) ≡ record_bytes r ++ 0 ∷ s.tail =
    written_rest place (1 ∷ []) bytes within ∙ opened r 1 (drop (place + 1) bytes) s.tail refl s.behind in
    rest_grown place records r bytes (written place (1 ∷ []) bytes) s.tail s.rest fits (tears_to_the_written place 0 (1 ∷ []) bytes within).before new

-- ---- Images

-- what a crash leaves while the record is written
pub leaves_while_written : (place : ℕ) (records : List Record) (r : Record) (piece : List ℕ) (reads : Option Image) (images : Image → Type 0) → piece ≡ after_gate r
    → IsSettled place records reads images
    → (image : Image) → ComesBy (InArea Log (Torn (place + 1) (length piece))) images image → HasAppended place records r images image
leaves_while_written place records r piece reads images same settled image (before, left, (bytes, torn, is)) =
    let here : IsAtRest place records before.log = subst (IsAtRest place records) (sym (settled.durable before left)) settled.rest in
    let appended : IsAppended place records r before.log bytes =
    record {
      rest = inl (torn_kept place (length piece) records before.log bytes here torn);
      size = omega (arith, torn.no_longer, ap length same, piece_length r);
    } in
    (before, left, (bytes, appended, is))

-- the log as it reads between the two writes
record IsBetween (place : ℕ) (records : List Record) (r : Record) (reads : Option Image) (images : Image → Type 0) : Type 0 where
  now : Image
  told : reads ≡ Some now
  staged : IsStaged place records r now.log
  durable : IsDurable Log images now

between : (place : ℕ) (records : List Record) (r : Record) (piece : List ℕ) (reads reads1 : Option Image) (images images1 : Image → Type 0) → piece ≡ after_gate r
    → IsSettled place records reads images → reads1 ≡ option_map (write_area Log (place + 1) piece) reads → IfSome reads1 (IsDurable Log images1)
    → IsBetween place records r reads1 images1
between place records r piece reads reads1 images images1 is settled wrote durable =
    let now1 : Image = write_area Log (place + 1) (after_gate r) settled.now in
    let told : reads1 ≡ Some now1 = wrote ∙ ap (λ (p : List ℕ). option_map (write_area Log (place + 1) p) reads) is ∙ ap (option_map (write_area Log (place + 1) (after_gate r))) settled.told in
    record {
      now = now1;
      told = told;
      staged = staged place records r settled.now.log settled.rest;
      durable = subst (λ (o : Option Image). IfSome o (IsDurable Log images1)) told durable;
    }

-- what a crash leaves while the gate opens
pub leaves_while_opened : (place : ℕ) (records : List Record) (r : Record) (piece : List ℕ) (reads reads1 : Option Image) (images images1 : Image → Type 0) → piece ≡ after_gate r
    → length piece < 2 ^ 32 + 6 → IsSettled place records reads images → reads1 ≡ option_map (write_area Log (place + 1) piece) reads → IfSome reads1 (IsDurable Log images1)
    → Follows (InArea Log (Torn (place + 1) (length piece))) images images1
    → (image : Image) → ComesBy (InArea Log (Torn place 1)) images1 image → HasAppended place records r images image
leaves_while_opened place records r piece reads reads1 images images1 same short settled wrote durable follows image (mid, left, (bytes, torn, is)) =
    from (follows mid left)
  where
    b : IsBetween place records r reads1 images1
    b = between place records r piece reads reads1 images images1 same settled wrote durable

    s : IsStaged place records r mid.log
    s = subst (IsStaged place records r) (sym (b.durable mid left)) b.staged

    from : ComesBy (InArea Log (Torn (place + 1) (length piece))) images mid → HasAppended place records r images image
    from (before, first, (other, earlier, was)) =
        let appended : IsAppended place records r before.log bytes =
        record {
          rest = gate_torn place records r mid.log bytes (body_fits r piece same short) s torn;
          size = omega (arith, torn.no_longer, earlier.no_longer, ap (λ (i : Image). length i.log) was, ap length same, piece_length r);
        } in
        (before, first, (bytes, appended, is ∙ ap (with_content Log bytes) was))

pub settles_after : (place : ℕ) (records : List Record) (r : Record) (piece : List ℕ) (reads reads1 reads2 : Option Image) (images images1 images2 : Image → Type 0) → piece ≡ after_gate r
    → length piece < 2 ^ 32 + 6 → IsSettled place records reads images → reads1 ≡ option_map (write_area Log (place + 1) piece) reads → IfSome reads1 (IsDurable Log images1)
    → reads2 ≡ option_map (write_area Log place (1 ∷ [])) reads1 → IfSome reads2 (IsDurable Log images2)
    → IsSettled (place + length piece) (records ++ r ∷ []) reads2 images2
settles_after place records r piece reads reads1 reads2 images images1 images2 same short settled wrote durable1 opened durable2 =
    let b : IsBetween place records r reads1 images1 = between place records r piece reads reads1 images images1 same settled wrote durable1 in
    let is : place + length piece ≡ place + length (record_bytes r) = ap (λ (n : ℕ). place + n) (ap length same ∙ piece_length r) in
    let now2 : Image = write_area Log place (1 ∷ []) b.now in
    let told : reads2 ≡ Some now2 = opened ∙ ap (option_map (write_area Log place (1 ∷ []))) b.told in
    record {
      now = now2;
      told = told;
      rest = subst (λ (n : ℕ). IsAtRest n (records ++ r ∷ []) now2.log) (sym is) (gate_written place records r b.now.log (body_fits r piece same short) b.staged);
      durable = subst (λ (o : Option Image). IfSome o (IsDurable Log images2)) told durable2;
    }

-- a byte stands where the records end
pub ends_there : (place : ℕ) (piece : List ℕ) (reads reads1 reads2 : Option Image) → IfSome reads (λ image. place < length image.log)
    → reads1 ≡ option_map (write_area Log (place + 1) piece) reads → reads2 ≡ option_map (write_area Log place (1 ∷ [])) reads1
    → IfSome reads2 (λ image. place + length piece < length image.log)
ends_there place piece None reads1 reads2 there wrote opened =
    let none : reads2 ≡ None = opened ∙ ap (option_map (write_area Log place (1 ∷ []))) wrote in
    subst (λ (o : Option Image). IfSome o (λ image. place + length piece < length image.log)) (sym none) tt
ends_there place piece (Some image) reads1 reads2 there wrote opened =
    let mid : List ℕ = written (place + 1) piece image.log in
    let some : reads2 ≡ Some (write_area Log place (1 ∷ []) (write_area Log (place + 1) piece image)) = opened ∙ ap (option_map (write_area Log place (1 ∷ []))) wrote in
    let long : place + 1 + length piece ≤ length mid = omega (
      arith,
      length-append (take (place + 1) image.log ++ piece) (drop (place + 1 + length piece) image.log),
      length-append (take (place + 1) image.log) piece,
      length-take-le (place + 1) image.log (omega (arith, there)),
    ) in
    let kept : length mid ≤ length (written place (1 ∷ []) mid) = (tears_to_the_written place 0 (1 ∷ []) mid (omega (arith, long))).no_shorter in
    subst (λ (o : Option Image). IfSome o (λ image. place + length piece < length image.log)) (sym some) (omega (arith, long, kept))

-- and it ends one byte after them, or where it ended before
pub ends_no_later : (place : ℕ) (piece : List ℕ) (reads reads1 reads2 : Option Image) → IfSome reads (λ image. place < length image.log)
    → reads1 ≡ option_map (write_area Log (place + 1) piece) reads → reads2 ≡ option_map (write_area Log place (1 ∷ [])) reads1
    → IfSome reads (λ image. IfSome reads2 (λ now. IsNoLonger (place + length piece) image.log now.log))
ends_no_later place piece None reads1 reads2 there wrote opened = tt
ends_no_later place piece (Some image) reads1 reads2 there wrote opened =
    let mid : Image = write_area Log (place + 1) piece image in
    let told : reads2 ≡ Some (write_area Log place (1 ∷ []) mid) = opened ∙ ap (option_map (write_area Log place (1 ∷ []))) wrote in
    let first = tears_to_the_written (place + 1) 0 piece image.log (omega (arith, there)) in
    let second = tears_to_the_written place 0 (1 ∷ []) mid.log (omega (arith, there, first.no_shorter)) in
    subst (λ (o : Option Image). IfSome o (λ now. IsNoLonger (place + length piece) image.log now.log)) (sym told) (omega (arith, first.no_longer, second.no_longer))
