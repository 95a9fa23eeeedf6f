-- A whole log, once it was read.
use Rattle.std.proofs.Common.{◌≡◌, ℕ, ◌<◌, Bool, eqb, List, length, take, drop, get_or, Option, Some, None, sym, ap, ◌∙◌, subst, arith}
use Rattle.std.specs.Prelude.{slice_index, IfSome, ◌==◌}
use Rattle.std.proofs.lemmas.List.{get_or-take}
use Rattle.chain_defs.specs.Specification.{Specification, with_edition}
use Rattle.outside.specs.Image.{Image}
use Rattle.disk_defs.specs.Log.{records_of, magic, LogContent, IsNoLogFrom}
use Rattle.disk_defs.specs.Rest.{EndsAt}
use Rattle.disk_defs.proofs.Resting.{gate_there}
use Rattle.log_file.specs.Grammar.{ReadValue}
use Rattle.log_file.specs.Reading.{ReaderValue, IsReading}
use Rattle.log_file.specs.Opening.{IsOpened, HasReadLog, HasReadAll, IsNoContentFrom}
use Rattle.log_file.proofs.Progress.{no_content, opened_all, ends_all}
use Rattle.log_file.proofs.Front.{on_same}

-- It begins as a log does, and all of it was read.
pub record IsRead (log : List ℕ) (spec : Specification) (reader : ReaderValue) (read : ReadValue) : Type 0 where
  begins : take 8 log ≡ magic
  all : HasReadAll log spec reader read

pub told_read : (reads l1 : Option Image) (spec : Specification) (len : ℕ) (r0 r1 r2 : ReaderValue) (b1 b2 : ReadValue) → l1 ≡ reads
    → IfSome reads (λ image. len ≡ length image.log) → ((log : List ℕ) → len ≡ length log → IsReading log r0)
    → IfSome reads (λ image. IsReading image.log r0 → take 8 image.log ≡ magic)
    → IfSome reads (λ image. IsReading image.log r0 → HasReadLog image.log spec r1 b1)
    → IfSome l1 (λ image. HasReadLog image.log spec r1 b1 → HasReadAll image.log spec r2 b2)
    → IfSome reads (λ image. IsRead image.log spec r2 b2)
told_read None l1 spec len r0 r1 r2 b1 b2 same size reading start front further = tt
told_read (Some image) l1 spec len r0 r1 r2 b1 b2 same size reading start front further =
    let first : IsReading image.log r0 = reading image.log size in
    let all = on_same l1 (Some image) (λ image. HasReadLog image.log spec r1 b1 → HasReadAll image.log spec r2 b2) same further in
    record { begins = start first; all = all (front first) }

pub told_wrong_blocks : (reads l1 : Option Image) (spec : Specification) (len : ℕ) (r0 r1 : ReaderValue) (b1 : ReadValue) (at : ℕ) → l1 ≡ reads
    → IfSome reads (λ image. len ≡ length image.log) → ((log : List ℕ) → len ≡ length log → IsReading log r0)
    → IfSome reads (λ image. IsReading image.log r0 → take 8 image.log ≡ magic)
    → IfSome reads (λ image. IsReading image.log r0 → HasReadLog image.log spec r1 b1)
    → IfSome l1 (λ image. (spec : Specification) → HasReadLog image.log spec r1 b1 → IsNoContentFrom image.log at)
    → IfSome reads (λ image. IsNoLogFrom image.log at)
told_wrong_blocks None l1 spec len r0 r1 b1 at same size reading start front wrong = tt
told_wrong_blocks (Some image) l1 spec len r0 r1 b1 at same size reading start front wrong =
    let first : IsReading image.log r0 = reading image.log size in
    let none = on_same l1 (Some image) (λ image. (spec : Specification) → HasReadLog image.log spec r1 b1 → IsNoContentFrom image.log at) same wrong in
    no_content image.log at (start first) (none spec (front first))

pub told_opened : (reads : Option Image) (spec : Specification) (reader : ReaderValue) (read : ReadValue) → IfSome reads (λ image. IsRead image.log spec reader read)
    → IfSome reads (λ now. (log : LogContent) × IsOpened now.log log (with_edition read.edition spec) read.blocks.stored read.blocks.entries)
told_opened None spec reader read all = tt
told_opened (Some now) spec reader read all = opened_all now.log spec reader read all.begins all.all

pub told_ends : (reads : Option Image) (spec : Specification) (reader : ReaderValue) (read : ReadValue) (place : ℕ) → place ≡ reader.at
    → IfSome reads (λ image. IsRead image.log spec reader read) → IfSome reads (λ now. EndsAt place (records_of (drop 8 now.log)) now.log)
told_ends None spec reader read place is all = tt
told_ends (Some now) spec reader read place is all =
    subst (λ (n : ℕ). EndsAt n (records_of (drop 8 now.log)) now.log) (sym is) (ends_all now.log spec reader read all.begins all.all)

pub told_gate : (reads : Option Image) (spec : Specification) (reader : ReaderValue) (read : ReadValue) (place : ℕ) (bytes : List ℕ) (gate : Bool) → place ≡ reader.at
    → bytes ≡ reader.ahead → (0 < length bytes → gate ≡ (slice_index bytes 0 == 1))
    → IfSome reads (λ image. IsRead image.log spec reader read) → IfSome reads (λ now. gate ≡ (slice_index now.log place == 1))
told_gate None spec reader read place bytes gate is same tells all = tt
told_gate (Some now) spec reader read place bytes gate is same tells all =
    let log : List ℕ = now.log in
    let n : ℕ = length reader.ahead in
    let some : 0 < n = all.all.byte in
    let front : slice_index reader.ahead 0 ≡ slice_index (drop reader.at log) 0 =
    ap (λ (l : List ℕ). get_or l 0 0) all.all.so_far.reading.ahead ∙ get_or-take n (drop reader.at log) 0 0 some in
    tells (omega (arith, some, ap length same))
    ∙ ap (λ (m : ℕ). eqb m 1) (ap (λ (l : List ℕ). get_or l 0 0) same ∙ front ∙ gate_there reader.at log ∙ ap (λ (k : ℕ). get_or log k 0) (sym is))

pub told_wrong_front : (reads : Option Image) (len : ℕ) (reader : ReaderValue) (at : ℕ) → IfSome reads (λ image. len ≡ length image.log)
    → ((log : List ℕ) → len ≡ length log → IsReading log reader) → IfSome reads (λ image. IsReading image.log reader → IsNoLogFrom image.log at)
    → IfSome reads (λ image. IsNoLogFrom image.log at)
told_wrong_front None len reader at size reading front = tt
told_wrong_front (Some image) len reader at size reading front = front (reading image.log size)
