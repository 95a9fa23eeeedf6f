-- The start of a log, from its first bytes to its genesis.
use Rattle.std.proofs.Common.{◌≡◌, ℕ, ◌+◌, take, Option, Some, None, ◌∙◌, subst}
use Rattle.std.specs.Prelude.{IfSome}
use Rattle.chain_defs.specs.Specification.{Specification}
use Rattle.outside.specs.Image.{Image}
use Rattle.disk_defs.specs.Log.{magic, is_specification, is_genesis, IsNoLogFrom}
use Rattle.log_file.specs.Grammar.{AreBlocks, BlocksValue, read_with, IsGenesisOf}
use Rattle.log_file.specs.Reading.{ReaderValue, IsReading, HasPassed, IsOtherHere}
use Rattle.log_file.specs.Opening.{HasReadLog}
use Rattle.log_file.proofs.Progress.{OfSpec, begun, not_specified, no_genesis, no_content, no_start}

-- what is known of a later disk, which reads as the earlier one
pub on_same : (later reads : Option Image) (P : Image → Type 0) → later ≡ reads → IfSome later P → IfSome reads P
on_same later reads P same holds = subst (λ (o : Option Image). IfSome o P) same holds

pub told_wrong_start : (reads : Option Image) (r0 : ReaderValue) (at : ℕ)
    → IfSome reads (λ image. IsReading image.log r0 → (take 8 image.log ≡ magic → ⊥) × (at ≡ 0)) → IfSome reads (λ image. IsReading image.log r0 → IsNoLogFrom image.log at)
told_wrong_start None r0 at wrong = tt
told_wrong_start (Some image) r0 at wrong = λ reading. no_start image.log at (wrong reading)

pub told_wrong_spec : (reads l1 : Option Image) (r0 r1 : ReaderValue) (at : ℕ) → l1 ≡ reads → r1.at ≡ 8
    → IfSome reads (λ image. IsReading image.log r0 → take 8 image.log ≡ magic)
    → IfSome reads (λ image. IsReading image.log r0 → IsReading image.log r1)
    → IfSome l1 (λ image. IsReading image.log r1 → IsOtherHere image.log is_specification r1 at)
    → IfSome reads (λ image. IsReading image.log r0 → IsNoLogFrom image.log at)
told_wrong_spec None l1 r0 r1 at same start begins goes wrong = tt
told_wrong_spec (Some image) l1 r0 r1 at same start begins goes wrong = λ reading.
    let here = on_same l1 (Some image) (λ image. IsReading image.log r1 → IsOtherHere image.log is_specification r1 at) same wrong in
    no_content image.log at (begins reading) (not_specified image.log r1 at start (here (goes reading)))

pub told_wrong_genesis : (reads l1 l2 : Option Image) (spec : Specification) (r0 r1 r2 : ReaderValue) (at : ℕ) → l1 ≡ reads → l2 ≡ l1 → r1.at ≡ 8
    → IfSome reads (λ image. IsReading image.log r0 → take 8 image.log ≡ magic)
    → IfSome reads (λ image. IsReading image.log r0 → IsReading image.log r1)
    → IfSome l1 (λ image. IsReading image.log r1 → IsReading image.log r2)
    → IfSome l1 (λ image. IsReading image.log r1 → HasPassed image.log (OfSpec spec) r1 r2)
    → IfSome l2 (λ image. IsReading image.log r2 → IsOtherHere image.log is_genesis r2 at)
    → IfSome reads (λ image. IsReading image.log r0 → IsNoLogFrom image.log at)
told_wrong_genesis None l1 l2 spec r0 r1 r2 at same then start begins goes on one wrong = tt
told_wrong_genesis (Some image) l1 l2 spec r0 r1 r2 at same then start begins goes on one wrong = λ reading.
    let goes_on = on_same l1 (Some image) (λ image. IsReading image.log r1 → IsReading image.log r2) same on in
    let passed = on_same l1 (Some image) (λ image. IsReading image.log r1 → HasPassed image.log (OfSpec spec) r1 r2) same one in
    let here = on_same l2 (Some image) (λ image. IsReading image.log r2 → IsOtherHere image.log is_genesis r2 at) (then ∙ same) wrong in
    let first = goes reading in
    no_content image.log at (begins reading) (no_genesis image.log spec r1 r2 at start (passed first) (here (goes_on first)))

pub told_begun : (reads l1 l2 : Option Image) (spec : Specification) (r0 r1 r2 r3 : ReaderValue) (blocks : BlocksValue) → l1 ≡ reads → l2 ≡ l1 → r1.at ≡ 8
    → IfSome reads (λ image. IsReading image.log r0 → IsReading image.log r1)
    → IfSome l1 (λ image. IsReading image.log r1 → IsReading image.log r2)
    → IfSome l1 (λ image. IsReading image.log r1 → HasPassed image.log (OfSpec spec) r1 r2)
    → IfSome l2 (λ image. IsReading image.log r2 → IsReading image.log r3)
    → IfSome l2 (λ image. IsReading image.log r2 → HasPassed image.log (λ r. IsGenesisOf (r2.at + 6) r blocks) r2 r3)
    → AreBlocks blocks.stored blocks.entries → IfSome reads (λ image. IsReading image.log r0 → HasReadLog image.log spec r3 (read_with blocks.stored blocks.entries None))
told_begun None l1 l2 spec r0 r1 r2 r3 blocks same then at goes on one further two are = tt
told_begun (Some image) l1 l2 spec r0 r1 r2 r3 blocks same then at goes on one further two are = λ reading.
    let goes_on = on_same l1 (Some image) (λ image. IsReading image.log r1 → IsReading image.log r2) same on in
    let passed = on_same l1 (Some image) (λ image. IsReading image.log r1 → HasPassed image.log (OfSpec spec) r1 r2) same one in
    let goes_further = on_same l2 (Some image) (λ image. IsReading image.log r2 → IsReading image.log r3) (then ∙ same) further in
    let passed_too = on_same l2 (Some image) (λ image. IsReading image.log r2 → HasPassed image.log (λ r. IsGenesisOf (r2.at + 6) r blocks) r2 r3) (then ∙ same) two in
    let first = goes reading in
    let second = goes_on first in
    begun image.log spec r1 r2 r3 blocks at (passed first) (passed_too second) are (goes_further second)
