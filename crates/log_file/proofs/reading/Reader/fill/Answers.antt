use Rattle.std.proofs.Common.{◌≡◌, List, ℕ, length, drop, refl, ap, ◌∙◌, arith}
use Rattle.std.proofs.lemmas.List.{take_rest}
use Rattle.log_file.specs.Reading.{ReaderValue}
use Rattle.log_file.proofs.Pieces.{told_filled}
use Rattle.log_file.proofs.Exits.{on_each, not_called, no_error, no_fault_counts, stop_counts, answer_counts, answer_still}
use Rattle.log_file.proofs.reading.Reader.fill.Goals as goal

pub returns-then-need-ahead-clause-reads : goal.returns-then-need-ahead-clause-reads
returns-then-need-ahead-clause-reads g c = tt

pub returns-then-need-ahead-clause-cause : goal.returns-then-need-ahead-clause-cause
returns-then-need-ahead-clause-cause g c = no_fault_counts _ (no_error _ _)

pub returns-in-Err-clause-as_before : goal.returns-in-Err-clause-as_before
returns-in-Err-clause-as_before g c = c.in-Err.ensures.as_before

pub returns-in-Err-clause-reads : goal.returns-in-Err-clause-reads
returns-in-Err-clause-reads g c = c.in-Err.ensures.reads

pub returns-in-Err-clause-cause : goal.returns-in-Err-clause-cause
returns-in-Err-clause-cause g c = stop_counts _ _ _ _ c.in-Err.ensures.cause

pub returns-in-Ok-clause-as_before : goal.returns-in-Ok-clause-as_before
returns-in-Ok-clause-as_before g c = c.in-Ok.ensures.as_before

pub returns-in-Ok-clause-reads : goal.returns-in-Ok-clause-reads
returns-in-Ok-clause-reads g c = tt

pub returns-in-Ok-clause-cause : goal.returns-in-Ok-clause-cause
returns-in-Ok-clause-cause g c = answer_counts _ _ _ _ (answer_still _ _ _ _ c.in-Ok.ensures.cause)

pub returns-then-need-ahead-clause-at : goal.returns-then-need-ahead-clause-at
returns-then-need-ahead-clause-at g c = record { len = refl; at = refl }

pub returns-then-need-ahead-clause-reading : goal.returns-then-need-ahead-clause-reading
returns-then-need-ahead-clause-reading g c =
    on_each (g.D.Disk.reads_as c.args.disk.now) _ (λ _ reading. (reading, omega (arith, c.if-need-ahead.true, ap length c.ahead.ensures)))

pub returns-in-Err-clause-at : goal.returns-in-Err-clause-at
returns-in-Err-clause-at g c = record { len = refl; at = refl }

pub returns-in-Err-clause-reading : goal.returns-in-Err-clause-reading
returns-in-Err-clause-reading g c = on_each (g.D.Disk.reads_as c.args.disk.now) _ (λ _ reading. (reading, tt))

len_is : (g : _) (c : goal.After-read_piece-arg-2-1 g) → c.self.inside.len ≡ c.args.self.now.len
len_is g c = ap (λ (v : ReaderValue). v.len) c.self.view_is

at_is : (g : _) (c : goal.After-read_piece-arg-2-1 g) → c.self.inside.at ≡ c.args.self.now.at
at_is g c = ap (λ (v : ReaderValue). v.at) c.self.view_is

pub read_piece-requires-clause-within : goal.read_piece-requires-clause-within
read_piece-requires-clause-within g c =
    omega (
      arith,
      ap length (take_rest c.deref.result.now c.self.inside.from),
      ap (λ (l : List ℕ). length (drop c.self.inside.from l)) c.deref.ensures.value,
      ap (λ (v : ReaderValue). length v.ahead) c.self.view_is,
      ap length c.ahead.ensures,
      c.if-need-ahead.false,
      c.self.invariant.1,
      c.left.ensures,
      len_is g c,
      at_is g c,
      c.min-size.ensures,
      c.max.ensures,
    )

pub read_piece-requires-clause-limit : goal.read_piece-requires-clause-limit
read_piece-requires-clause-limit g c = omega (arith, c.min-size.ensures, c.left.ensures, len_is g c, at_is g c, c.self.invariant.2)

pub invariant_of-self : goal.invariant_of-self
invariant_of-self g c = (
  omega arith,
  omega (arith, c.in-Ok.ensures.fits, c.min-size.ensures, c.left.ensures, ap (λ (v : ReaderValue). v.len) c.self.view_is, ap (λ (v : ReaderValue). v.at) c.self.view_is),
  c.self.invariant.2,
)

pub returns-in-Ok-clause-at : goal.returns-in-Ok-clause-at
returns-in-Ok-clause-at g c = record { len = ap (λ (v : ReaderValue). v.len) c.self.view_is; at = ap (λ (v : ReaderValue). v.at) c.self.view_is }

pub returns-in-Ok-clause-reading : goal.returns-in-Ok-clause-reading
returns-in-Ok-clause-reading g c =
    told_filled _ _ _ _ c.in-Ok.bytes.items c.args.need c.min-size.result c.self.view_is
    (take_rest c.deref.result.now c.self.inside.from ∙ ap (drop c.self.inside.from) c.deref.ensures.value)
    (omega (arith, c.requires, c.left.ensures, c.min-size.ensures, c.max.ensures))
    (omega (arith, c.min-size.ensures, c.left.ensures, ap (λ (v : ReaderValue). v.len) c.self.view_is, ap (λ (v : ReaderValue). v.at) c.self.view_is)) c.in-Ok.ensures.bytes

pub returns-then-need-ahead-clause-as_before : goal.returns-then-need-ahead-clause-as_before
returns-then-need-ahead-clause-as_before g c = not_called g.D.Disk.reads_as g.D.Disk.images g.D.Disk.moment g.D.Disk.left_since g.met.D.Disk.only_now c.args.disk.now
