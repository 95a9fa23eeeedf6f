use Rattle.std.proofs.Common.{inl, inr, arith, sym, subst, ◌≡◌, ℕ, ◌*◌, ◌+◌, drop, get_or}
use Rattle.rv_text.specs.Reading.{leading}
use Rattle.rv_text.proofs.Steps.{digit-true, digit-low, digit-high, leading-done, leading-goes, leading-ends}
use Rattle.rv_text.proofs.read.leading.Goals as goal
use Rattle.rv_text.proofs.read.leading.Goals.{then-byte-lt48-via-then-byte-lt48, then-byte-lt48-via-else-byte-lt48+then-byte-gt57, then-byte-lt48-via-else-byte-lt48+else-byte-gt57+then-number-ge10000000}

pub returns-then-byte-lt48 : goal.returns-then-byte-lt48
returns-then-byte-lt48 c =
    elim c.then-byte-lt48.branch [
      | then-byte-lt48-via-then-byte-lt48 w ↦ leading-done c.args.text.now c.loop-at.number c.loop-at.at (omega arith) (inl (digit-low _ w.if-byte-lt48.true)) c.loop-at.invariant.0
      | then-byte-lt48-via-else-byte-lt48+then-byte-gt57 w ↦ leading-done c.args.text.now c.loop-at.number c.loop-at.at (omega arith) (inl (digit-high (get_or c.args.text.now c.loop-at.at 0) (omega (arith, w.if-byte-gt57.true)))) c.loop-at.invariant.0
      | then-byte-lt48-via-else-byte-lt48+else-byte-gt57+then-number-ge10000000 w ↦ leading-done c.args.text.now c.loop-at.number c.loop-at.at (omega arith) (inr (omega (arith, w.if-number-ge10000000.true))) c.loop-at.invariant.0
    ]

pub loop-at-preserved : goal.loop-at-preserved
loop-at-preserved c =
    let more = leading-goes c.args.text.now c.loop-at.number c.loop-at.at (omega arith) (digit-true _ c.if-byte-lt48.false c.if-byte-gt57.false) (omega arith) c.loop-at.invariant.0 in
    let P : ℕ → Type 0 = λ d. leading 0 c.args.text.now ≡ leading (c.loop-at.number * 10 + d) (drop (c.loop-at.at + 1) c.args.text.now) in
    (subst P (sym c.from.ensures) more, omega arith)

pub returns : goal.returns
returns c = leading-ends c.args.text.now c.loop-at.number c.loop-at.at (omega arith) c.loop-at.invariant.0
