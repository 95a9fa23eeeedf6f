use Rattle.std.proofs.Common.{◌≡◌, [], ◌∷◌, ◌++◌, refl, ap, sym, ◌∙◌, subst, arith, append-nil}
use Rattle.std.specs.Prelude.{Err}
use Rattle.outside.specs.Streams.{Gives}
use Rattle.outside.proofs.Endings.{after_still, counts-as, no_answer}
use Rattle.outside.proofs.Streams.{gives_none, gives_more}
use Rattle.run_text.specs.Items.{IsReadingStop}
use Rattle.run_text.proofs.Exits.{same_stop}
use Rattle.run_ask.specs.Reading.{IsBegun}
use Rattle.run_ask.proofs.NextLemmas.{line_limit-is, begun_none, begun_more, is_line, ended}
use Rattle.run_ask.proofs.next.next_line.Goals as goal

pub bytes-init : goal.bytes-init
bytes-init g c =
    let none = c.new-line.ensures.items in
    let left = g.S.Source.left c.args.input.now in
    record {
      gives = subst (λ items. Gives left left items) (sym none) (gives_none left);
      begun = subst IsBegun (sym none) begun_none;
      unchanged = refl;
    }

pub returns-then-byte-eq10-clause-line : goal.returns-then-byte-eq10-clause-line
returns-then-byte-eq10-clause-line g c =
    let line = c.bytes.line.items in
    let byte = c.in-Ok-Some.ensures.byte in
    let one = rw c.in-Ok-Some.field-0-is at byte.2 in
    let feed : c.in-Ok-Some.byte ≡ 10 = omega (arith, c.if-byte-eq10.true) in (
      line ++ byte.0,
      gives_more (g.S.Source.left c.args.input.now) (g.S.Source.left c.bytes.input) (g.S.Source.left c.next_byte.new.input) line byte.0 c.bytes.invariant.gives byte.1,
      (is_line line c.bytes.invariant.begun (omega (arith, c.len.ensures, c.bytes-test.true, c.bytes.line.ok)), ap (λ l. line ++ l) (one ∙ ap (λ n. n ∷ []) feed)),
    )

pub bytes-preserved : goal.bytes-preserved
bytes-preserved g c =
    let line = c.bytes.line.items in
    let byte = c.in-Ok-Some.ensures.byte in
    let one = rw c.in-Ok-Some.field-0-is at byte.2 in
    let grown = c.in-Ok.ensures.items in
    record {
      gives = subst (λ items. Gives (g.S.Source.left c.args.input.now) (g.S.Source.left c.next_byte.new.input) items) (ap (λ l. line ++ l) one ∙ sym grown)
          (gives_more (g.S.Source.left c.args.input.now) (g.S.Source.left c.bytes.input) (g.S.Source.left c.next_byte.new.input) line byte.0 c.bytes.invariant.gives byte.1);
      begun = subst IsBegun (sym grown)
          (begun_more line c.in-Ok-Some.byte c.bytes.invariant.begun (omega (arith, c.len.ensures, c.bytes-test.true, c.bytes.line.ok)) (λ feed. omega (arith, c.if-byte-eq10.false, feed)));
      unchanged = c.in-Ok-Some.ensures.faults.unchanged (no_answer _ _) ∙ c.bytes.invariant.unchanged;
    }

pub returns-in-Err-push-clause-line : goal.returns-in-Err-push-clause-line
returns-in-Err-push-clause-line g c =
    let line = c.bytes.line.items in
    let byte = c.in-Ok-Some.ensures.byte in
    let one = rw c.in-Ok-Some.field-0-is at byte.2 in (
      line ++ byte.0,
      gives_more (g.S.Source.left c.args.input.now) (g.S.Source.left c.bytes.input) (g.S.Source.left c.next_byte.new.input) line byte.0 c.bytes.invariant.gives byte.1,
      (
        tt,
        subst IsBegun (ap (λ l. line ++ l) (sym one))
            (begun_more line c.in-Ok-Some.byte c.bytes.invariant.begun (omega (arith, c.len.ensures, c.bytes-test.true, c.bytes.line.ok)) (λ feed. omega (arith, c.if-byte-eq10.false, feed))),
      ),
    )

pub returns-clause-line : goal.returns-clause-line
returns-clause-line g c = (
  c.bytes.line.items,
  c.bytes.invariant.gives,
  (c.bytes.invariant.begun.unbroken, omega (arith, c.bytes.invariant.begun.short, line_limit-is, c.len.ensures, c.bytes-test.false, c.bytes.line.ok)),
)

pub returns-in-Ok-None-clause-line : goal.returns-in-Ok-None-clause-line
returns-in-Ok-None-clause-line g c =
    let line = c.bytes.line.items in
    let byte = c.in-Ok-None.ensures.byte in
    let left = g.S.Source.left c.next_byte.new.input in
    let ends = rw c.in-Ok-None.field-0-is at byte.2 in (
      line ++ byte.0,
      gives_more (g.S.Source.left c.args.input.now) (g.S.Source.left c.bytes.input) left line byte.0 c.bytes.invariant.gives byte.1,
      ended left c.bytes.line (line ++ byte.0) c.last_line.result c.last_line.ensures (ap (λ l. line ++ l) ends.0 ∙ append-nil line) c.bytes.invariant.begun
          (omega (arith, c.len.ensures, c.bytes-test.true, c.bytes.line.ok)) ends.1,
    )

pub returns-in-Err-clause-line : goal.returns-in-Err-clause-line
returns-in-Err-clause-line g c =
    let line = c.bytes.line.items in
    let byte = c.in-Err.ensures.byte in (
      line ++ byte.0,
      gives_more (g.S.Source.left c.args.input.now) (g.S.Source.left c.bytes.input) (g.S.Source.left c.next_byte.new.input) line byte.0 c.bytes.invariant.gives byte.1,
      (subst IsReadingStop (sym byte.2.0) tt, subst IsBegun (sym (ap (λ l. line ++ l) byte.2.1 ∙ append-nil line)) c.bytes.invariant.begun),
    )

pub returns-in-Err-clause-faults : goal.returns-in-Err-clause-faults
returns-in-Err-clause-faults g c = after_still c.bytes.invariant.unchanged (counts-as c.in-Err.ensures.faults (λ e. ap Err (same_stop _ _ e)) (λ e. ap Err (same_stop _ _ e)))
