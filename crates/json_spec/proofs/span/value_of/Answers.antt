use Rattle.std.proofs.Common.{◌+◌, ◌-◌, ◌*◌, ℕ, drop, slice_index, Some, sym, ap, ◌∙◌, arith}
use Rattle.json_spec.specs.Reading.{value_after}
use Rattle.json_spec.proofs.Walks.{no-room, at-mark, at-digit, at-end, of-equals, small}
use Rattle.json_spec.proofs.span.value_of.Goals as goal
use Rattle.json_spec.proofs.span.value_of.Goals.{then-is_mark, else-is_mark}

pub returns-then-is_full : goal.returns-then-is_full
returns-then-is_full c =
    sym (sym c.characters.invariant.0
    ∙ no-room c.characters.marks c.characters.first c.characters.second c.characters.third c.args.text.now c.characters.c-index c.is_full.result c.characters-test.true c.is_full.ensures c.if-is_full.true)

pub characters-preserved : goal.characters-preserved
characters-preserved c =
    let l = c.characters in
    let s = c.args.text.now in
    let at = c.characters.c-index in
    let few = small c.characters.marks c.characters.third c.is_full.result c.is_full.ensures c.if-is_full.false in
    elim c.if-is_mark.branch [
      | then-is_mark w ↦ (
        of-equals (c.characters.marks + 1) c.characters.second c.characters.third 0 _ _ _ _ (drop (c.characters.c-index + 1) c.args.text.now) (value_after 0 0 0 0 c.args.text.now) w.marks-is w.first-is w.second-is w.third-is
            (at-mark c.characters.marks c.characters.first c.characters.second c.characters.third c.args.text.now c.characters.c-index c.is_full.result c.characters-test.true c.is_full.ensures c.if-is_full.false (sym c.is_mark.ensures ∙ w.if-is_mark.true)
            ∙ c.characters.invariant.0),
        omega (arith, w.marks-is, few.0),
        omega (arith, w.first-is, c.characters.invariant.3),
        omega (arith, w.second-is, c.characters.invariant.4),
        omega (arith, w.third-is),
      )
      | else-is_mark w ↦ (
        of-equals c.characters.marks c.characters.first c.characters.second (c.characters.third * 10 + (slice_index c.args.text.now c.characters.c-index - 48)) _ _ _ _ (drop (c.characters.c-index + 1) c.args.text.now) (value_after 0 0 0 0 c.args.text.now)
            w.marks-is w.first-is w.second-is (w.third-is ∙ ap (λ (n : ℕ). c.characters.third * 10 + n) (w.from.ensures ∙ w.saturating_sub.ensures))
            (at-digit c.characters.marks c.characters.first c.characters.second c.characters.third c.args.text.now c.characters.c-index c.is_full.result c.characters-test.true c.is_full.ensures c.if-is_full.false (sym c.is_mark.ensures ∙ w.if-is_mark.false)
            ∙ c.characters.invariant.0),
        omega (arith, w.marks-is, c.characters.invariant.1),
        omega (arith, w.first-is, c.characters.invariant.2),
        omega (arith, w.second-is, c.characters.invariant.3),
        omega (arith, w.third-is, few.1, w.from.ensures, w.saturating_sub.ensures),
      )
    ]

pub returns : goal.returns
returns c =
    ap Some c.put_together.ensures
    ∙ sym (at-end c.characters.marks c.characters.first c.characters.second c.characters.third c.args.text.now c.characters.c-index (omega (arith, c.characters-test.false)))
    ∙ c.characters.invariant.0
