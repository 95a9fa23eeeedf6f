use Rattle.std.proofs.Common.{◌≡◌, ℕ, List, ◌+◌, ◌-◌, ◌≤◌, drop, take, length, length-drop, ap, subst, ◌∙◌, arith}
use Rattle.std.proofs.lemmas.List.{take_rest}
use Rattle.rv_text.specs.Reading.{line_end}
use Rattle.machine_defs.specs.Assembly.{IsLineOf}
use Rattle.rv_text.proofs.Lines.{stopped, step, all-done}
use Rattle.rv_text.proofs.assembly.assemble.Goals as goal

pub returns-in-Err-clause-stop : goal.returns-in-Err-clause-stop
returns-in-Err-clause-stop c =
    let k : ℕ = c.line_end.result in
    let end : k ≡ line_end (drop c.loop-at.at c.args.text.now) = c.line_end.ensures.end ∙ ap line_end (take_rest c.args.text.now c.loop-at.at) in
    let size : c.loop-at.at + k - c.loop-at.at ≡ k = omega arith in
    stopped c.args.text.now c.loop-at.at k c.loop-at.before c.loop-at.code.items (take (c.loop-at.at + k - c.loop-at.at) (drop c.loop-at.at c.args.text.now)) c.in-Err.stop
    (omega arith) end c.loop-at.invariant.2 (ap (λ n. take n (drop c.loop-at.at c.args.text.now)) size) c.in-Err.ensures.stop

pub loop-at-preserved : goal.loop-at-preserved
loop-at-preserved c =
    let k : ℕ = c.line_end.result in
    let end : k ≡ line_end (drop c.loop-at.at c.args.text.now) = c.line_end.ensures.end ∙ ap line_end (take_rest c.args.text.now c.loop-at.at) in
    let size : c.loop-at.at + k - c.loop-at.at ≡ k = omega arith in
    let here = c.in-Ok.ensures.bytes in
    let P : ℕ → Type 0 = λ n. IsLineOf (take n (drop c.loop-at.at c.args.text.now)) here.0 in
    let L : List ℕ → Type 0 = λ x. k ≤ length x in
    let within : k ≤ length (drop c.loop-at.at c.args.text.now) = subst L (take_rest c.args.text.now c.loop-at.at) c.line_end.ensures.within in (
      omega arith,
      omega (arith, within, length-drop c.loop-at.at c.args.text.now),
      step c.args.text.now c.loop-at.at k c.loop-at.before c.loop-at.code.items here.0 c.append_line.new.code.items (omega arith) end c.loop-at.invariant.2
          (subst P size here.1) here.2,
    )

pub returns-clause-words : goal.returns-clause-words
returns-clause-words c = all-done c.args.text.now c.loop-at.at c.loop-at.before c.loop-at.code.items (omega arith) c.loop-at.invariant.2
