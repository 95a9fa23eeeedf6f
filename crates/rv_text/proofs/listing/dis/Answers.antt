use Rattle.std.proofs.Common.{◌≡◌, ℕ, List, ◌++◌, drop, length, ap, sym, subst, ◌∙◌, ◌≤◌, length-drop, arith}
use Rattle.std.proofs.lemmas.List.{take_rest}
use Rattle.machine_defs.specs.Listing.{first_part, line, lines_from}
use Rattle.rv_text.proofs.ListingLaws.{begun, gone-on, ended}
use Rattle.rv_text.proofs.listing.dis.Goals as goal

pub loop-at-init : goal.loop-at-init
loop-at-init c =
    let b = begun c.args.code.now in
    (omega arith, b.0, b.1, b.2 ∙ ap (λ x. x ++ lines_from b.0 0 c.args.code.now) (sym c.new-text.ensures.items))

pub loop-at-preserved : goal.loop-at-preserved
loop-at-preserved c =
    let so = c.loop-at.invariant in
    let T : List ℕ → Type 0 = λ xs. c.line_of-line.result.0 ≡ line c.loop-at.at (first_part xs).0 in
    let N : List ℕ → Type 0 = λ xs. c.line_of-line.result.1 ≡ (first_part xs).1 in
    let rest = take_rest c.args.code.now c.loop-at.at in
    let L : List ℕ → Type 0 = λ xs. c.line_of-line.result.1 ≤ length xs in
    let within : c.line_of-line.result.1 ≤ length (drop c.loop-at.at c.args.code.now) = subst L rest c.line_of-line.ensures.within in
    let next = gone-on c.args.code.now c.loop-at.text.items c.line_of-line.result.0 c.extend_from_slice.new.self.items c.loop-at.at so.1 c.line_of-line.result.1
    (omega arith) so.2 so.3 (subst T rest c.line_of-line.ensures.text) (subst N rest c.line_of-line.ensures.length) c.line_of-line.ensures.some
    (c.in_ok-extend_from_slice.ensures.items ∙ ap (λ x. c.loop-at.text.items ++ x) c.as_slice.ensures) in
    (omega (arith, within, length-drop c.loop-at.at c.args.code.now), next.0, next.1, next.2)

pub returns : goal.returns
returns c = let so = c.loop-at.invariant in ended c.args.code.now c.loop-at.text.items c.loop-at.at so.1 (omega arith) so.3
