use Rattle.std.proofs.Common.{◌≡◌, ◌≢◌, ℕ, ℤ, ◌+◌, ◌%◌, ◌<◌, MatchOption, subst, w64}
use Rattle.std.proofs.lemmas.Int.{to_z-of_z}
use Rattle.rv_text.specs.Words.{extended}
use Rattle.rv_text.proofs.Widths.{by_width}
use Rattle.rv_text.proofs.encode.number_bits.Goals as goal

pub returns : goal.returns
returns c =
    let P : ℤ → Type 0 =
    λ z. MatchOption c.bits_under.result ((n : ℕ) → n < c.args.half + c.args.half → n % c.args.unit ≡ 0 → z ≢ extended c.args.half n)
    (λ n. (n < c.args.half + c.args.half) × (n % c.args.unit ≡ 0) × (z ≡ extended c.args.half n)) in
    by_width c.args.width c.args.half c.args.unit c.args.imm c.bits_under.result c.requires.half c.requires.span
    (subst P (to_z-of_z w64 c.args.imm c.ranges.imm) c.bits_under.ensures)
