use Rattle.std.proofs.Common.{◌≡◌, ℕ, ◌+◌, ◌-◌, ◌*◌, ◌%◌, ◌^◌, ◌<◌, ◌≤◌, ap, subst, sym, ◌∙◌}
use Rattle.std.proofs.lemmas.Nat.{shl_below, shl_whole}
use Rattle.rv_decode.proofs.fields.part.Goals as goal

-- no bit is shifted out
whole : (n width place : ℕ) → n < 2 ^ width → width + place ≤ 32 → (n * 2 ^ place) % 2 ^ 32 ≡ n * 2 ^ place
whole n width place bound fits = shl_whole n width place 32 bound fits

below : (n width place : ℕ) → n < 2 ^ width → width + place ≤ 32 → (n * 2 ^ place) % 2 ^ 32 < 2 ^ (width + place)
below n width place bound fits =
    subst (λ (m : ℕ). m < 2 ^ (width + place)) (sym (whole n width place bound fits)) (shl_below n width place bound)

pub returns-clause-part : goal.returns-clause-part
returns-clause-part c =
    whole c.bits.result (c.args.high - c.args.low + 1) c.args.place c.bits.ensures.bound c.requires.fits
    ∙ ap (λ n. n * 2 ^ c.args.place) c.bits.ensures.field

pub returns-clause-bound : goal.returns-clause-bound
returns-clause-bound c =
    below c.bits.result (c.args.high - c.args.low + 1) c.args.place c.bits.ensures.bound c.requires.fits
