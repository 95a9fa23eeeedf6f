use Rattle.std.proofs.Common.{◌≡◌, ◌*ℤ◌, ap, ◌∙◌, w64, to_z, FitsSigned, rules}
use Rattle.std.proofs.lemmas.Int.{to_z-of_z}
use Rattle.machine_defs.specs.Alu.{high}
use Rattle.rv_alu.proofs.Products.{wide-product}
use Rattle.rv_alu.proofs.product.high_signed.Goals as goal

pub returns : goal.returns
returns c =
    let fits : FitsSigned w64 c.cast_signed.result = search rules in
    let fits' : FitsSigned w64 c.cast_signed-2.result = search rules in
    let first : c.from.result ≡ c.cast_signed.result = c.from.ensures ∙ to_z-of_z w64 c.cast_signed.result fits in
    let second : c.from-2.result ≡ c.cast_signed-2.result = c.from-2.ensures ∙ to_z-of_z w64 c.cast_signed-2.result fits' in
    let whole = wide-product c.cast_signed.result c.cast_signed-2.result fits fits' in
    c.high.ensures ∙ ap high (
    rw first (rw second (whole ∙ ap (λ z. z *ℤ c.cast_signed-2.result) c.cast_signed.ensures ∙ ap (λ z. to_z w64 c.args.a *ℤ z) c.cast_signed-2.ensures)))
