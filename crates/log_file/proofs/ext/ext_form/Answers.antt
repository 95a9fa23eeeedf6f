use Rattle.std.proofs.Common.{◌≡◌, ℕ, ◌+◌, ◌*◌, length, ap, sym, ◌∙◌, arith, rules}
use Rattle.std.proofs.lemmas.Bool.{ne_eqb}
use Rattle.std.proofs.lemmas.List.{take_rest}
use Rattle.chain_defs.specs.Ext.{count_at}
use Rattle.log_file.proofs.Forms.{ext-wrong, ext-right}
use Rattle.log_file.proofs.ext.ext_form.Goals as goal

pub returns-then-b-lt4 : goal.returns-then-b-lt4
returns-then-b-lt4 c = sym (ext-wrong c.args.b.now (λ is. omega (arith, is, c.if-b-lt4.true)))

pub returns-then-b-rows_at : goal.returns-then-b-rows_at
returns-then-b-rows_at c = sym (ext-wrong c.args.b.now (λ is. omega (arith, is, c.read_count.ensures.value, c.if-b-rows_at.true)))

pub returns-then-b-rows_at-2 : goal.returns-then-b-rows_at-2
returns-then-b-rows_at-2 c =
    c.are_rows.ensures ∙ ext-right c.args.b.now _ c.read_count.result c.read_count-rows.result c.read_count.ensures.value c.read_count-rows.ensures.value (search rules) (take_rest c.args.b.now (4 + 8 * c.read_count.result + 4))

pub returns-else-b-rows_at-2 : goal.returns-else-b-rows_at-2
returns-else-b-rows_at-2 c =
    let second : c.read_count-rows.result ≡ count_at c.args.b.now (4 + 8 * count_at c.args.b.now 0) =
    c.read_count-rows.ensures.value ∙ ap (λ (n : ℕ). count_at c.args.b.now (4 + 8 * n)) c.read_count.ensures.value in
    let wrong : length c.args.b.now ≡ 4 + 8 * c.read_count.result + 4 + 161 * c.read_count-rows.result → ⊥ = c.if-b-rows_at-2.false in
    ne_eqb _ _ wrong ∙ sym (ext-wrong c.args.b.now (λ is. wrong (omega (arith, is, second, c.read_count.ensures.value))))
