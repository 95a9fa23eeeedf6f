use Rattle.std.proofs.Common.{◌≡◌, ℕ, ◌+◌, ◌*◌, ◌<◌, ◌^◌, List, length, map, refl, ap, sym, ◌∙◌, arith, rules}
use Rattle.std.specs.Prelude.{is_some}
use Rattle.std.specs.List.{slice_range, concat}
use Rattle.std.proofs.lemmas.List.{take_rest}
use Rattle.chain_defs.specs.Ext.{count_at, row_bytes}
use Rattle.cell_state.proofs.ExtLemmas.{no_ext, by_rows, bytes_of_read, exact}
use Rattle.cell_state.proofs.ext.Ext.read.Goals as goal

pub returns-then-b-lt4-clause-found : goal.returns-then-b-lt4-clause-found
returns-then-b-lt4-clause-found c = sym (no_ext c.args.b.now (λ is. omega (arith, is, c.if-b-lt4.true)))

pub returns-then-b-rows_at-clause-found : goal.returns-then-b-rows_at-clause-found
returns-then-b-rows_at-clause-found c = sym (no_ext c.args.b.now (λ is. omega (arith, is, c.u32_at-fees.ensures.value, c.if-b-rows_at.true)))

pub returns-then-b-rows_at-2-clause-found : goal.returns-then-b-rows_at-2-clause-found
returns-then-b-rows_at-2-clause-found c =
    let b : List ℕ = c.args.b.now in
    let wrong : length b ≡ 4 + 8 * c.u32_at-fees.result + 4 + 161 * c.u32_at-rows.result → ⊥ = c.if-b-rows_at-2.true in
    let rows : c.u32_at-rows.result ≡ count_at b (4 + 8 * count_at b 0) = c.u32_at-rows.ensures.value ∙ ap (λ (n : ℕ). count_at b (4 + 8 * n)) c.u32_at-fees.ensures.value in
    sym (no_ext b (λ is. wrong (omega (arith, is, rows, c.u32_at-fees.ensures.value))))

pub returns-in-Ok-None-clause-found : goal.returns-in-Ok-None-clause-found
returns-in-Ok-None-clause-found c =
    sym (ap is_some c.in-Ok-None.field-0-is) ∙ c.in-Ok-None.ensures.found
    ∙ by_rows c.args.b.now _ c.u32_at-fees.result c.u32_at-rows.result c.u32_at-fees.ensures.value c.u32_at-rows.ensures.value c.if-b-rows_at-2.false (take_rest c.args.b.now (4 + 8 * c.u32_at-fees.result + 4))

pub returns-in-Ok-clause-found : goal.returns-in-Ok-clause-found
returns-in-Ok-clause-found c =
    sym (ap is_some c.in-Ok-Some.field-0-is) ∙ c.in-Ok-Some.ensures.found
    ∙ by_rows c.args.b.now _ c.u32_at-fees.result c.u32_at-rows.result c.u32_at-fees.ensures.value c.u32_at-rows.ensures.value c.if-b-rows_at-2.false (take_rest c.args.b.now (4 + 8 * c.u32_at-fees.result + 4))

pub returns-in-Ok-clause-bytes : goal.returns-in-Ok-clause-bytes
returns-in-Ok-clause-bytes c =
    let b : List ℕ = c.args.b.now in
    let fees : ℕ = c.u32_at-fees.result in
    let many : length c.in-Ok-Some.spent.items ≡ c.u32_at-rows.result = search rules in
    let rows : concat (map row_bytes c.in-Ok-Some.spent.items) ≡ slice_range b (4 + 8 * fees + 4) (length b) = search rules in
    bytes_of_read
    b
    _
    fees
    c.u32_at-rows.result
    (length b)
    c.in-Ok.ensures.count
    many
    c.u32_at-fees.ensures.bytes
    c.in-Ok.ensures.bytes
    c.u32_at-rows.ensures.bytes
    rows
    refl
    c.if-b-rows_at.false

pub returns-in-Ok-clause-fits : goal.returns-in-Ok-clause-fits
returns-in-Ok-clause-fits c =
    let many : length c.in-Ok-Some.spent.items ≡ c.u32_at-rows.result = search rules in
    let as_many = c.in-Ok.ensures.count in
    record { few_fees = omega (arith, as_many); fees = c.in-Ok.ensures.fits; few_rows = omega (arith, many); rows = search rules }

pub returns-then-b-lt4-clause-exact : goal.returns-then-b-lt4-clause-exact
returns-then-b-lt4-clause-exact c = exact _ _ (returns-then-b-lt4-clause-found c) tt tt

pub returns-then-b-rows_at-clause-exact : goal.returns-then-b-rows_at-clause-exact
returns-then-b-rows_at-clause-exact c = exact _ _ (returns-then-b-rows_at-clause-found c) tt tt

pub returns-then-b-rows_at-2-clause-exact : goal.returns-then-b-rows_at-2-clause-exact
returns-then-b-rows_at-2-clause-exact c = exact _ _ (returns-then-b-rows_at-2-clause-found c) tt tt

pub returns-in-Ok-None-clause-exact : goal.returns-in-Ok-None-clause-exact
returns-in-Ok-None-clause-exact c = exact _ _ (returns-in-Ok-None-clause-found c) tt tt

pub returns-in-Ok-clause-exact : goal.returns-in-Ok-clause-exact
returns-in-Ok-clause-exact c = exact _ _ (returns-in-Ok-clause-found c) (returns-in-Ok-clause-bytes c) (returns-in-Ok-clause-fits c)
