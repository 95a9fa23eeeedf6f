use Rattle.std.proofs.Common.{◌≡◌, true, arith, rules, sym, ◌∙◌}
use Rattle.std.specs.Prelude.{◌==◌}
use Rattle.std.specs.List.{slice_range, list_all}
use Rattle.cell_state.proofs.RowByteLemmas.{no_hash}
use Rattle.cell_state.proofs.row.type_hash_in.Goals as goal

pub returns-then-is_zero-clause-bytes : goal.returns-then-is_zero-clause-bytes
returns-then-is_zero-clause-bytes c =
    let zero : list_all (λ b. b == 0) (slice_range c.args.row.now 93 125) ≡ true = sym c.is_zero.ensures ∙ c.if-is_zero.true in
    no_hash c.args.row.now 92 32 (omega (arith, c.requires)) (search rules) zero
