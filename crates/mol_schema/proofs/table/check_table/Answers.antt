use Rattle.std.proofs.Common.{List, ℕ, Some, ap, sym, ◌∙◌, arith}
use Rattle.chain_defs.proofs.MoleculeLaws.{IsTable_only}
use Rattle.mol_schema.proofs.Reading.{IsTable-from_layout, IsDynvec-from_table, IsLaidOut-from_dynvec, part_count-table}
use Rattle.mol_schema.proofs.table.check_table.Goals as goal

pub count_parts-requires : goal.count_parts-requires
count_parts-requires g c = c.has_count.ensures.some c.if-not-has_count.false

pub invariant_of-result : goal.invariant_of-result
invariant_of-result g c = IsTable-from_layout g.row.N c.args.b.now (λ i. omega (arith, c.type_inv.b i)) (c.is_laid_out_by.ensures.0 c.if-not-is_laid_out_by.false) (sym c.count_parts.ensures.value ∙ c.if-count_parts.false)

pub returns-clause-found : goal.returns-clause-found
returns-clause-found g c = IsTable-from_layout g.row.N c.args.b.now (λ i. omega (arith, c.type_inv.b i)) (c.is_laid_out_by.ensures.0 c.if-not-is_laid_out_by.false) (sym c.count_parts.ensures.value ∙ c.if-count_parts.false)

pub returns-clause-only : goal.returns-clause-only
returns-clause-only g c = λ fields h. ap (λ (l : List (List ℕ)). Some l) (IsTable_only g.row.N c.args.b.now fields h)

pub returns-then-not-has_count-clause-only : goal.returns-then-not-has_count-clause-only
returns-then-not-has_count-clause-only g c = λ fields h.
    absurd (c.has_count.ensures.none c.if-not-has_count.true (IsLaidOut-from_dynvec c.args.b.now fields (IsDynvec-from_table g.row.N c.args.b.now fields h)))

pub returns-then-count_parts-clause-only : goal.returns-then-count_parts-clause-only
returns-then-count_parts-clause-only g c = λ fields h.
    absurd (c.if-count_parts.true (c.count_parts.ensures.value ∙ part_count-table g.row.N c.args.b.now fields h))

pub returns-then-not-is_laid_out_by-clause-only : goal.returns-then-not-is_laid_out_by-clause-only
returns-then-not-is_laid_out_by-clause-only g c = λ fields h.
    let laid_out = c.is_laid_out_by.ensures.1 (IsLaidOut-from_dynvec c.args.b.now fields (IsDynvec-from_table g.row.N c.args.b.now fields h)) in absurd cc
