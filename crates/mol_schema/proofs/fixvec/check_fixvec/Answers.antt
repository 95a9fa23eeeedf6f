use Rattle.std.proofs.Common.{List, ℕ, Some, refl, ap, arith}
use Rattle.chain_defs.proofs.MoleculeLaws.{IsFixvec_only}
use Rattle.mol_schema.proofs.Reading.{IsFixvec-from_count, IsCounted-from_fixvec}
use Rattle.mol_schema.proofs.fixvec.check_fixvec.Goals as goal

pub invariant_of-result : goal.invariant_of-result
invariant_of-result c = IsFixvec-from_count c.args.item c.args.b.now (λ i. omega (arith, c.type_inv.b i)) (c.if-is_counted.ensures.0 refl)

pub returns-then-is_counted-clause-found : goal.returns-then-is_counted-clause-found
returns-then-is_counted-clause-found c = IsFixvec-from_count c.args.item c.args.b.now (λ i. omega (arith, c.type_inv.b i)) (c.if-is_counted.ensures.0 refl)

pub returns-then-is_counted-clause-only : goal.returns-then-is_counted-clause-only
returns-then-is_counted-clause-only c = λ items h. ap (λ (l : List (List ℕ)). Some l) (IsFixvec_only c.args.item c.args.b.now items h)

pub returns-else-is_counted-clause-only : goal.returns-else-is_counted-clause-only
returns-else-is_counted-clause-only c = λ items h. let counted = c.if-is_counted.ensures.1 (IsCounted-from_fixvec c.args.item c.args.b.now items h) in absurd cc
