use Rattle.std.proofs.Common.{List, ℕ, Some, refl, ap, arith}
use Rattle.chain_defs.proofs.MoleculeLaws.{IsDynvec_only}
use Rattle.mol_schema.proofs.Reading.{IsDynvec-from_layout, IsLaidOut-from_dynvec}
use Rattle.mol_schema.proofs.dynvec.check_dynvec.Goals as goal

pub invariant_of-result : goal.invariant_of-result
invariant_of-result c = IsDynvec-from_layout c.args.b.now (λ i. omega (arith, c.type_inv.b i)) (c.if-is_laid_out.ensures.0 refl)

pub returns-then-is_laid_out-clause-found : goal.returns-then-is_laid_out-clause-found
returns-then-is_laid_out-clause-found c = IsDynvec-from_layout c.args.b.now (λ i. omega (arith, c.type_inv.b i)) (c.if-is_laid_out.ensures.0 refl)

pub returns-then-is_laid_out-clause-only : goal.returns-then-is_laid_out-clause-only
returns-then-is_laid_out-clause-only c = λ items h. ap (λ (l : List (List ℕ)). Some l) (IsDynvec_only c.args.b.now items h)

pub returns-else-is_laid_out-clause-only : goal.returns-else-is_laid_out-clause-only
returns-else-is_laid_out-clause-only c = λ items h. let laid_out = c.if-is_laid_out.ensures.1 (IsLaidOut-from_dynvec c.args.b.now items h) in absurd cc
