use Rattle.std.proofs.Common.{List, ℕ, ap, arith}
use Rattle.std.specs.Str.{bytes_eq}
use Rattle.std.specs.Map.{lookup}
use Rattle.std.specs.HashMap.{get}
use Rattle.uncle_rules.proofs.LinkLemmas.{IsLinked-none}
use Rattle.uncle_rules.proofs.index.Uncles.new.Goals as goal

pub invariant_of-result : goal.invariant_of-result
invariant_of-result c = (
  rw c.new.ensures.items (IsLinked-none (get bytes_eq c.new-2.result) (λ hash. ap (λ (es : List (List ℕ × ℕ)). lookup (bytes_eq hash) es) c.new-2.ensures.empty)),
  omega (arith, c.new.result.ok),
  omega arith,
)
