use Rattle.std.proofs.Common.{◌≡◌, ◌<◌, length, ap, ◌∙◌, arith}
use Rattle.std.specs.Str.{bytes_eq}
use Rattle.std.specs.HashMap.{get}
use Rattle.uncle_rules.specs.Embedded.{UnclesValue}
use Rattle.uncle_rules.proofs.LinkLemmas.{IsLinked-push}
use Rattle.uncle_rules.proofs.index.Uncles.push.Goals as goal

pub invariant_of-self : goal.invariant_of-self
invariant_of-self c =
    let old = c.self.inside in
    let spare : old.spare ≡ c.args.self.now.spare = ap (λ (v : UnclesValue). v.spare) c.self.view_is in
    let some : 0 < old.spare = omega (arith, spare, c.requires) in
    let index : c.len-index.result ≡ length old.entries.items = omega (arith, c.len-index.ensures, old.entries.ok) in (
      rw c.push_reserved.ensures.items
          (IsLinked-push old.entries.items (get bytes_eq old.latest) (get bytes_eq c.insert-added.new.self) _
          c.len-index.result c.self.invariant.0 index (c.copied-earlier.ensures ∙ c.get.ensures.value)
          (rw c.unwrap.ensures at c.insert-added.ensures.updates).0),
      omega (arith, c.push_reserved.ensures.len, c.push_reserved.ensures.capacity, c.push_reserved.new.self.ok, old.entries.ok, c.self.invariant.1, some),
      omega (arith, c.insert-added.ensures.spare, c.self.invariant.2, some),
    )
