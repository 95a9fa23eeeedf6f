use Rattle.std.proofs.Common.{◌≡◌, arith}
use Rattle.std.specs.Str.{bytes_eq}
use Rattle.std.specs.HashMap.{get}
use Rattle.uncle_rules.proofs.LinkLemmas.{IsLinked-same}
use Rattle.uncle_rules.proofs.index.Uncles.reserve.Goals as goal

pub invariant_of-self-then-self-more : goal.invariant_of-self-then-self-more
invariant_of-self-then-self-more c =
    let old = c.self.inside in
    let entries : c.reserve.new.self.items ≡ old.entries.items = c.in_ok-reserve.ensures.items in (
      rw entries (IsLinked-same old.entries.items (get bytes_eq old.latest) (get bytes_eq c.reserve-then-self-more.new.self)
          c.self.invariant.0 c.in_ok-reserve-2.ensures.entries.2),
      omega (arith, c.in_ok-reserve.ensures.ok, c.reserve.new.self.ok),
      c.in_ok-reserve-2.ensures.ok,
    )
