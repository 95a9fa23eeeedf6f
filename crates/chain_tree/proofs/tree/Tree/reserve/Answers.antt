use Rattle.std.proofs.Common.{◌≡◌, arith}
use Rattle.std.specs.Str.{bytes_eq}
use Rattle.std.specs.HashMap.{get}
use Rattle.chain_tree.proofs.IndexLemmas.{IsIndexed-same}
use Rattle.chain_tree.proofs.tree.Tree.reserve.Goals as goal

pub invariant_of-self-then-self-eq0 : goal.invariant_of-self-then-self-eq0
invariant_of-self-then-self-eq0 c =
    let old = c.self.inside in
    let entries : c.reserve.new.self.items ≡ old.entries.items = c.in_ok-reserve.ensures.items in
    let jumps : c.reserve-then-self-eq0.new.self.items ≡ old.jumps.items = c.in_ok-reserve-2.ensures.items in (
      rw (entries, jumps) (IsIndexed-same old.entries.items old.jumps.items (get bytes_eq old.places) (get bytes_eq c.reserve-then-self-eq0-2.new.self)
          old.tip c.self.invariant.0 c.in_ok-reserve-3.ensures.entries.2),
      omega (arith, c.in_ok-reserve.ensures.ok, c.reserve.new.self.ok),
      omega (arith, c.in_ok-reserve-2.ensures.ok, c.reserve-then-self-eq0.new.self.ok),
      c.in_ok-reserve-3.ensures.ok,
    )
