use Rattle.std.proofs.Common.{◌≡◌, ◌+◌, ◌≤◌, length, map, drop, sum}
use Rattle.run_text.proofs.WholeLemmas.{HasReadItems}
use Rattle.run_text.proofs.whole.read_whole.Given as goal

abbrev pub invariant-items : goal.invariant-items
invariant-items g l = record {
  read : HasReadItems l.fn.limits (g.S.Source.left l.fn.input) (g.S.Source.left l.input) (map (λ item. item.items) l.items.items) l.offset;
  count : length l.items.items ≡ l.limit-index;
  fits : l.offset + sum (drop l.limit-index l.fn.limits) ≤ sum l.fn.limits;
  unchanged : g.S.Source.faults l.input ≡ g.S.Source.faults l.fn.input;
}
