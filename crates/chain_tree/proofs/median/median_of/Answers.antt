use Rattle.std.proofs.Common.{ℕ, ◌/◌, List, get_or, ap, ◌∙◌}
use Rattle.chain_defs.proofs.MedianLaws.{median-sorted}
use Rattle.chain_tree.proofs.TimestampLemmas.{IsSortedOf-from_sort}
use Rattle.chain_tree.proofs.median.median_of.Goals as goal

pub returns : goal.returns
returns c =
    let numbers : List ℕ = c.args.timestamps.now in
    let ordered : List ℕ = c.sort_unstable.new.self in
    let sorts = c.sort_unstable.ensures in
    ap (λ (n : ℕ). get_or ordered (n / 2) 0) sorts.len
    ∙ median-sorted numbers ordered (IsSortedOf-from_sort numbers ordered sorts.permutation sorts.sorted) c.requires
