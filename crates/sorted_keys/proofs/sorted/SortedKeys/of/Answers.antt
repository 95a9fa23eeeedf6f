use Rattle.std.proofs.Common.{sym}
use Rattle.std.specs.Str.{bytes_eq}
use Rattle.std.proofs.lemmas.List.Sorted.{list_any-IsPermutation}
use Rattle.sorted_keys.proofs.sorted.SortedKeys.of.Goals as goal

pub returns : goal.returns
returns g c key = sym (list_any-IsPermutation (bytes_eq key) c.args.keys.items c.sort_unstable.new.self.items c.sort_unstable.ensures.permutation)
