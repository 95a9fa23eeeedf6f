use Rattle.std.proofs.Common.{ℕ, List, length, ap, ◌∙◌, subst}
use Rattle.std.specs.List.{list_any}
use Rattle.std.specs.List.Sorted.{IsBinarySearchResult, IsSearchInRange}
use Rattle.std.specs.Ordering.{nat_cmp}
use Rattle.std.specs.Cmp.Lexicographic.{slice_cmp}
use Rattle.std.specs.Str.{bytes_eq}
use Rattle.sorted_keys.proofs.KeyLemmas.{found}
use Rattle.sorted_keys.proofs.sorted.SortedKeys.contains.Goals as goal

pub returns : goal.returns
returns g c =
    c.is_ok.ensures.value
    ∙ found c.self.inside.keys.items c.args.key.now c.binary_search.result c.self.invariant
    (subst (λ (keys : List (List ℕ)). IsSearchInRange c.binary_search.result (length keys)) c.deref.ensures.value c.binary_search.ensures.bound)
    (subst (λ (keys : List (List ℕ)). IsBinarySearchResult (λ y. slice_cmp nat_cmp y c.args.key.now) keys c.binary_search.result) c.deref.ensures.value c.binary_search.ensures.position)
    ∙ ap (list_any (bytes_eq c.args.key.now)) c.self.view_is
