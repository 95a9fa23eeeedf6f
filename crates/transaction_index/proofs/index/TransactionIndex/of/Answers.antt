use Rattle.std.proofs.Common.{List, sym, ap, ◌∙◌, subst, rules}
use Rattle.std.specs.List.Sorted.{IsSorted, IsSortedByKey}
use Rattle.std.specs.Ordering.{nat_cmp, is_lt}
use Rattle.std.specs.Cmp.Lexicographic.{slice_cmp}
use Rattle.std.proofs.lemmas.List.Sorted.{answers_always}
use Rattle.transaction_index.specs.declared.row.Row.{Row}
use Rattle.transaction_index.specs.Rows.{first_row, by_hash}
use Rattle.transaction_index.proofs.RowLemmas.{hashes-ordered, hashes-rise, sorted-first}
use Rattle.transaction_index.proofs.index.TransactionIndex.of.Goals as goal

pub invariant_of-result : goal.invariant_of-result
invariant_of-result c =
    let up : IsSorted by_hash c.sort_unstable_by.new.self.items =
    c.sort_unstable_by.ensures.sorted (λ (one other : Row). is_lt (by_hash one other)) hashes-ordered (answers_always _ _ _ (λ f a r g h. search rules)) in
    subst (λ (rows : List Row). IsSortedByKey (λ (row : Row). row.hash) (slice_cmp nat_cmp) rows) (sym c.shrink_to_fit.ensures.items)
    (hashes-rise c.sort_unstable_by.new.self.items up)

pub returns : goal.returns
returns c = λ order hash.
    let up : IsSorted by_hash c.sort_unstable_by.new.self.items =
    c.sort_unstable_by.ensures.sorted (λ (one other : Row). is_lt (by_hash one other)) hashes-ordered (answers_always _ _ _ (λ f a r g h. search rules)) in
    ap (λ (rows : List Row). first_row rows hash) c.shrink_to_fit.ensures.items
    ∙ sorted-first c.args.rows.items c.sort_unstable_by.new.self.items hash c.sort_unstable_by.ensures.permutation up order
