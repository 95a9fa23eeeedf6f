use Rattle.std.proofs.Common.{◌≡◌, ◌≤◌, ◌<◌, true, false, List, length, ap, ◌∙◌, rules}
use Rattle.std.specs.List.Sorted.{IsNonDecreasingBy, IsPartitionPoint}
use Rattle.std.proofs.lemmas.List.Sorted.{IsPartitionPoint-from_clause}
use Rattle.transaction_index.specs.declared.row.Row.{Row}
use Rattle.transaction_index.specs.Rows.{first_row, is_before}
use Rattle.transaction_index.proofs.RowLemmas.{standing, rising, parted, none-past, some-there, none-there}
use Rattle.transaction_index.proofs.index.TransactionIndex.find.Goals as goal

pub returns-then-at-len : goal.returns-then-at-len
returns-then-at-len c =
    let rows : List Row = c.self.inside.rows.items in
    let hash = c.args.hash.now in
    let rises : IsNonDecreasingBy (standing hash) rows = rising rows hash c.self.invariant in
    let point : IsPartitionPoint (λ (row : Row). is_before hash row ≡ true) (λ (row : Row). is_before hash row ≡ false) rows c.partition_point-at.result =
    IsPartitionPoint-from_clause (is_before hash) rows c.partition_point-at.result
    (rw c.deref.ensures.value at c.partition_point-at.ensures.partitioned) (parted rows hash rises) (λ a r f h. search rules) in
    let past : length rows ≤ c.partition_point-at.result = search rules in
    none-past rows hash c.partition_point-at.result rises point (record { hash = hash; number = 0; place = 0 }) past ∙ ap (λ (them : List Row). first_row them hash) c.self.view_is

pub returns-then-eq : goal.returns-then-eq
returns-then-eq c =
    let rows : List Row = c.self.inside.rows.items in
    let hash = c.args.hash.now in
    let row : Row = c.index.result.now in
    let rises : IsNonDecreasingBy (standing hash) rows = rising rows hash c.self.invariant in
    let point : IsPartitionPoint (λ (row : Row). is_before hash row ≡ true) (λ (row : Row). is_before hash row ≡ false) rows c.partition_point-at.result =
    IsPartitionPoint-from_clause (is_before hash) rows c.partition_point-at.result
    (rw c.deref.ensures.value at c.partition_point-at.ensures.partitioned) (parted rows hash rises) (λ a r f h. search rules) in
    let within : c.partition_point-at.result < length rows = search rules in
    some-there rows hash c.partition_point-at.result rises point row within c.index.ensures (search rules) ∙ ap (λ (them : List Row). first_row them hash) c.self.view_is

pub returns-else-eq : goal.returns-else-eq
returns-else-eq c =
    let rows : List Row = c.self.inside.rows.items in
    let hash = c.args.hash.now in
    let row : Row = c.index.result.now in
    let rises : IsNonDecreasingBy (standing hash) rows = rising rows hash c.self.invariant in
    let point : IsPartitionPoint (λ (row : Row). is_before hash row ≡ true) (λ (row : Row). is_before hash row ≡ false) rows c.partition_point-at.result =
    IsPartitionPoint-from_clause (is_before hash) rows c.partition_point-at.result
    (rw c.deref.ensures.value at c.partition_point-at.ensures.partitioned) (parted rows hash rises) (λ a r f h. search rules) in
    let within : c.partition_point-at.result < length rows = search rules in
    none-there rows hash c.partition_point-at.result rises point row within c.index.ensures (search rules) ∙ ap (λ (them : List Row). first_row them hash) c.self.view_is
