use Rattle.std.proofs.Common.{◌≡◌, ◌+◌, ◌<◌, ◌^◌, ℕ, true, cond, List, Option, Some, None, is_some, length, refl, sym, ap, ◌∙◌, arith, rules}
use Rattle.std.specs.List.{sum_by}
use Rattle.std.specs.Map.{lookup, values_of}
use Rattle.std.specs.BTreeMap.{insert_entry, is_at}
use Rattle.std.specs.Ordering.{nat_cmp, is_eq}
use Rattle.std.specs.Cmp.Lexicographic.{slice_cmp}
use Rattle.chain_defs.specs.Row.{Row}
use Rattle.chain_defs.specs.ByLock.{of_lock}
use Rattle.chain_defs.proofs.NamingLemmas.{true-false}
use Rattle.cell_index.specs.Index.{Key, IndexValue, at, key_of, key_cmp, counts, holds, total_of}
use Rattle.cell_index.proofs.EntryLemmas.{with-one, fits-more, totalled-more, not-there}
use Rattle.cell_index.proofs.index.Index.with.Goals as goal

pub returns-then-is_some-clause-odd : goal.returns-then-is_some-clause-odd
returns-then-is_some-clause-odd c rows has free same =
    let lock = c.row.inside.lock_hash in
    let entries = c.self.inside.rows.entries in
    let none : at entries lock c.args.o ≡ None =
    ap (λ (v : IndexValue). at v.entries lock c.args.o) c.self.view_is ∙ has lock c.args.o ∙ ap (of_lock lock) free in
    let found : true ≡ is_some (at entries lock c.args.o) =
    sym c.if-is_some.true ∙ c.is_some.ensures ∙ ap is_some (c.in-Ok.ensures.old ∙ ap (λ (k : Key). lookup (is_at (key_cmp k)) entries) c.key_by-key.ensures.key) in
    true-false true refl (found ∙ ap is_some none)

pub overflow_add-count : goal.overflow_add-count
overflow_add-count c =
    let lock = c.row.inside.lock_hash in
    let entries = c.self.inside.rows.entries in
    let count : c.total-count.result.0 ≡ sum_by (counts lock) (values_of entries) =
    ap (λ (t : ℕ × ℕ). t.0) (c.total-count.ensures.kept ∙ ap (λ (v : IndexValue). total_of lock v.entries) (sym c.self.view_is)) in
    let len = c.len-few.ensures.len in
    let small = c.len-few.ensures.small in
    let few : length entries < 2 ^ 63 = omega (arith, len, small) in
    let fits = (fits-more entries lock c.self.invariant.own few).count in
    omega (arith, count, fits)

pub overflow_add-capacity : goal.overflow_add-capacity
overflow_add-capacity c =
    let lock = c.row.inside.lock_hash in
    let entries = c.self.inside.rows.entries in
    let capacity : c.total-count.result.1 ≡ sum_by (holds lock) (values_of entries) =
    ap (λ (t : ℕ × ℕ). t.1) (c.total-count.ensures.kept ∙ ap (λ (v : IndexValue). total_of lock v.entries) (sym c.self.view_is)) in
    let len = c.len-few.ensures.len in
    let small = c.len-few.ensures.small in
    let few : length entries < 2 ^ 63 = omega (arith, len, small) in
    let fits = (fits-more entries lock c.self.invariant.own few).capacity in
    let most : c.from.result < 2 ^ 64 = search rules in
    omega (arith, capacity, fits, most)

pub invariant_of-result : goal.invariant_of-result
invariant_of-result c =
    let row = c.args.row in
    let entries = c.self.inside.rows.entries in
    let own : c.row.inside.lock_hash ≡ row.lock_hash = ap (λ (r : Row). r.lock_hash) c.row.view_is in
    let key : c.key_by-key.result ≡ key_of row.lock_hash c.args.o = c.key_by-key.ensures.key ∙ ap (λ (l : List ℕ). key_of l c.args.o) own in
    let none : at entries row.lock_hash c.args.o ≡ None =
    sym (ap (λ (k : Key). lookup (is_at (key_cmp k)) entries) key) ∙ not-there (lookup (is_at (key_cmp c.key_by-key.result)) entries) (sym (c.is_some.ensures ∙ ap is_some c.in-Ok.ensures.old) ∙ c.if-is_some.false) in
    let total : c.total-count.result ≡ total_of row.lock_hash entries =
    c.total-count.ensures.kept ∙ ap (λ (v : IndexValue). total_of c.row.inside.lock_hash v.entries) (sym c.self.view_is) ∙ ap (λ (l : List ℕ). total_of l entries) own in
    let capacity : c.from.result ≡ row.capacity = c.from.ensures ∙ ap (λ (r : Row). r.capacity) c.row-2.view_is in
    totalled-more entries c.insert.new.self.entries c.self.inside.totals.entries c.insert-2.new.self.entries c.args.o row c.total-count.result c.self.invariant none
    (c.in-Ok.ensures.entries ∙ ap (λ (k : Key). insert_entry key_cmp entries k row) key)
    c.insert.ensures.ordered
    (record { lock = refl; tx_hash = c.key_by-key.ensures.hash; bytes = c.key_by-key.ensures.bytes; index = c.key_by-key.ensures.index; capacity = search rules })
    total
    (λ q. c.in-Ok-insert.ensures.updates.0 q
    ∙ ap (λ (l : List ℕ). cond (is_eq (slice_cmp nat_cmp l q)) (Some (c.total-count.result.0 + 1, c.total-count.result.1 + c.from.result)) (lookup (is_at (slice_cmp nat_cmp q)) c.self.inside.totals.entries)) own
    ∙ ap (λ (n : ℕ). cond (is_eq (slice_cmp nat_cmp row.lock_hash q)) (Some (c.total-count.result.0 + 1, c.total-count.result.1 + n)) (lookup (is_at (slice_cmp nat_cmp q)) c.self.inside.totals.entries)) capacity)

pub returns-clause-rows : goal.returns-clause-rows
returns-clause-rows c rows has free lock o =
    let row = c.args.row in
    let entries = c.self.inside.rows.entries in
    let own : c.row.inside.lock_hash ≡ row.lock_hash = ap (λ (r : Row). r.lock_hash) c.row.view_is in
    let key : c.key_by-key.result ≡ key_of row.lock_hash c.args.o = c.key_by-key.ensures.key ∙ ap (λ (l : List ℕ). key_of l c.args.o) own in
    let before : at entries lock o ≡ of_lock lock (rows o) = ap (λ (v : IndexValue). at v.entries lock o) c.self.view_is ∙ has lock o in
    c.in-Ok.ensures.updates.0 (key_of lock o)
    ∙ ap (λ (k : Key). cond (is_at (key_cmp k) (key_of lock o)) (Some row) (at entries lock o)) key
    ∙ ap (λ (found : Option Row). cond (is_at (key_cmp (key_of row.lock_hash c.args.o)) (key_of lock o)) (Some row) found) before
    ∙ with-one row c.args.o rows lock o free
