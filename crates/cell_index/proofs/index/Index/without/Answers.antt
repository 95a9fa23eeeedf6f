use Rattle.std.proofs.Common.{◌≡◌, ◌-◌, ℕ, cond, Option, Some, None, sym, ap, ◌∙◌, arith, rules}
use Rattle.std.specs.List.{sum_by}
use Rattle.std.specs.Map.{lookup, values_of, remove_entry}
use Rattle.std.specs.BTreeMap.{is_at}
use Rattle.chain_defs.specs.Row.{Row}
use Rattle.chain_defs.specs.ByLock.{of_lock}
use Rattle.cell_index.specs.Index.{Key, IndexValue, at, key_of, key_cmp, counts, holds, total_of}
use Rattle.cell_index.proofs.EntryLemmas.{without-one, counts-in, totalled-less}
use Rattle.cell_index.proofs.index.Index.without.Goals as goal

pub overflow_sub-count : goal.overflow_sub-count
overflow_sub-count c =
    let lock = c.args.lock in
    let entries = c.self.inside.rows.entries in
    let count : c.total-count.result.0 ≡ sum_by (counts lock) (values_of entries) =
    ap (λ (t : ℕ × ℕ). t.0) (c.total-count.ensures.kept ∙ ap (λ (v : IndexValue). total_of lock v.entries) (sym c.self.view_is)) in
    let found : at entries lock c.args.o ≡ Some c.in-Some.gone =
    sym (ap (λ (k : Key). lookup (is_at (key_cmp k)) entries) c.key_by-key.ensures.key) ∙ sym c.in-Some.ensures.value in
    let some = (counts-in entries lock c.args.o c.in-Some.gone c.self.invariant.own found).some in
    omega (arith, count, some)

pub overflow_sub-capacity : goal.overflow_sub-capacity
overflow_sub-capacity c =
    let lock = c.args.lock in
    let entries = c.self.inside.rows.entries in
    let capacity : c.total-count.result.1 ≡ sum_by (holds lock) (values_of entries) =
    ap (λ (t : ℕ × ℕ). t.1) (c.total-count.ensures.kept ∙ ap (λ (v : IndexValue). total_of lock v.entries) (sym c.self.view_is)) in
    let found : at entries lock c.args.o ≡ Some c.in-Some.gone =
    sym (ap (λ (k : Key). lookup (is_at (key_cmp k)) entries) c.key_by-key.ensures.key) ∙ sym c.in-Some.ensures.value in
    let held = (counts-in entries lock c.args.o c.in-Some.gone c.self.invariant.own found).held in
    let own : c.from.result ≡ c.in-Some.gone.capacity = c.from.ensures ∙ ap (λ (r : Row). r.capacity) c.gone.view_is in
    omega (arith, capacity, held, own)

pub invariant_of-result : goal.invariant_of-result
invariant_of-result c =
    let lock = c.args.lock in
    let entries = c.self.inside.rows.entries in
    let total = c.total-count.ensures.kept ∙ ap (λ (v : IndexValue). total_of lock v.entries) (sym c.self.view_is) in
    let count : c.total-count.result.0 ≡ sum_by (counts lock) (values_of entries) = ap (λ (t : ℕ × ℕ). t.0) total in
    let found : at entries lock c.args.o ≡ Some c.in-Some.gone =
    sym (ap (λ (k : Key). lookup (is_at (key_cmp k)) entries) c.key_by-key.ensures.key) ∙ sym c.in-Some.ensures.value in
    let one : c.total-count.result.0 ≡ 1 = search rules in
    let alone = (counts-in entries lock c.args.o c.in-Some.gone c.self.invariant.own found).alone (sym count ∙ one) in
    totalled-less entries c.remove.new.self.entries c.self.inside.totals.entries c.remove-then-count-eq1.new.self.entries lock c.args.o c.in-Some.gone None
    c.self.invariant found
    (c.remove.ensures.entries ∙ ap (λ (k : Key). remove_entry (is_at (key_cmp k)) entries) c.key_by-key.ensures.key)
    c.remove.ensures.ordered (sym (sym count ∙ one)) (omega (arith, alone))
    (λ q. c.remove-then-count-eq1.ensures.updates.0 q)

pub invariant_of-result-2 : goal.invariant_of-result-2
invariant_of-result-2 c =
    let lock = c.args.lock in
    let entries = c.self.inside.rows.entries in
    let total = c.total-count.ensures.kept ∙ ap (λ (v : IndexValue). total_of lock v.entries) (sym c.self.view_is) in
    let count : c.total-count.result.0 ≡ sum_by (counts lock) (values_of entries) = ap (λ (t : ℕ × ℕ). t.0) total in
    let capacity : c.total-count.result.1 ≡ sum_by (holds lock) (values_of entries) = ap (λ (t : ℕ × ℕ). t.1) total in
    let found : at entries lock c.args.o ≡ Some c.in-Some.gone =
    sym (ap (λ (k : Key). lookup (is_at (key_cmp k)) entries) c.key_by-key.ensures.key) ∙ sym c.in-Some.ensures.value in
    let it = counts-in entries lock c.args.o c.in-Some.gone c.self.invariant.own found in
    let some = it.some in
    let held = it.held in
    let own : c.from.result ≡ c.in-Some.gone.capacity = c.from.ensures ∙ ap (λ (r : Row). r.capacity) c.gone.view_is in
    totalled-less entries c.remove.new.self.entries c.self.inside.totals.entries c.insert.new.self.entries lock c.args.o c.in-Some.gone
    (Some (c.total-count.result.0 - 1, c.total-count.result.1 - c.from.result)) c.self.invariant found
    (c.remove.ensures.entries ∙ ap (λ (k : Key). remove_entry (is_at (key_cmp k)) entries) c.key_by-key.ensures.key)
    c.remove.ensures.ordered (omega (arith, count, some)) (omega (arith, capacity, held, own))
    (λ q. c.in-Ok.ensures.updates.0 q)

pub returns-then-count-eq1-clause-rows : goal.returns-then-count-eq1-clause-rows
returns-then-count-eq1-clause-rows c rows has there lock o =
    let entries = c.self.inside.rows.entries in
    let before : at entries lock o ≡ of_lock lock (rows o) = ap (λ (v : IndexValue). at v.entries lock o) c.self.view_is ∙ has lock o in
    c.remove.ensures.updates.0 (key_of lock o)
    ∙ ap (λ (k : Key). cond (is_at (key_cmp k) (key_of lock o)) None (at entries lock o)) c.key_by-key.ensures.key
    ∙ ap (λ (found : Option Row). cond (is_at (key_cmp (key_of c.args.lock c.args.o)) (key_of lock o)) None found) before
    ∙ without-one c.args.lock lock c.args.o rows o there

pub returns-clause-rows : goal.returns-clause-rows
returns-clause-rows c rows has there lock o =
    let entries = c.self.inside.rows.entries in
    let before : at entries lock o ≡ of_lock lock (rows o) = ap (λ (v : IndexValue). at v.entries lock o) c.self.view_is ∙ has lock o in
    c.remove.ensures.updates.0 (key_of lock o)
    ∙ ap (λ (k : Key). cond (is_at (key_cmp k) (key_of lock o)) None (at entries lock o)) c.key_by-key.ensures.key
    ∙ ap (λ (found : Option Row). cond (is_at (key_cmp (key_of c.args.lock c.args.o)) (key_of lock o)) None found) before
    ∙ without-one c.args.lock lock c.args.o rows o there
