use Rattle.std.proofs.Common.{◌≡◌, List, map, filter, sym, ap, ◌∙◌, subst, rules}
use Rattle.std.specs.Ordering.{is_gt}
use Rattle.std.specs.Range.{range_inclusive_end}
use Rattle.std.specs.BTreeMap.Range.{range_contains}
use Rattle.std.specs.declared.ops.Bound.TheVariants.{Included}
use Rattle.std.specs.Map.Iter.{deref_pair}
use Rattle.std.proofs.lemmas.Map.Iter.{iter_end}
use Rattle.chain_defs.specs.Schema.{OutPoint}
use Rattle.chain_defs.specs.Row.{Row}
use Rattle.chain_defs.specs.ByLock.{IsByLock}
use Rattle.cell_index.specs.Index.{Key, IndexValue, IndexesBranch, key_cmp}
use Rattle.cell_index.proofs.ListedLemmas.{row_by, least_of, range-forward, range-listed, lists-cells}
use Rattle.cell_index.proofs.index.Index.cells.Goals as goal

pub range-key-items-requires : goal.range-key-items-requires
range-key-items-requires c =
    ap (λ (k : Key). is_gt (key_cmp k (range_inclusive_end c.new.result))) c.new.ensures.start
    ∙ ap (λ (k : Key). is_gt (key_cmp (least_of c.args.lock.now) k)) c.new.ensures.end ∙ range-forward c.args.lock.now

pub returns : goal.returns
returns c kept place stands =
    let lock = c.args.lock.now in
    let entries = c.self.inside.rows.entries in
    let whole : map deref_pair c.cells.yielded ≡ c.range-key-items.result = search (rules, iter_end) in
    let shown = ap (map row_by) (c.range-key-items.ensures.between c.new.ensures.exhausted)
    ∙ ap (λ (k : Key). map row_by (filter (λ (e : Key × Row). range_contains key_cmp (Included k) (Included (range_inclusive_end c.new.result)) e.0) entries)) c.new.ensures.start
    ∙ ap (λ (k : Key). map row_by (filter (λ (e : Key × Row). range_contains key_cmp (Included (least_of lock)) (Included k) e.0) entries)) c.new.ensures.end
    ∙ range-listed entries lock c.self.invariant.own in
    subst (λ (l : List (OutPoint × Row)). IsByLock kept place lock l) (sym (c.cells.invariant ∙ ap (map row_by) whole ∙ shown))
    (lists-cells kept place (record { entries = entries; totals = c.self.inside.totals.entries }) lock c.self.invariant.ordered
    (subst (λ (v : IndexValue). IndexesBranch kept place v) (sym c.self.view_is) stands))
