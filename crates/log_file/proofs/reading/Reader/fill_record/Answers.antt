use Rattle.std.proofs.Common.{◌≡◌, ℕ, ◌+◌, ◌≤◌, List, length, subst, arith}
use Rattle.std.specs.Prelude.{slice_index}
use Rattle.chain_defs.specs.Ext.{count_at}
use Rattle.log_file.proofs.Pieces.{told_none, told_whole}
use Rattle.log_file.proofs.Exits.{on_each, told_first, as_before_then, stop_counts, answer_counts, answer_still, counts_on}
use Rattle.log_file.proofs.reading.Reader.fill_record.Goals as goal

pub returns-else-size-left-clause-found : goal.returns-else-size-left-clause-found
returns-else-size-left-clause-found g c =
    let size : ℕ = c.record_size-size.result in
    told_none _ c.args.self.now c.fill.new.self c.left-left.result c.min.result size c.left-left.ensures c.fill.ensures.at (λ le. omega (arith, c.min.ensures))
    (subst (λ (l : List ℕ). 7 ≤ length l → slice_index l 0 ≡ 1 → size ≡ 6 + count_at l 2) c.ahead.ensures c.record_size-size.ensures.size) c.if-size-left.false c.in-Ok.ensures.reading

pub returns-in-Ok-fill-clause-found : goal.returns-in-Ok-fill-clause-found
returns-in-Ok-fill-clause-found g c =
    let size : ℕ = c.record_size-size.result in
    told_whole _ _ c.args.self.now c.fill.new.self c.fill-then-size-left.new.self c.left-left.result c.min.result size c.left-left.ensures c.fill.ensures.at (λ le. omega (arith, c.min.ensures))
    (subst (λ (l : List ℕ). 7 ≤ length l → slice_index l 0 ≡ 1 → size ≡ 6 + count_at l 2) c.ahead.ensures c.record_size-size.ensures.size)
    c.fill.ensures.as_before.reads c.fill-then-size-left.ensures.at c.in-Ok.ensures.reading c.in-Ok-fill.ensures.reading

pub returns-in-Err-clause-at : goal.returns-in-Err-clause-at
returns-in-Err-clause-at g c = c.in-Err.ensures.at

pub returns-in-Err-clause-found : goal.returns-in-Err-clause-found
returns-in-Err-clause-found g c = on_each (g.D.Disk.reads_as c.args.disk.now) _ (λ _ _. tt)

pub returns-in-Err-clause-byte : goal.returns-in-Err-clause-byte
returns-in-Err-clause-byte g c = on_each (g.D.Disk.reads_as c.args.disk.now) _ (λ _ _ _. tt)

pub returns-in-Err-clause-as_before : goal.returns-in-Err-clause-as_before
returns-in-Err-clause-as_before g c = c.in-Err.ensures.as_before

pub returns-in-Err-clause-reads : goal.returns-in-Err-clause-reads
returns-in-Err-clause-reads g c = c.in-Err.ensures.reads

pub returns-in-Err-clause-cause : goal.returns-in-Err-clause-cause
returns-in-Err-clause-cause g c = stop_counts _ _ _ _ c.in-Err.ensures.cause

pub returns-else-size-left-clause-at : goal.returns-else-size-left-clause-at
returns-else-size-left-clause-at g c = c.in-Ok.ensures.at

pub returns-else-size-left-clause-as_before : goal.returns-else-size-left-clause-as_before
returns-else-size-left-clause-as_before g c = c.in-Ok.ensures.as_before

pub returns-else-size-left-clause-reads : goal.returns-else-size-left-clause-reads
returns-else-size-left-clause-reads g c = tt

pub returns-else-size-left-clause-cause : goal.returns-else-size-left-clause-cause
returns-else-size-left-clause-cause g c = answer_counts _ _ _ _ (answer_still _ _ _ _ c.in-Ok.ensures.cause)

pub returns-in-Err-fill-clause-found : goal.returns-in-Err-fill-clause-found
returns-in-Err-fill-clause-found g c = on_each (g.D.Disk.reads_as c.args.disk.now) _ (λ _ _. tt)

pub returns-in-Err-fill-clause-byte : goal.returns-in-Err-fill-clause-byte
returns-in-Err-fill-clause-byte g c = on_each (g.D.Disk.reads_as c.args.disk.now) _ (λ _ _ _. tt)

pub returns-in-Err-fill-clause-as_before : goal.returns-in-Err-fill-clause-as_before
returns-in-Err-fill-clause-as_before g c = as_before_then g.D.Disk.reads_as g.D.Disk.images g.D.Disk.moment g.D.Disk.left_since _ _ _ c.in-Ok.ensures.as_before c.in-Err-fill.ensures.as_before

pub returns-in-Err-fill-clause-reads : goal.returns-in-Err-fill-clause-reads
returns-in-Err-fill-clause-reads g c = c.in-Err-fill.ensures.reads

pub returns-in-Err-fill-clause-cause : goal.returns-in-Err-fill-clause-cause
returns-in-Err-fill-clause-cause g c = counts_on _ _ _ (answer_still _ _ _ _ c.in-Ok.ensures.cause) (stop_counts _ _ _ _ c.in-Err-fill.ensures.cause)

pub returns-in-Ok-fill-clause-as_before : goal.returns-in-Ok-fill-clause-as_before
returns-in-Ok-fill-clause-as_before g c = as_before_then g.D.Disk.reads_as g.D.Disk.images g.D.Disk.moment g.D.Disk.left_since _ _ _ c.in-Ok.ensures.as_before c.in-Ok-fill.ensures.as_before

pub returns-in-Ok-fill-clause-reads : goal.returns-in-Ok-fill-clause-reads
returns-in-Ok-fill-clause-reads g c = tt

pub returns-in-Ok-fill-clause-cause : goal.returns-in-Ok-fill-clause-cause
returns-in-Ok-fill-clause-cause g c =
    counts_on _ _ _ (answer_still _ _ _ _ c.in-Ok.ensures.cause) (answer_counts _ _ _ _ (answer_still _ _ _ _ c.in-Ok-fill.ensures.cause))

pub returns-in-Err-clause-reading : goal.returns-in-Err-clause-reading
returns-in-Err-clause-reading g c = told_first (g.D.Disk.reads_as c.args.disk.now) _ _ _ c.in-Err.ensures.reading

pub returns-else-size-left-clause-reading : goal.returns-else-size-left-clause-reading
returns-else-size-left-clause-reading g c = told_first (g.D.Disk.reads_as c.args.disk.now) _ _ _ c.in-Ok.ensures.reading
