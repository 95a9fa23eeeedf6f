use Rattle.std.proofs.Common.{refl, sym, ◌∙◌, rules}
use Rattle.log_file.proofs.Pieces.{told_start, told_no_start, told_short_start}
use Rattle.log_file.proofs.Exits.{on_each, told_first, not_called, no_fault_counts, stop_counts, answer_counts, answer_still, wrong_not_fault, counts_on, no_damage}
use Rattle.log_file.proofs.records.read_start.Goals as goal

pub returns-then-not-is_start-clause-wrong : goal.returns-then-not-is_start-clause-wrong
returns-then-not-is_start-clause-wrong g c = record {
  area = refl;
  at = told_no_start _ c.args.reader.now c.fill.new.self c.ahead.result.now c.fill.ensures.at c.requires c.ahead.ensures (sym c.is_start.ensures.value ∙ search rules) c.in-Ok.ensures.reading;
}

pub returns-clause-found : goal.returns-clause-found
returns-clause-found g c =
    told_start _ c.args.reader.now c.fill.new.self c.ahead.result.now c.fill.ensures.at c.requires c.ahead.ensures (sym c.is_start.ensures.value ∙ search rules) c.in-Ok.ensures.reading

pub returns-then-left-lt8-clause-at : goal.returns-then-left-lt8-clause-at
returns-then-left-lt8-clause-at g c = tt

pub returns-then-left-lt8-clause-found : goal.returns-then-left-lt8-clause-found
returns-then-left-lt8-clause-found g c = on_each (g.D.Disk.reads_as c.args.disk.now) _ (λ _ _. tt)

pub returns-in-Err-clause-at : goal.returns-in-Err-clause-at
returns-in-Err-clause-at g c = tt

pub returns-in-Err-clause-found : goal.returns-in-Err-clause-found
returns-in-Err-clause-found g c = on_each (g.D.Disk.reads_as c.args.disk.now) _ (λ _ _. tt)

pub returns-then-not-is_start-clause-at : goal.returns-then-not-is_start-clause-at
returns-then-not-is_start-clause-at g c = tt

pub returns-then-not-is_start-clause-found : goal.returns-then-not-is_start-clause-found
returns-then-not-is_start-clause-found g c = on_each (g.D.Disk.reads_as c.args.disk.now) _ (λ _ _. tt)

pub returns-then-left-lt8-clause-cause : goal.returns-then-left-lt8-clause-cause
returns-then-left-lt8-clause-cause g c = no_fault_counts _ (wrong_not_fault _)

pub returns-in-Err-clause-wrong : goal.returns-in-Err-clause-wrong
returns-in-Err-clause-wrong g c = no_damage _ c.in-Err.stop c.in-Err.ensures.reads

pub returns-in-Err-clause-as_before : goal.returns-in-Err-clause-as_before
returns-in-Err-clause-as_before g c = c.in-Err.ensures.as_before

pub returns-in-Err-clause-cause : goal.returns-in-Err-clause-cause
returns-in-Err-clause-cause g c = stop_counts _ _ _ _ c.in-Err.ensures.cause

pub returns-then-not-is_start-clause-as_before : goal.returns-then-not-is_start-clause-as_before
returns-then-not-is_start-clause-as_before g c = c.in-Ok.ensures.as_before

pub returns-then-not-is_start-clause-cause : goal.returns-then-not-is_start-clause-cause
returns-then-not-is_start-clause-cause g c = counts_on _ _ _ (answer_still _ _ _ _ c.in-Ok.ensures.cause) (no_fault_counts _ (wrong_not_fault _))

pub returns-clause-wrong : goal.returns-clause-wrong
returns-clause-wrong g c = tt

pub returns-clause-as_before : goal.returns-clause-as_before
returns-clause-as_before g c = c.in-Ok.ensures.as_before

pub returns-clause-cause : goal.returns-clause-cause
returns-clause-cause g c = answer_counts _ _ _ _ (answer_still _ _ _ _ c.in-Ok.ensures.cause)

pub returns-then-left-lt8-clause-as_before : goal.returns-then-left-lt8-clause-as_before
returns-then-left-lt8-clause-as_before g c = not_called g.D.Disk.reads_as g.D.Disk.images g.D.Disk.moment g.D.Disk.left_since g.met.D.Disk.only_now c.args.disk.now

pub returns-then-left-lt8-clause-reading : goal.returns-then-left-lt8-clause-reading
returns-then-left-lt8-clause-reading g c = on_each (g.D.Disk.reads_as c.args.disk.now) _ (λ _ reading. reading)

pub returns-in-Err-clause-reading : goal.returns-in-Err-clause-reading
returns-in-Err-clause-reading g c = told_first (g.D.Disk.reads_as c.args.disk.now) _ _ _ c.in-Err.ensures.reading

pub returns-then-not-is_start-clause-reading : goal.returns-then-not-is_start-clause-reading
returns-then-not-is_start-clause-reading g c = told_first (g.D.Disk.reads_as c.args.disk.now) _ _ _ c.in-Ok.ensures.reading

pub returns-then-left-lt8-clause-wrong : goal.returns-then-left-lt8-clause-wrong
returns-then-left-lt8-clause-wrong g c = record { area = refl; at = told_short_start _ c.args.reader.now c.left.result c.requires c.left.ensures c.if-left-lt8.true }
