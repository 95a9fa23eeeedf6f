use Rattle.std.proofs.Common.{rules}
use Rattle.snapshots.proofs.Whole.{told-no-head, told-other-tip, told-short, told-no-rows, told-all, within, its-head, none-taken, few-taken}
use Rattle.snapshots.proofs.reading.read.Goals as goal

pub returns-in-Err-clause-snapshot : goal.returns-in-Err-clause-snapshot
returns-in-Err-clause-snapshot g c =
    told-no-head c.args.area c.args.tree.now.entries (g.D.Disk.reads_as c.args.disk.now) c.args.steps.now c.in-Err.stop c.in-Err.ensures.head

pub returns-then-not-is_kept-clause-snapshot : goal.returns-then-not-is_kept-clause-snapshot
returns-then-not-is_kept-clause-snapshot g c =
    told-other-tip c.args.area c.args.tree.now.entries (g.D.Disk.reads_as c.args.disk.now) c.in-Ok-Some.head c.args.steps.now c.damaged.result c.damaged.ensures
    (its-head c.args.area (g.D.Disk.reads_as c.args.disk.now) c.in-Ok-Some.field-0 c.in-Ok-Some.head c.in-Ok-Some.field-0-is c.in-Ok-Some.ensures.head) (search rules)

pub returns-in-Err-read_rows-clause-snapshot : goal.returns-in-Err-read_rows-clause-snapshot
returns-in-Err-read_rows-clause-snapshot g c =
    told-short c.args.area c.args.tree.now.entries (g.D.Disk.reads_as c.args.disk.now) (g.D.Disk.reads_as c.read_head.new.disk) c.in-Ok-Some.head c.args.steps.now
    c.in-Err-read_rows.stop (g.met.D.Disk.content_rests c.args.disk.now c.read_head.new.disk c.in-Ok-Some.ensures.content).reads
    (its-head c.args.area (g.D.Disk.reads_as c.args.disk.now) c.in-Ok-Some.field-0 c.in-Ok-Some.head c.in-Ok-Some.field-0-is c.in-Ok-Some.ensures.head) c.in-Err-read_rows.ensures.short

pub returns-in-Ok-Some-state_of-clause-snapshot : goal.returns-in-Ok-Some-state_of-clause-snapshot
returns-in-Ok-Some-state_of-clause-snapshot g c =
    told-all c.args.area c.args.tree.now.entries (g.D.Disk.reads_as c.args.disk.now) (g.D.Disk.reads_as c.read_head.new.disk) c.in-Ok-Some.head c.deref.result.now
    c.in-Ok-Some-state_of.state c.args.steps.now c.state_of.new.steps
    (g.met.D.Disk.content_rests c.args.disk.now c.read_head.new.disk c.in-Ok-Some.ensures.content).reads (its-head c.args.area (g.D.Disk.reads_as c.args.disk.now) c.in-Ok-Some.field-0 c.in-Ok-Some.head c.in-Ok-Some.field-0-is c.in-Ok-Some.ensures.head) (search rules)
    (search rules) (search rules) (search rules)

pub returns-in-Ok-Some-state_of-clause-within : goal.returns-in-Ok-Some-state_of-clause-within
returns-in-Ok-Some-state_of-clause-within g c =
    within c.args.tree.now.entries c.in-Ok-Some.head.tip c.in-Ok-Some.head.hash c.deref.result.now c.in-Ok-Some.head.count c.in-Ok-Some-state_of.state (search rules) (search rules)

pub returns-in-Ok-None-state_of-clause-snapshot : goal.returns-in-Ok-None-state_of-clause-snapshot
returns-in-Ok-None-state_of-clause-snapshot g c =
    told-no-rows c.args.area c.args.tree.now.entries (g.D.Disk.reads_as c.args.disk.now) (g.D.Disk.reads_as c.read_head.new.disk) c.in-Ok-Some.head c.deref.result.now
    c.args.steps.now c.state_of.new.steps _ c.damaged-in-Ok-None-state_of.ensures
    (g.met.D.Disk.content_rests c.args.disk.now c.read_head.new.disk c.in-Ok-Some.ensures.content).reads (its-head c.args.area (g.D.Disk.reads_as c.args.disk.now) c.in-Ok-Some.field-0 c.in-Ok-Some.head c.in-Ok-Some.field-0-is c.in-Ok-Some.ensures.head) (search rules)
    (search rules) c.in-Ok-None-state_of.ensures.later (search rules)

pub returns-in-Err-clause-most : goal.returns-in-Err-clause-most
returns-in-Err-clause-most g c = none-taken (g.D.Disk.reads_as c.args.disk.now) c.args.area c.args.steps.now

pub returns-then-not-is_kept-clause-most : goal.returns-then-not-is_kept-clause-most
returns-then-not-is_kept-clause-most g c = none-taken (g.D.Disk.reads_as c.args.disk.now) c.args.area c.args.steps.now

pub returns-in-Err-read_rows-clause-most : goal.returns-in-Err-read_rows-clause-most
returns-in-Err-read_rows-clause-most g c = none-taken (g.D.Disk.reads_as c.args.disk.now) c.args.area c.args.steps.now

pub returns-in-Ok-None-clause-most : goal.returns-in-Ok-None-clause-most
returns-in-Ok-None-clause-most g c = none-taken (g.D.Disk.reads_as c.args.disk.now) c.args.area c.args.steps.now

pub returns-in-Ok-Some-state_of-clause-most : goal.returns-in-Ok-Some-state_of-clause-most
returns-in-Ok-Some-state_of-clause-most g c =
    few-taken (g.D.Disk.reads_as c.args.disk.now) c.args.area c.in-Ok-Some.head c.args.steps.now c.state_of.new.steps (its-head c.args.area (g.D.Disk.reads_as c.args.disk.now) c.in-Ok-Some.field-0 c.in-Ok-Some.head c.in-Ok-Some.field-0-is c.in-Ok-Some.ensures.head) (search rules)

pub returns-in-Ok-None-state_of-clause-most : goal.returns-in-Ok-None-state_of-clause-most
returns-in-Ok-None-state_of-clause-most g c =
    few-taken (g.D.Disk.reads_as c.args.disk.now) c.args.area c.in-Ok-Some.head c.args.steps.now c.state_of.new.steps (its-head c.args.area (g.D.Disk.reads_as c.args.disk.now) c.in-Ok-Some.field-0 c.in-Ok-Some.head c.in-Ok-Some.field-0-is c.in-Ok-Some.ensures.head) (search rules)
