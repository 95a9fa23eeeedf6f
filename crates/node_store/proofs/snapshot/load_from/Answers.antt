use Rattle.std.proofs.Common.{List, Err, ap, ◌∙◌, subst}
use Rattle.outside.specs.Image.{content}
use Rattle.chain_tree.specs.declared.entry.Entry.{Entry}
use Rattle.log_file.proofs.Exits.{same_stop}
use Rattle.node_store.specs.Opening.{HoldsOneOf}
use Rattle.node_store.proofs.BelowLemmas.{below-loaded}
use Rattle.node_store.proofs.LoadingLemmas.{loaded-within, loaded-cells, loaded-led, loaded-none, loaded-whole, never-damaged, snapshot-damaged}
use Rattle.node_store.proofs.snapshot.load_from.Goals as goal

pub returns-in-Ok-Some-clause-within : goal.returns-in-Ok-Some-clause-within
returns-in-Ok-Some-clause-within g c =
    loaded-within c.args.kept.now.chain.blocks c.args.area c.tree.result.now.entries (g.D.Disk.reads_as c.args.disk.now) c.args.steps.now c.read.new.steps c.in-Ok-Some.field-0 c.in-Ok-Some.loaded c.in-Ok-Some.field-0-is c.tree.ensures.indexed c.in-Ok-Some.ensures.within

pub returns-in-Ok-Some-clause-below : goal.returns-in-Ok-Some-clause-below
returns-in-Ok-Some-clause-below g c =
    below-loaded c.args.kept.now.chain.blocks c.tree.result.now.entries c.in-Ok-Some.field-0 c.in-Ok-Some.loaded c.in-Ok-Some.field-0-is c.tree.ensures.indexed c.in-Ok-Some.ensures.within

pub returns-in-Ok-Some-clause-cells : goal.returns-in-Ok-Some-clause-cells
returns-in-Ok-Some-clause-cells g c =
    loaded-cells c.args.kept.now.chain.blocks c.args.area c.tree.result.now.entries (g.D.Disk.reads_as c.args.disk.now) c.args.steps.now c.read.new.steps c.in-Ok-Some.field-0 c.in-Ok-Some.loaded c.in-Ok-Some.field-0-is c.in-Ok-Some.ensures.snapshot

pub returns-in-Ok-Some-clause-led : goal.returns-in-Ok-Some-clause-led
returns-in-Ok-Some-clause-led g c =
    loaded-led c.args.kept.now.chain.blocks c.args.area c.tree.result.now.entries (g.D.Disk.reads_as c.args.disk.now) c.args.steps.now c.read.new.steps c.in-Ok-Some.field-0 c.in-Ok-Some.loaded c.in-Ok-Some.field-0-is c.in-Ok-Some.ensures.snapshot

pub returns-in-Err-clause-undamaged : goal.returns-in-Err-clause-undamaged
returns-in-Err-clause-undamaged g c = λ now told is both joined damage e.
    never-damaged c.args.kept.now.chain c.args.area c.tree.result.now.entries (g.D.Disk.reads_as c.args.disk.now) now c.args.steps.now c.read.new.steps c.read.result damage
    c.tree.ensures.indexed c.tree.ensures.canonical joined.joined told is both c.read.ensures.snapshot (c.in-Err.is ∙ ap Err (same_stop _ _ e))

pub returns-in-Err-clause-damage : goal.returns-in-Err-clause-damage
returns-in-Err-clause-damage g c = λ now told is damage e.
    snapshot-damaged c.args.area c.tree.result.now.entries c.args.kept.now.entries (g.D.Disk.reads_as c.args.disk.now) now c.args.steps.now c.read.new.steps c.read.result damage
    c.tree.ensures.entries told is c.read.ensures.snapshot (c.in-Err.is ∙ ap Err (same_stop _ _ e))

pub returns-in-Ok-None-clause-damage : goal.returns-in-Ok-None-clause-damage
returns-in-Ok-None-clause-damage g c = λ now told is damage e.
    absurd (loaded-none c.args.kept.now.chain.blocks c.args.area c.tree.result.now.entries (g.D.Disk.reads_as c.args.disk.now) c.args.steps.now c.read.new.steps c.in-Ok-None.field-0
    c.in-Ok-None.field-0-is c.in-Ok-None.ensures.snapshot now told is)

pub returns-in-Ok-Some-clause-whole : goal.returns-in-Ok-Some-clause-whole
returns-in-Ok-Some-clause-whole g c = λ now told.
    subst (λ (es : List Entry). HoldsOneOf es (content c.args.area now)) c.tree.ensures.entries
    (loaded-whole c.args.kept.now.chain.blocks c.args.area c.tree.result.now.entries (g.D.Disk.reads_as c.args.disk.now) c.args.steps.now c.read.new.steps c.in-Ok-Some.field-0 c.in-Ok-Some.loaded c.in-Ok-Some.field-0-is c.in-Ok-Some.ensures.snapshot now told)
