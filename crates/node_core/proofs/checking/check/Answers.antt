use Rattle.std.proofs.Common.{◌≡◌, sym, subst}
use Rattle.std.specs.Prelude.{IfOk}
use Rattle.chain_defs.specs.Tip.{best_branch}
use Rattle.rule_defs.specs.RuleNumber.{rule_number}
use Rattle.verdict_defs.specs.Trial.{trial_on}
use Rattle.verdict_defs.specs.declared.trial.Trial.TheVariants.{Passes, Refused}
use Rattle.node_store.specs.Node.{NodeValue, IsSoundWhereTold}
use Rattle.node_store.proofs.RecordedLemmas.{read-here, leaves-all}
use Rattle.node_core.proofs.checking.check.Goals as goal

pub check-requires : goal.check-requires
check-requires g c = record {
  own = read-here c.node.inside.kept c.node.inside.log.place c.node.inside.state c.node.inside.cache c.args.node.now (g.D.Disk.reads_as c.args.disk.now)
      (g.D.Disk.images c.args.disk.now) c.node.view_is c.requires.own;
}

pub returns-clause-left : goal.returns-clause-left
returns-clause-left g c =
    leaves-all g.D.Disk.content_of g.D.Disk.reads_as g.D.Disk.images g.D.Disk.moment g.D.Disk.left_since g.D.Disk.faults g.met.D.Disk.content_rests
    c.args.disk.now c.check.new.disk c.node.inside.kept c.node.inside.log.place c.node.inside.state c.node.inside.cache c.check.new.cache c.args.node.now _
    c.node.view_is c.requires.own c.check.ensures.looked

pub returns-clause-passes : goal.returns-clause-passes
returns-clause-passes g c = λ sound.
    let on = subst (λ (node : NodeValue). IsSoundWhereTold node (g.D.Disk.reads_as c.args.disk.now)) (sym c.node.view_is) sound in
    subst (λ (node : NodeValue). IfOk c.check.result (λ it. trial_on node.chain.spec (best_branch node.chain.blocks) c.args.tx.now ≡ Passes it.0 it.1)) c.node.view_is
    (c.check.ensures.passes on.told on.sound.joined on.sound.live)

pub returns-clause-broken : goal.returns-clause-broken
returns-clause-broken g c = λ sound rule same.
    let on = subst (λ (node : NodeValue). IsSoundWhereTold node (g.D.Disk.reads_as c.args.disk.now)) (sym c.node.view_is) sound in
    subst (λ (node : NodeValue). trial_on node.chain.spec (best_branch node.chain.blocks) c.args.tx.now ≡ Refused (rule_number rule)) c.node.view_is
    (c.check.ensures.broken on.told on.sound.joined on.sound.live rule same)

pub returns-clause-undamaged : goal.returns-clause-undamaged
returns-clause-undamaged g c = λ sound.
    let on = subst (λ (node : NodeValue). IsSoundWhereTold node (g.D.Disk.reads_as c.args.disk.now)) (sym c.node.view_is) sound in
    c.check.ensures.undamaged on.told on.sound.joined on.sound.live
