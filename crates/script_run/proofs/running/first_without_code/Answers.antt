use Rattle.std.proofs.Common.{sym, ◌∙◌, arith}
use Rattle.script_run.proofs.RunningLemmas.{found-lacking, found-code, found-each}
use Rattle.script_run.proofs.running.first_without_code.Goals as goal

pub returns-in-Some : goal.returns-in-Some
returns-in-Some c scene deps =
    found-lacking scene c.args.groups.now c.groups.i c.index-groups-i.result _ _ (c.groups.invariant scene deps) c.groups-test.true c.index-groups-i.is (c.in-Some.ensures scene deps)

pub groups-preserved : goal.groups-preserved
groups-preserved c scene deps =
    found-code scene c.args.groups.now c.groups.i c.index-groups-i.result _ (c.groups.invariant scene deps) c.groups-test.true c.index-groups-i.is (sym c.in_default.is ∙ c.lacks_code.ensures scene deps)

pub returns : goal.returns
returns c scene deps = found-each scene c.args.groups.now c.groups.i _ (c.groups.invariant scene deps) (omega arith)
