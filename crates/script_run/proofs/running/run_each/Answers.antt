use Rattle.std.proofs.Common.{List, Option, refl, ap, sym, subst, ◌∙◌, arith}
use Rattle.std.specs.Prelude.{IsSome}
use Rattle.chain_tree.specs.Told.{Stored}
use Rattle.chain_tree.proofs.ReadLemmas.{read_on}
use Rattle.script_run.specs.Running.{read_stop_of}
use Rattle.script_run.proofs.ReadLemmas.{not-there}
use Rattle.script_run.proofs.RunningLemmas.{its-hash, ran-one, ran-each, ran-to-stop}
use Rattle.script_run.proofs.running.run_each.Goals as goal

pub returns-in-Err : goal.returns-in-Err
returns-in-Err g c = record {
  read = read_on c.groups.invariant.read c.in-Err.ensures.read;
  within = tt;
  exact = λ stored scene tells shown hashes.
      let its = its-hash c.args.groups.now c.groups.i c.index-groups-i.result c.groups-test.true c.index-groups-i.is hashes in
      ran-to-stop scene c.args.budget c.groups.used c.args.groups.now c.groups.i c.index-groups-i.result _ c.in-Err.stop
      (c.groups.invariant.ran stored scene tells shown hashes) c.groups-test.true c.index-groups-i.is
      (c.in-Err.ensures.exact stored scene (c.groups.invariant.read.told ∙ tells) shown its);
  undamaged = λ told. c.in-Err.ensures.undamaged (subst (λ (o : Option (List Stored)). IsSome o) (sym c.groups.invariant.read.told) told);
}

pub groups-preserved : goal.groups-preserved
groups-preserved g c = record {
  read = read_on c.groups.invariant.read c.in-Ok.ensures.read;
  within = let most = c.in-Ok.ensures.within in let before = c.groups.invariant.within in omega (arith, most, before);
  ran = λ stored scene tells shown hashes.
      ran-one scene c.args.budget c.groups.used c.args.groups.now c.groups.i c.index-groups-i.result _ c.in-Ok.cycles
      (c.groups.invariant.ran stored scene tells shown hashes) c.groups-test.true c.index-groups-i.is
      (c.in-Ok.ensures.exact stored scene (c.groups.invariant.read.told ∙ tells) shown (its-hash c.args.groups.now c.groups.i c.index-groups-i.result c.groups-test.true c.index-groups-i.is hashes));
}

pub returns : goal.returns
returns g c = record {
  read = c.groups.invariant.read;
  within = c.groups.invariant.within;
  exact = λ stored scene tells shown hashes.
      ran-each scene c.args.budget c.groups.used c.args.groups.now c.groups.i _ (c.groups.invariant.ran stored scene tells shown hashes) (omega arith);
  undamaged = λ told damage is. not-there _ _ refl (ap read_stop_of is);
}
