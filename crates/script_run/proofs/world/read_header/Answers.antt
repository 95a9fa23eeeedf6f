use Rattle.std.proofs.Common.{ap}
use Rattle.std.specs.Prelude.{Err}
use Rattle.chain_tree.specs.Reading.{stop_of}
use Rattle.script_run.proofs.ReadLemmas.{no-error, some-stop}
use Rattle.script_run.proofs.world.read_header.Goals as goal

pub returns-in-Ok : goal.returns-in-Ok
returns-in-Ok g c = record {
  read = c.in-Ok.ensures.read;
  are_read = c.header_at.ensures.are_read;
  part = λ stored made tells there. c.part_of.ensures made.block.header (c.in-Ok.ensures.header stored made tells there);
  undamaged = λ told damage is. no-error _ _ is;
}

pub returns-in-Err : goal.returns-in-Err
returns-in-Err g c = record {
  read = c.in-Err.ensures.read;
  are_read = c.header_at.ensures.are_read;
  part = λ stored made tells there. tt;
  undamaged = λ told damage is. c.in-Err.ensures.undamaged told damage (ap Err (some-stop _ _ (ap stop_of is)));
}
