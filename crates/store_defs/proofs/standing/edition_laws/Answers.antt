use Rattle.store_defs.proofs.EditionLemmas.{judges_by_its_epoch, old_blocks_stay}
use Rattle.store_defs.proofs.EditedLemmas.{the_tip_tells, stays_joined, stands_after_an_edition}
use Rattle.store_defs.proofs.standing.edition_laws.Goals as goal

pub returns : goal.returns
returns c = record {
  judges_by_its_epoch = judges_by_its_epoch;
  old_blocks_stay = old_blocks_stay;
  the_tip_tells = the_tip_tells;
  stays_joined = stays_joined;
  stands_after_an_edition = stands_after_an_edition;
}
