use Rattle.store_defs.proofs.StoreLemmas.{stands_as_it_says, stands_after_an_item, stands_for_the_genesis}
use Rattle.store_defs.proofs.JoinedLemmas.{stands_for_what_joined}
use Rattle.store_defs.proofs.standing.store_laws.Goals as goal

pub returns : goal.returns
returns c = record {
  stands_as_it_says = stands_as_it_says;
  stands_after_an_item = stands_after_an_item;
  stands_for_the_genesis = stands_for_the_genesis;
  stands_for_what_joined = stands_for_what_joined;
}
