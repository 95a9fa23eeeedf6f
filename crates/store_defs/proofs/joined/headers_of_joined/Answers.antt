use Rattle.store_defs.proofs.HeaderLaws.{blocks-are-rated, numbers-are-heights}
use Rattle.store_defs.proofs.joined.headers_of_joined.Goals as goal

pub returns : goal.returns
returns c = record {
  blocks_are_rated = blocks-are-rated;
  numbers_are_heights = numbers-are-heights;
}
