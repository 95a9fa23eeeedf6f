use Rattle.store_defs.proofs.UncleLaws.{uncles-differ, uncles-are-no-ancestors}
use Rattle.store_defs.proofs.joined.uncles_of_joined.Goals as goal

pub returns : goal.returns
returns c = record {
  uncles_differ = uncles-differ;
  uncles_are_no_ancestors = uncles-are-no-ancestors;
}
