use Rattle.json_blocks.specs.Reading.{cellbase_witness_at}
use Rattle.json_blocks.proofs.KeyLemmas.{begins}
use Rattle.json_blocks.proofs.read_parts.CellbaseWitnessItem.read.Goals as goal

pub returns : goal.returns
unfolding cellbase_witness_at
returns c =
    c.table.ensures.whole _
    (c.read-2.ensures.step _ _ _
    (c.read.ensures.step _ _ _
    (begins _ _ _ _ _ _ c.in_ok-rows.ensures.goes_on c.in_ok-rows.ensures.none_yet c.in_ok-rows.ensures.left)))
