use Rattle.json_blocks.specs.Reading.{out_point_at}
use Rattle.json_blocks.proofs.KeyLemmas.{begins}
use Rattle.json_blocks.proofs.read_parts.OutPointItem.read.Goals as goal

pub returns : goal.returns
unfolding out_point_at
returns c =
    c.joined.ensures.whole _
    (c.read-2.ensures.step _ _ _
    (c.read.ensures.step _ _ _
    (begins _ _ _ _ _ _ c.in_ok-rows.ensures.goes_on c.in_ok-rows.ensures.none_yet c.in_ok-rows.ensures.left)))
