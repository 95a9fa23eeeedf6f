use Rattle.json_blocks.proofs.KeyLemmas.{begins}
use Rattle.json_spec.specs.Reading.{fields_at}
use Rattle.json_spec.proofs.read.read_fields.Goals as goal

pub returns : goal.returns
unfolding fields_at
returns c =
    c.joined.ensures.whole _
    (c.read-12.ensures.step _ _ _
    (c.read-11.ensures.step _ _ _
    (c.read-10.ensures.step _ _ _
    (c.read-9.ensures.step _ _ _
    (c.read-8.ensures.step _ _ _
    (c.read-7.ensures.step _ _ _
    (c.read-6.ensures.step _ _ _
    (c.read-5.ensures.step _ _ _
    (c.read-4.ensures.step _ _ _
    (c.read-3.ensures.step _ _ _
    (c.read-2.ensures.step _ _ _
    (c.read.ensures.step _ _ _
    (begins _ _ _ _ _ _ c.in_ok-rows.ensures.goes_on c.in_ok-rows.ensures.none_yet c.in_ok-rows.ensures.left)))))))))))))
