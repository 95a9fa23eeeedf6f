use Rattle.json_blocks.specs.Reading.{header_with}
use Rattle.json_blocks.proofs.KeyLemmas.{begins}
use Rattle.json_blocks.proofs.read_objects.read_header_with.Goals as goal

pub returns : goal.returns
unfolding header_with
returns c =
    c.joined.ensures.whole _
    (c.read-10.ensures.step _ _ _
    (c.read_hash_if-2.ensures.step _ _ _
    (c.read-9.ensures.step _ _ _
    (c.read-8.ensures.step _ _ _
    (c.read-7.ensures.step _ _ _
    (c.read-6.ensures.step _ _ _
    (c.read-5.ensures.step _ _ _
    (c.read-4.ensures.step _ _ _
    (c.read_hash_if.ensures.step _ _ _
    (c.read-3.ensures.step _ _ _
    (c.read-2.ensures.step _ _ _
    (c.read.ensures.step _ _ _
    (begins _ _ _ _ _ _ c.in_ok-rows.ensures.goes_on c.in_ok-rows.ensures.none_yet c.in_ok-rows.ensures.left)))))))))))))
