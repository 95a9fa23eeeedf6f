use Rattle.std.proofs.Common.{◌≡◌, ◌-◌, length, ap, arith}
use Rattle.outside_mem.specs.MemoryDisk.{step_of}
use Rattle.outside_mem.proofs.Remains.{tears_last, tears_before_write, tears_before_cut}
use Rattle.outside_mem.proofs.tears.tear.Goals as goal

pub tear_range-requires-clause-torn : goal.tear_range-requires-clause-torn
tear_range-requires-clause-torn c =
    let same : c.in-Write.of ≡ c.args.area = c.is_same.ensures.0 c.if-is_same.true in
    λ i from to. c.calls.invariant.may i
    (tears_last c.args.area c.in-Write.of _ _ _ i c.in-Some.ensures.cases.0 c.in-Write.at c.in-Write.field-2.value.items (c.in-Write.size - length c.in-Write.field-2.value.items)
    (ap step_of c.in-Write.is) same from (omega (arith, to)))

pub calls-preserved-then-is_same : goal.calls-preserved-then-is_same
calls-preserved-then-is_same c = record {
  leaves = c.tear_range.ensures;
  may = λ i may. c.calls.invariant.may i
      (tears_before_write c.args.area c.in-Write.of _ _ _ i c.in-Some.ensures.cases.0 c.in-Write.at c.in-Write.field-2.value.items (c.in-Write.size - length c.in-Write.field-2.value.items)
      (ap step_of c.in-Write.is) may);
}

pub calls-preserved-in-Cut : goal.calls-preserved-in-Cut
calls-preserved-in-Cut c = record {
  leaves = c.calls.invariant.leaves;
  may = λ i may. c.calls.invariant.may i
      (tears_before_cut c.args.area c.in-Cut.field-0 _ _ _ i c.in-Some.ensures.cases.0 c.in-Cut.field-1 c.in-Cut.field-2 (ap step_of c.in-Cut.is) may);
}
