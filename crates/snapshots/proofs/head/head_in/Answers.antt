use Rattle.std.proofs.Common.{true, rules}
use Rattle.snapshots.proofs.Heads.{gate-of, short-of, long-of, damaged-head, counted-of, head-of}
use Rattle.snapshots.proofs.head.head_in.Goals as goal

pub returns-then-first-lt-HEAD_SIZE-clause-head : goal.returns-then-first-lt-HEAD_SIZE-clause-head
returns-then-first-lt-HEAD_SIZE-clause-head c = λ bytes is.
    damaged-head c.args.area bytes c.damaged.result c.damaged.ensures (gate-of 47 bytes c.args.first.now true is (search rules))
    (short-of 49 bytes c.args.first.now is (search rules))

pub returns-clause-head : goal.returns-clause-head
returns-clause-head c = λ bytes is. record {
  number = search rules;
  tip = search rules;
  hash = search rules;
  count = search rules;
  there = long-of 49 bytes c.args.first.now is (search rules);
  counted = counted-of bytes c.args.first.now c.u64_at.result is c.u64_at.ensures.value;
  parts = head-of bytes c.args.first.now c.hash_at.result c.u32_at.result c.u32_at-2.result c.u64_at.result is (search rules) (search rules)
      c.u32_at.ensures.bytes c.u32_at-2.ensures.bytes c.hash_at.ensures c.u64_at.ensures.bytes;
}
