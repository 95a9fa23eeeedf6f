use Rattle.std.proofs.Common.{◌+◌, ℕ, sym, ap, arith}
use Rattle.log_file.proofs.Pieces.{none_unless, whole_there}
use Rattle.log_file.proofs.grammar.record_at.Goals as goal

pub returns-then-bytes-lt7-clause-found : goal.returns-then-bytes-lt7-clause-found
returns-then-bytes-lt7-clause-found c = sym (none_unless c.args.bytes.now (λ r is. absurd (omega (arith, is.whole, c.if-bytes-lt7.true))))

pub returns-then-bytes-ne1-clause-found : goal.returns-then-bytes-ne1-clause-found
returns-then-bytes-ne1-clause-found c = sym (none_unless c.args.bytes.now (λ r is. absurd (c.if-bytes-ne1.true is.open_gate)))

pub returns-then-bytes-end-clause-found : goal.returns-then-bytes-end-clause-found
returns-then-bytes-end-clause-found c = sym (none_unless c.args.bytes.now (λ r is. absurd (omega (arith, is.whole, is.size, c.read_count.ensures.value, c.if-bytes-end.true))))

pub returns-clause-found : goal.returns-clause-found
returns-clause-found c = sym (whole_there c.args.bytes.now (6 + c.read_count.result) c.if-bytes-ne1.false (ap (λ (n : ℕ). 6 + n) c.read_count.ensures.value) c.if-bytes-end.false)
