use Rattle.std.proofs.Common.{true, false, arith}
use Rattle.rv_text.proofs.Named.{test-is, named-found, named-passed, named-none}
use Rattle.rv_text.proofs.names.named_in.Goals as goal

pub returns-then-eq : goal.returns-then-eq
returns-then-eq c =
    named-found _ c.args.instructions.now c.args.name.now c.loop-i.i-index (omega arith)
    (test-is _ c.form_of.result.0.now c.as_bytes.result.now c.args.name.now c.form_of.result.1 c.form_of.result.2 c.eq.result true c.form_of.ensures c.as_bytes.ensures.value c.eq.ensures c.if-eq.true)
    c.loop-i.invariant

pub loop-i-preserved : goal.loop-i-preserved
loop-i-preserved c =
    named-passed _ c.args.instructions.now c.args.name.now c.loop-i.i-index (omega arith)
    (test-is _ c.form_of.result.0.now c.as_bytes.result.now c.args.name.now c.form_of.result.1 c.form_of.result.2 c.eq.result false c.form_of.ensures c.as_bytes.ensures.value c.eq.ensures c.if-eq.false)
    c.loop-i.invariant

pub returns : goal.returns
returns c = named-none c.args.instructions.now c.args.name.now c.loop-i.i-index (omega arith) c.loop-i.invariant
