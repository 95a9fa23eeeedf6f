use Rattle.std.proofs.Common.{arith}
use Rattle.run_alone.proofs.StandaloneLemmas.{told_within}
use Rattle.run_alone.proofs.files.answer_to.Goals as goal

pub returns : goal.returns
returns c =
    told_within c.args.command c.args.file.now c.limit_of-limit.result c.answer_within.result c.limit_of-limit.ensures.limit (omega arith) c.answer_within.ensures
