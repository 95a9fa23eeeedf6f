use Rattle.std.proofs.Common.{sym, ◌∙◌}
use Rattle.run_ask.proofs.WordLemmas.{ascii-is-text}
use Rattle.run_ask.proofs.words.text_of.Goals as goal

pub returns-in-Err : goal.returns-in-Err
returns-in-Err c =
    absurd (c.in-Err.ensures.cases.0 (ascii-is-text c.args.line.now (sym c.is_ascii.ensures ∙ c.if-not-is_ascii.false)))
