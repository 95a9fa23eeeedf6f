use Rattle.std.proofs.Common.{sym, arith, rules}
use Rattle.report_defs.proofs.WordLaws.{number_up_to-decimal}
use Rattle.run_text.proofs.WordLemmas.{padded_is_none, parsed, unparsed, too_great, none_where}
use Rattle.run_text.proofs.words.number_up_to.Goals as goal

pub returns-then-is_padded-clause-number : goal.returns-then-is_padded-clause-number
returns-then-is_padded-clause-number c = none_where c.args.limit c.args.word.now (λ number is most. padded_is_none c.args.word.now (search rules) number is (omega arith))

pub returns-in-Err-clause-number : goal.returns-in-Err-clause-number
returns-in-Err-clause-number c =
    none_where c.args.limit c.args.word.now (λ number is most. unparsed c.args.word.now c.in-Err.field-0 c.in-Err.ensures.value.0 number is (omega arith))

pub returns-then-number-limit-clause-number : goal.returns-then-number-limit-clause-number
returns-then-number-limit-clause-number c =
    let word = parsed c.args.word.now c.parse.result c.in-Ok.number (search rules) c.parse.ensures.value.0 c.in-Ok.is in
    none_where c.args.limit c.args.word.now (too_great c.args.limit c.args.word.now c.in-Ok.number word.0 word.1 (omega arith))

pub returns-clause-number : goal.returns-clause-number
returns-clause-number c =
    let word = parsed c.args.word.now c.parse.result c.in-Ok.number (search rules) c.parse.ensures.value.0 c.in-Ok.is in
    sym (number_up_to-decimal c.args.limit c.args.word.now c.in-Ok.number (omega arith) word.0 (omega arith))
