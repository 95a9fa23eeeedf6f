use Rattle.std.proofs.Common.{ap, ◌∙◌, arith}
use Rattle.std.proofs.lemmas.Str.Pattern.{split_parts}
use Rattle.ask_defs.specs.Asks.{words_of}
use Rattle.run_ask.proofs.WordLemmas.{words-cut, words-one}
use Rattle.run_ask.proofs.words.cut.Goals as goal

pub returns-in-Some : goal.returns-in-Some
returns-in-Some c =
    let parts = rw c.in-Some.is at (split_parts 32 c.args.text.now c.split_once.result c.split_once.ensures.cases (omega arith)) in
    ap words_of parts.0 ∙ words-cut _ _ parts.1

pub returns-in-None : goal.returns-in-None
returns-in-None c =
    let none = rw c.in-None.is at (split_parts 32 c.args.text.now c.split_once.result c.split_once.ensures.cases (omega arith)) in
    words-one c.args.text.now none
