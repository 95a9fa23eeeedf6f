use Rattle.run_ask.proofs.WordLemmas.{words-then, three-not-checked}
use Rattle.run_ask.proofs.words.checked_in.Goals as goal

pub returns-in-Some-rest : goal.returns-in-Some-rest
returns-in-Some-rest c =
    three-not-checked c.args.text.now _ _ _ _ (words-then _ _ _ _ _ c.cut.ensures c.in-Some.is) (words-then _ _ _ _ _ c.cut-2.ensures c.in-Some-rest.is)
