use Rattle.run_ask.proofs.WordLemmas.{words-then, four-not-asked}
use Rattle.run_ask.proofs.words.asked_in.Goals as goal

pub returns-in-Some-rest-2 : goal.returns-in-Some-rest-2
returns-in-Some-rest-2 c =
    four-not-asked c.args.text.now _ _ _ _ _ _ (words-then _ _ _ _ _ c.cut.ensures c.in-Some.is) (words-then _ _ _ _ _ c.cut-2.ensures c.in-Some-rest.is)
    (words-then _ _ _ _ _ c.cut-3.ensures c.in-Some-rest-2.is)
