use Rattle.std.proofs.Common.{map, drop}
use Rattle.run_question.proofs.AssemblyLemmas.{first-and-rest}
use Rattle.run_explanation.proofs.ExplanationLemmas.{first_decides}
use Rattle.run_explanation.proofs.explaining.say.Goals as goal

pub returns-clause-said : goal.returns-clause-said
returns-clause-said g c = λ sound.
    first_decides c.args.wanted.asked c.args.node.chain c.deref.result.now (map (λ item. item.items) (drop 1 c.args.items.now)) (map (λ item. item.items) c.args.items.now) c.say_item.result
    (first-and-rest c.args.items.now c.index-items-0.result c.deref.result.now c.requires.some c.index-items-0.is c.deref.ensures.value) (c.say_item.ensures.said sound)
