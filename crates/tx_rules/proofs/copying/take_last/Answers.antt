use Rattle.std.specs.Prelude.{Some}
use Rattle.std.proofs.lemmas.List.Elements.{All-pop}
use Rattle.tx_rules.specs.Copying.{ServesAgain}
use Rattle.tx_rules.proofs.copying.take_last.Goals as goal

pub returns-in-Some-clause-taken : goal.returns-in-Some-clause-taken
returns-in-Some-clause-taken c = λ told at again taken.
    c.take_again.ensures.taken told at
    (All-pop (ServesAgain told at) c.args.before.now.items c.pop.new.self.items (Some c.in-Some.copy) c.in-Some.ensures.items again).1 taken
