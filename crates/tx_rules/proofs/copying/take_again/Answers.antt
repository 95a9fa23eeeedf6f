use Rattle.std.proofs.Common.{◌≡◌, length, refl}
use Rattle.std.specs.Prelude.{Some, slice_get}
use Rattle.std.proofs.lemmas.Option.{slice_get_read}
use Rattle.tx_rules.proofs.TakenLemmas.{taken-again}
use Rattle.tx_rules.proofs.copying.take_again.Goals as goal

pub returns-then-is_of-clause-taken : goal.returns-then-is_of-clause-taken
returns-then-is_of-clause-taken c = λ told at again taken.
    let row = c.index-rows-i.result in
    let here : slice_get c.args.rows.now c.args.i ≡ Some row =
    slice_get_read c.args.rows.now (length c.args.rows.now) c.args.i row refl c.if-i-rows.true c.index-rows-i.is in
    taken-again told at c.args.rows.now c.args.taken.now c.args.i row c.args.copy here (c.is_of.ensures c.if-is_of.true) again taken
