use Rattle.std.proofs.Common.{◌≡◌, List, length, take, drop, ◌++◌, Option, None, ap, sym, subst, ◌∙◌, arith}
use Rattle.std.proofs.lemmas.List.{take_at, length-replicate}
use Rattle.cell_state.specs.Copies.{ResolvedValue}
use Rattle.tx_rules.specs.Copying.{AreRowsCopied}
use Rattle.tx_rules.proofs.TakenLemmas.{taken-none}
use Rattle.tx_rules.proofs.copying.taken_before.Goals as goal

pub returns-clause-taken : goal.returns-clause-taken
returns-clause-taken c = λ told at again.
    let none = c.in_ok-taken.ensures in
    let long : length c.in_ok-taken.taken.items ≡ length c.args.rows.now = ap length none ∙ length-replicate (length c.args.rows.now) None in
    let filled = c.in_ok-taken.taken.ok in
    let still = c.take_before.ensures.long in
    let items : take c.in_ok-taken.taken.len (c.take_before.new.taken ++ drop (length c.take_before.new.taken) c.in_ok-taken.taken.items) ≡ c.take_before.new.taken =
    take_at c.take_before.new.taken (drop (length c.take_before.new.taken) c.in_ok-taken.taken.items) c.in_ok-taken.taken.len (omega (arith, filled, long, still)) in
    let start : AreRowsCopied told at c.args.rows.now c.deref_mut.result.now =
    subst (λ (slots : List (Option ResolvedValue)). AreRowsCopied told at c.args.rows.now slots) (sym (c.deref_mut.ensures.value ∙ none))
    (taken-none told at c.args.rows.now (length c.args.rows.now)) in
    subst (λ (slots : List (Option ResolvedValue)). AreRowsCopied told at c.args.rows.now slots) (sym items) (c.take_before.ensures.taken told at again start)
