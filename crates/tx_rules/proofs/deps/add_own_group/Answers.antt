use Rattle.std.proofs.Common.{◌≡◌, Some, sym, ap, ◌∙◌}
use Rattle.std.proofs.lemmas.Option.{same_Some}
use Rattle.chain_defs.specs.Schema.{Block}
use Rattle.cell_state.specs.Copies.{output_in}
use Rattle.tx_rules.specs.At.{AtValue}
use Rattle.tx_rules.proofs.deps.add_own_group.Goals as goal

pub returns-in-Some-clause-rows : goal.returns-in-Some-clause-rows
returns-in-Some-clause-rows g c = λ block output content judged last there.
    let here : Some c.in-Some.own ≡ Some block = sym c.in-Some.is ∙ ap (λ (at : AtValue). at.block) c.at.view_is ∙ judged in
    let block_is : c.in-Some.own ≡ block = same_Some c.in-Some.own block here in
    c.add_group_named.ensures.rows output content
    (ap (λ (b : Block). output_in b c.args.meta.now.transaction c.args.o.now.index) block_is ∙ there)
