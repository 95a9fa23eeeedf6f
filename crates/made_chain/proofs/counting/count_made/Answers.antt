use Rattle.std.proofs.Common.{◌≡◌, subst}
use Rattle.std.specs.Prelude.{IfOk}
use Rattle.report_defs.specs.declared.counts.Counts.{Counts}
use Rattle.made_chain.proofs.ImportLemmas.{counts-are}
use Rattle.made_chain.proofs.counting.count_made.Goals as goal

pub returns : goal.returns
returns g c =
    let made = c.in_ok-made.made in
    subst (λ (v : Counts). IfOk c.count_on.result (λ counts. counts ≡ v))
    (counts-are made.spec.items made.genesis.items _ c.args.seed c.args.count c.in_ok-made.ensures.spec c.in_ok-made.ensures.genesis c.in_ok-made.ensures.blocks)
    c.count_on.ensures
