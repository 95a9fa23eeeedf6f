use Rattle.std.proofs.Common.{sym, ◌∙◌}
use Rattle.std.proofs.lemmas.Bool.{ne_eqb, eq-eqb}
use Rattle.chain_defs.proofs.WalkLemmas.{every-fails, every-goes-on}
use Rattle.rule_defs.specs.Cellbase.{has_since}
use Rattle.block_judge.proofs.cellbase.has_sinces.Goals as goal

pub returns-then-since-number : goal.returns-then-since-number
returns-then-since-number c =
    every-fails (has_since c.args.number) c.args.raw.now.inputs c.inputs.i c.inputs_item.result _ c.inputs.invariant c.inputs_item.ensures
    (ne_eqb c.inputs_item.result.since c.args.number (λ same. c.if-since-number.true (c.since.ensures ∙ same)))

pub inputs-preserved : goal.inputs-preserved
inputs-preserved c =
    every-goes-on (has_since c.args.number) c.args.raw.now.inputs c.inputs.i c.inputs_item.result _ c.inputs.invariant c.inputs_item.ensures
    (eq-eqb c.inputs_item.result.since c.args.number (sym c.since.ensures ∙ c.if-since-number.false))
