use Rattle.std.proofs.Common.{sym, refl, ap, ◌∙◌}
use Rattle.outside.proofs.Endings.{no_answer}
use Rattle.chain_tree.proofs.ReadLemmas.{unread}
use Rattle.node_store.specs.Steps.{moves_of, moves_for}
use Rattle.verdict_defs.specs.declared.verdict.Verdict.TheVariants.{Full}
use Rattle.node_core.proofs.DecidingLemmas.{verdict-no-block, decided-else, ready-else}
use Rattle.node_store.proofs.StepLemmas.{no-step, moves-of-item, none-until, until-item}
use Rattle.node_core.proofs.deciding.RulesJudging.decide.Goals as goal

pub decide_block-requires : goal.decide_block-requires
decide_block-requires g c = record { counts = c.requires.counts }

-- ---- No block

pub returns-in-None-clause-read : goal.returns-in-None-clause-read
returns-in-None-clause-read g c = unread _

pub returns-in-None-clause-ready : goal.returns-in-None-clause-ready
returns-in-None-clause-ready g c = refl

pub returns-in-None-clause-cells : goal.returns-in-None-clause-cells
returns-in-None-clause-cells g c = λ _ live. live

pub returns-in-None-clause-below : goal.returns-in-None-clause-below
returns-in-None-clause-below g c = λ are. are

pub returns-in-None-clause-decided : goal.returns-in-None-clause-decided
returns-in-None-clause-decided g c tells live = verdict-no-block c.args.kept.now.chain c.args.item.now (sym c.in-None.ensures.value)

pub returns-in-None-clause-undamaged : goal.returns-in-None-clause-undamaged
returns-in-None-clause-undamaged g c = λ _ _ _ e. no_answer _ _ e

pub returns-in-None-clause-asked : goal.returns-in-None-clause-asked
returns-in-None-clause-asked g c = λ e. absurd (no_answer _ _ e)

pub returns-in-None-clause-most : goal.returns-in-None-clause-most
returns-in-None-clause-most g c = no-step _ _

pub returns-in-None-clause-sight : goal.returns-in-None-clause-sight
returns-in-None-clause-sight g c = λ _. refl

-- ---- A block

pub returns-in-Some-clause-read : goal.returns-in-Some-clause-read
returns-in-Some-clause-read g c = c.decide_block.ensures.read

pub returns-in-Some-clause-ready : goal.returns-in-Some-clause-ready
returns-in-Some-clause-ready g c =
    ready-else c.args.kept.now.chain c.args.item.now c.in-Some.block c.decide_block.result (sym c.in-Some.ensures.value) c.decide_block.ensures.ready

pub returns-in-Some-clause-cells : goal.returns-in-Some-clause-cells
returns-in-Some-clause-cells g c = c.decide_block.ensures.cells

pub returns-in-Some-clause-below : goal.returns-in-Some-clause-below
returns-in-Some-clause-below g c = c.decide_block.ensures.below

pub returns-in-Some-clause-decided : goal.returns-in-Some-clause-decided
returns-in-Some-clause-decided g c tells live =
    decided-else c.args.kept.now.chain c.args.item.now c.in-Some.block c.decide_block.result (sym c.in-Some.ensures.value) (c.decide_block.ensures.decided tells live)

pub returns-in-Some-clause-undamaged : goal.returns-in-Some-clause-undamaged
returns-in-Some-clause-undamaged g c = c.decide_block.ensures.undamaged

pub returns-in-Some-clause-asked : goal.returns-in-Some-clause-asked
returns-in-Some-clause-asked g c = λ e. (c.in-Some.block, sym c.in-Some.ensures.value, c.decide_block.ensures.asked e)

pub returns-in-Some-clause-most : goal.returns-in-Some-clause-most
returns-in-Some-clause-most g c =
    moves-of-item c.args.kept.now.chain c.args.item.now c.in-Some.block _ _ (sym c.in-Some.ensures.value) c.decide_block.ensures.most

pub returns-in-Some-clause-sight : goal.returns-in-Some-clause-sight
returns-in-Some-clause-sight g c = λ none. c.decide_block.ensures.sight (ap (moves_of c.args.kept.now.chain) c.in-Some.ensures.value ∙ none)

-- ---- How many steps

pub returns-in-None-clause-exactly : goal.returns-in-None-clause-exactly
returns-in-None-clause-exactly g c =
    none-until c.args.kept.now.chain.blocks (moves_for c.args.kept.now.chain c.args.item.now) c.args.steps.now Full (ap (moves_of c.args.kept.now.chain) (sym c.in-None.ensures.value))

pub returns-in-Some-clause-exactly : goal.returns-in-Some-clause-exactly
returns-in-Some-clause-exactly g c =
    until-item c.args.kept.now.chain c.args.item.now c.in-Some.block _ _ c.decide_block.result (sym c.in-Some.ensures.value) c.decide_block.ensures.exactly
