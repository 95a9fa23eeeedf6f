use Rattle.std.proofs.Common.{◌≡◌, Some, refl, sym, ap, ◌∙◌}
use Rattle.std.specs.Prelude.{Err}
use Rattle.chain_defs.specs.Branch.{branch}
use Rattle.chain_defs.specs.Tip.{tip_place}
use Rattle.chain_defs.proofs.KeptLaws.{place_of-below}
use Rattle.chain_tree.specs.Told.{blocks_of}
use Rattle.chain_tree.proofs.ReadLemmas.{unread, read_on, read_so, read_short}
use Rattle.cell_state.specs.State.{rows}
use Rattle.rule_defs.specs.RuleNumber.{rule_number}
use Rattle.verdict_defs.specs.declared.verdict.Verdict.TheVariants.{Refused, Full}
use Rattle.node_store.specs.Kept.{KeptValue}
use Rattle.node_store.proofs.EntryLemmas.{within-blocks}
use Rattle.node_core.proofs.DecidingLemmas.{verdict-refused}
use Rattle.block_judge.proofs.SightLemmas.{first-at-sight}
use Rattle.node_core.proofs.SightLemmas.{wants-passed}
use Rattle.node_store.specs.Steps.{moves_on}
use Rattle.node_store.proofs.StepLemmas.{takes-some, none-until, moves-broken, until_there, until_back}
use Rattle.node_store.proofs.JoiningLemmas.{at-parent, at-tip}
use Rattle.node_store.proofs.KeptSources.{tells-on, same_stop}
use Rattle.node_core.proofs.deciding.decide_on.Goals as goal

pub moved-requires-clause-from : goal.moved-requires-clause-from
moved-requires-clause-from g c =
    within-blocks (blocks_of c.kept.inside.blocks.stored) c.args.kept.now.chain.blocks c.kept.inside.tree.entries c.tip-from.result
    (ap (λ (v : KeptValue). v.chain.blocks) c.kept.view_is) c.kept.invariant.indexed c.tip-from.ensures.within

pub moved-requires-clause-to : goal.moved-requires-clause-to
moved-requires-clause-to g c =
    place_of-below c.args.kept.now.chain.blocks c.args.candidate.now.block.now.header.parent_hash c.args.candidate.now.entry.parent c.requires.entry.on_kept

pub moved-requires-clause-counts : goal.moved-requires-clause-counts
moved-requires-clause-counts g c = c.requires.counts

pub judge_on-requires-clause-counts : goal.judge_on-requires-clause-counts
judge_on-requires-clause-counts g c = c.moved.ensures.read.count ∙ c.requires.counts

pub moved-requires-2-clause-from : goal.moved-requires-2-clause-from
moved-requires-2-clause-from g c =
    place_of-below c.args.kept.now.chain.blocks c.args.candidate.now.block.now.header.parent_hash c.args.candidate.now.entry.parent c.requires.entry.on_kept

pub moved-requires-2-clause-to : goal.moved-requires-2-clause-to
moved-requires-2-clause-to g c =
    within-blocks (blocks_of c.kept.inside.blocks.stored) c.args.kept.now.chain.blocks c.kept.inside.tree.entries c.tip-from.result
    (ap (λ (v : KeptValue). v.chain.blocks) c.kept.view_is) c.kept.invariant.indexed c.tip-from.ensures.within

pub moved-requires-2-clause-counts : goal.moved-requires-2-clause-counts
moved-requires-2-clause-counts g c = c.judge_on.ensures.read.count ∙ c.moved.ensures.read.count ∙ c.requires.counts

-- ---- Reads

pub returns-in-Err-Broken-clause-read : goal.returns-in-Err-Broken-clause-read
returns-in-Err-Broken-clause-read g c = unread _

pub returns-in-Err-Read-clause-read : goal.returns-in-Err-Read-clause-read
returns-in-Err-Read-clause-read g c =
    read_so (ap Some (sym (c.in-Err-Read.stop-is ∙ c.in-Err-Read.ensures.memory c.in-Err-Read.stop (ap Err c.in-Err-Read.field-0-is)))) (read_short (unread _))

pub returns-in-Err-clause-read : goal.returns-in-Err-clause-read
returns-in-Err-clause-read g c = c.in-Err.ensures.read

pub returns-in-Err-judge_on-clause-read : goal.returns-in-Err-judge_on-clause-read
returns-in-Err-judge_on-clause-read g c = read_on c.in-Ok-moved.ensures.read c.in-Err-judge_on.ensures.read

pub returns-then-is_tip_next-clause-read : goal.returns-then-is_tip_next-clause-read
returns-then-is_tip_next-clause-read g c = read_on c.in-Ok-moved.ensures.read c.in-Ok-judge_on.ensures.read

pub returns-in-Ok-moved-2-clause-read : goal.returns-in-Ok-moved-2-clause-read
returns-in-Ok-moved-2-clause-read g c =
    read_on (read_on c.in-Ok-moved.ensures.read c.in-Ok-judge_on.ensures.read) c.in-Ok-moved-2.ensures.read

pub returns-in-Err-moved-clause-read : goal.returns-in-Err-moved-clause-read
returns-in-Err-moved-clause-read g c = read_on (read_on c.in-Ok-moved.ensures.read c.in-Ok-judge_on.ensures.read) c.in-Err-moved.ensures.read

-- ---- At sight

pub returns-in-Err-Broken-clause-decided : goal.returns-in-Err-Broken-clause-decided
returns-in-Err-Broken-clause-decided g c tells live =
    let chain = c.args.kept.now.chain in
    ap Refused (c.number.ensures ∙ ap rule_number c.in-Err-Broken.rule-is)
    ∙ verdict-refused chain.spec chain.blocks c.args.candidate.now.block.now c.args.candidate.now.entry c.requires.entry (rule_number c.in-Err-Broken.rule)
    (first-at-sight chain.spec (branch chain.blocks c.args.candidate.now.entry.parent) c.args.candidate.now.block.now (rule_number c.in-Err-Broken.rule)
    (c.in-Err-Broken.ensures.broken c.in-Err-Broken.rule (ap Err c.in-Err-Broken.field-0-is)))

-- ---- By the live cells of its parent

pub returns-then-is_tip_next-clause-cells : goal.returns-then-is_tip_next-clause-cells
returns-then-is_tip_next-clause-cells g c tells live =
    let at : tip_place c.args.kept.now.chain.blocks ≡ Some c.tip-from.result =
    sym (ap (λ (v : KeptValue). tip_place v.chain.blocks) c.kept.view_is)
    ∙ c.tip-from.ensures.of_blocks (blocks_of c.kept.inside.blocks.stored) c.kept.invariant.indexed in
    at-parent c.args.kept.now.chain.blocks c.args.candidate.now.entry.parent c.in-Ok-judge_on.decision (rows c.in-Ok-moved.there) c.in-Ok-judge_on.ensures.on
    (sym c.is_tip_next.ensures ∙ c.if-is_tip_next.true) (c.in-Ok-moved.ensures.cells tells (live c.tip-from.result at))

pub returns-then-is_tip_next-clause-decided : goal.returns-then-is_tip_next-clause-decided
returns-then-is_tip_next-clause-decided g c tells live =
    let at : tip_place c.args.kept.now.chain.blocks ≡ Some c.tip-from.result =
    sym (ap (λ (v : KeptValue). tip_place v.chain.blocks) c.kept.view_is)
    ∙ c.tip-from.ensures.of_blocks (blocks_of c.kept.inside.blocks.stored) c.kept.invariant.indexed in
    c.in-Ok-judge_on.ensures.decided (tells-on c.args.kept.now _ _ c.moved.ensures.read.told tells)
    (c.in-Ok-moved.ensures.cells tells (live c.tip-from.result at))

pub returns-in-Ok-moved-2-clause-cells : goal.returns-in-Ok-moved-2-clause-cells
returns-in-Ok-moved-2-clause-cells g c tells live =
    let at : tip_place c.args.kept.now.chain.blocks ≡ Some c.tip-from.result =
    sym (ap (λ (v : KeptValue). tip_place v.chain.blocks) c.kept.view_is)
    ∙ c.tip-from.ensures.of_blocks (blocks_of c.kept.inside.blocks.stored) c.kept.invariant.indexed in
    at-tip c.args.kept.now.chain.blocks c.tip-from.result c.in-Ok-judge_on.decision (rows c.in-Ok-moved-2.back) at
    (sym c.is_tip_next.ensures ∙ c.if-is_tip_next.false)
    (c.in-Ok-moved-2.ensures.cells (tells-on c.args.kept.now _ _ (c.judge_on.ensures.read.told ∙ c.moved.ensures.read.told) tells)
    (c.in-Ok-moved.ensures.cells tells (live c.tip-from.result at)))

pub returns-in-Ok-moved-2-clause-decided : goal.returns-in-Ok-moved-2-clause-decided
returns-in-Ok-moved-2-clause-decided g c tells live =
    let at : tip_place c.args.kept.now.chain.blocks ≡ Some c.tip-from.result =
    sym (ap (λ (v : KeptValue). tip_place v.chain.blocks) c.kept.view_is)
    ∙ c.tip-from.ensures.of_blocks (blocks_of c.kept.inside.blocks.stored) c.kept.invariant.indexed in
    c.in-Ok-judge_on.ensures.decided (tells-on c.args.kept.now _ _ c.moved.ensures.read.told tells)
    (c.in-Ok-moved.ensures.cells tells (live c.tip-from.result at))

pub returns-in-Err-judge_on-clause-undamaged : goal.returns-in-Err-judge_on-clause-undamaged
returns-in-Err-judge_on-clause-undamaged g c tells live damage was =
    let at : tip_place c.args.kept.now.chain.blocks ≡ Some c.tip-from.result =
    sym (ap (λ (v : KeptValue). tip_place v.chain.blocks) c.kept.view_is)
    ∙ c.tip-from.ensures.of_blocks (blocks_of c.kept.inside.blocks.stored) c.kept.invariant.indexed in
    c.in-Err-judge_on.ensures.undamaged (tells-on c.args.kept.now _ _ c.moved.ensures.read.told tells)
    (c.in-Ok-moved.ensures.cells tells (live c.tip-from.result at)) damage (ap Err (same_stop _ _ was))

pub returns-in-Err-moved-clause-undamaged : goal.returns-in-Err-moved-clause-undamaged
returns-in-Err-moved-clause-undamaged g c tells live damage was =
    let at : tip_place c.args.kept.now.chain.blocks ≡ Some c.tip-from.result =
    sym (ap (λ (v : KeptValue). tip_place v.chain.blocks) c.kept.view_is)
    ∙ c.tip-from.ensures.of_blocks (blocks_of c.kept.inside.blocks.stored) c.kept.invariant.indexed in
    c.in-Err-moved.ensures.undamaged (tells-on c.args.kept.now _ _ (c.judge_on.ensures.read.told ∙ c.moved.ensures.read.told) tells)
    (c.in-Ok-moved.ensures.cells tells (live c.tip-from.result at)) damage (ap Err (same_stop _ _ was))

-- ---- Where memory is wanted

pub returns-in-Err-clause-asked : goal.returns-in-Err-clause-asked
returns-in-Err-clause-asked g c = λ _.
    wants-passed c.args.kept.now.chain c.args.candidate.now.block.now c.args.candidate.now.entry.parent c.requires.entry.new c.requires.entry.on_kept c.in-Ok.ensures.passed.sight

pub returns-in-Err-judge_on-clause-asked : goal.returns-in-Err-judge_on-clause-asked
returns-in-Err-judge_on-clause-asked g c = λ _.
    wants-passed c.args.kept.now.chain c.args.candidate.now.block.now c.args.candidate.now.entry.parent c.requires.entry.new c.requires.entry.on_kept c.in-Ok.ensures.passed.sight

pub returns-in-Err-moved-clause-asked : goal.returns-in-Err-moved-clause-asked
returns-in-Err-moved-clause-asked g c = λ _.
    wants-passed c.args.kept.now.chain c.args.candidate.now.block.now c.args.candidate.now.entry.parent c.requires.entry.new c.requires.entry.on_kept c.in-Ok.ensures.passed.sight

-- ---- Nothing is read where it is answered at sight

pub returns-in-Err-Broken-clause-sight : goal.returns-in-Err-Broken-clause-sight
returns-in-Err-Broken-clause-sight g c = λ _. refl

pub returns-in-Err-Read-clause-sight : goal.returns-in-Err-Read-clause-sight
returns-in-Err-Read-clause-sight g c = λ _. refl

pub returns-in-Err-clause-sight : goal.returns-in-Err-clause-sight
returns-in-Err-clause-sight g c = λ none.
    absurd (takes-some c.args.kept.now.chain c.args.candidate.now.block.now c.args.candidate.now.entry.parent c.in-Ok.ensures.passed.sight none)

pub returns-in-Err-judge_on-clause-sight : goal.returns-in-Err-judge_on-clause-sight
returns-in-Err-judge_on-clause-sight g c = λ none.
    absurd (takes-some c.args.kept.now.chain c.args.candidate.now.block.now c.args.candidate.now.entry.parent c.in-Ok.ensures.passed.sight none)

pub returns-then-is_tip_next-clause-sight : goal.returns-then-is_tip_next-clause-sight
returns-then-is_tip_next-clause-sight g c = λ none.
    absurd (takes-some c.args.kept.now.chain c.args.candidate.now.block.now c.args.candidate.now.entry.parent c.in-Ok.ensures.passed.sight none)

pub returns-in-Ok-moved-2-clause-sight : goal.returns-in-Ok-moved-2-clause-sight
returns-in-Ok-moved-2-clause-sight g c = λ none.
    absurd (takes-some c.args.kept.now.chain c.args.candidate.now.block.now c.args.candidate.now.entry.parent c.in-Ok.ensures.passed.sight none)

pub returns-in-Err-moved-clause-sight : goal.returns-in-Err-moved-clause-sight
returns-in-Err-moved-clause-sight g c = λ none.
    absurd (takes-some c.args.kept.now.chain c.args.candidate.now.block.now c.args.candidate.now.entry.parent c.in-Ok.ensures.passed.sight none)

-- ---- Each row is of a kept block

pub returns-in-Err-Broken-clause-below : goal.returns-in-Err-Broken-clause-below
returns-in-Err-Broken-clause-below g c = λ are. are

pub returns-in-Err-Read-clause-below : goal.returns-in-Err-Read-clause-below
returns-in-Err-Read-clause-below g c = λ _. tt

pub returns-in-Err-clause-below : goal.returns-in-Err-clause-below
returns-in-Err-clause-below g c = λ _. tt

pub returns-in-Err-judge_on-clause-below : goal.returns-in-Err-judge_on-clause-below
returns-in-Err-judge_on-clause-below g c = λ _. tt

pub returns-then-is_tip_next-clause-below : goal.returns-then-is_tip_next-clause-below
returns-then-is_tip_next-clause-below g c = c.in-Ok-moved.ensures.below

pub returns-in-Ok-moved-2-clause-below : goal.returns-in-Ok-moved-2-clause-below
returns-in-Ok-moved-2-clause-below g c = λ are. c.in-Ok-moved-2.ensures.below (c.in-Ok-moved.ensures.below are)

pub returns-in-Err-moved-clause-below : goal.returns-in-Err-moved-clause-below
returns-in-Err-moved-clause-below g c = λ _. tt

-- ---- How many steps

pub returns-in-Err-Broken-clause-exactly : goal.returns-in-Err-Broken-clause-exactly
returns-in-Err-Broken-clause-exactly g c =
    none-until c.args.kept.now.chain.blocks (moves_on c.args.kept.now.chain c.args.candidate.now.block.now (Some c.args.candidate.now.entry.parent)) c.args.steps.now Full
    (moves-broken c.args.kept.now.chain c.args.candidate.now.block.now c.args.candidate.now.entry.parent (rule_number c.in-Err-Broken.rule)
    (c.in-Err-Broken.ensures.broken c.in-Err-Broken.rule (ap Err c.in-Err-Broken.field-0-is)))

pub returns-in-Err-Read-clause-exactly : goal.returns-in-Err-Read-clause-exactly
returns-in-Err-Read-clause-exactly g c = tt

pub returns-in-Err-clause-exactly : goal.returns-in-Err-clause-exactly
returns-in-Err-clause-exactly g c = tt

pub returns-in-Err-judge_on-clause-exactly : goal.returns-in-Err-judge_on-clause-exactly
returns-in-Err-judge_on-clause-exactly g c = tt

pub returns-in-Err-moved-clause-exactly : goal.returns-in-Err-moved-clause-exactly
returns-in-Err-moved-clause-exactly g c = tt

pub returns-then-is_tip_next-clause-exactly : goal.returns-then-is_tip_next-clause-exactly
returns-then-is_tip_next-clause-exactly g c =
    until_there c.args.kept.now.chain c.args.candidate.now.block.now c.args.candidate.now.entry.parent c.tip-from.result c.args.steps.now c.in-Ok.ensures.passed.sight
    (sym (ap (λ (v : KeptValue). tip_place v.chain.blocks) c.kept.view_is)
    ∙ c.tip-from.ensures.of_blocks (blocks_of c.kept.inside.blocks.stored) c.kept.invariant.indexed)
    c.in-Ok-judge_on.decision _ (sym c.is_tip_next.ensures ∙ c.if-is_tip_next.true) c.in-Ok-moved.ensures.steps

pub returns-in-Ok-moved-2-clause-exactly : goal.returns-in-Ok-moved-2-clause-exactly
returns-in-Ok-moved-2-clause-exactly g c =
    until_back c.args.kept.now.chain c.args.candidate.now.block.now c.args.candidate.now.entry.parent c.tip-from.result c.args.steps.now c.in-Ok.ensures.passed.sight
    (sym (ap (λ (v : KeptValue). tip_place v.chain.blocks) c.kept.view_is)
    ∙ c.tip-from.ensures.of_blocks (blocks_of c.kept.inside.blocks.stored) c.kept.invariant.indexed)
    c.in-Ok-judge_on.decision _ _ (sym c.is_tip_next.ensures ∙ c.if-is_tip_next.false) c.in-Ok-moved.ensures.steps c.in-Ok-moved-2.ensures.steps
