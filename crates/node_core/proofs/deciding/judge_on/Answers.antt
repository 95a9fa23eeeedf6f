use Rattle.std.proofs.Common.{◌≡◌, None, Some, refl, ap, ◌∙◌, subst, sym}
use Rattle.std.specs.Prelude.{length}
use Rattle.outside.proofs.Endings.{no_answer}
use Rattle.chain_defs.specs.Branch.{branch}
use Rattle.chain_defs.proofs.KeptLaws.{place_of-below}
use Rattle.chain_tree.specs.Told.{blocks_of}
use Rattle.chain_tree.proofs.ReadLemmas.{read_so}
use Rattle.verdict_defs.specs.Judged.{judged_block}
use Rattle.verdict_defs.proofs.JudgedLemmas.{block-breaks-first, block-passes-by}
use Rattle.block_judge.specs.Answers.{IsExt, StopsAs}
use Rattle.block_judge.specs.Standing.{judged_left}
use Rattle.block_judge.specs.Stops.{stop_in}
use Rattle.block_judge.specs.declared.stop.JudgeStop.TheVariants.{Read}
use Rattle.verdict_defs.specs.Ext.{ext_of}
use Rattle.verdict_defs.specs.Rules.{first_broken, broken_at_sight}
use Rattle.verdict_defs.specs.Chain.{Chain}
use Rattle.verdict_defs.specs.declared.verdict.Verdict.TheVariants.{Refused}
use Rattle.rule_defs.specs.RuleNumber.{rule_number}
use Rattle.node_store.specs.Kept.{KeptValue}
use Rattle.node_store.proofs.EntryLemmas.{kept-parent, within-entries}
use Rattle.node_core.proofs.DecidingLemmas.{whole-at-hand, room-for, may-be-kept, is-judged, verdict-refused, verdict-full}
use Rattle.node_store.proofs.KeptSources.{told-stored, counts-entries, same_stop}
use Rattle.node_core.proofs.deciding.judge_on.Goals as goal

pub judge-requires-clause-placed : goal.judge-requires-clause-placed
judge-requires-clause-placed g c =
    kept-parent c.kept.inside.blocks.stored c.kept.inside.tree.entries c.kept.inside.uncles c.args.candidate.now.entry.parent c.kept.invariant
    (within-entries (blocks_of c.kept.inside.blocks.stored) c.args.kept.now.chain.blocks c.kept.inside.tree.entries c.args.candidate.now.entry.parent
    (ap (λ (v : KeptValue). v.chain.blocks) c.kept.view_is) c.kept.invariant.indexed
    (place_of-below c.args.kept.now.chain.blocks c.args.candidate.now.block.now.header.parent_hash c.args.candidate.now.entry.parent c.requires.entry.on_kept))

pub judge-requires-clause-counts : goal.judge-requires-clause-counts
judge-requires-clause-counts g c =
    counts-entries (blocks_of c.kept.inside.blocks.stored) c.args.kept.now.chain.blocks c.kept.inside.tree.entries _
    (ap (λ (v : KeptValue). v.chain.blocks) c.kept.view_is) c.kept.invariant.indexed c.requires.counts

-- ---- A rule that is broken

pub returns-in-Err-Broken-clause-read : goal.returns-in-Err-Broken-clause-read
returns-in-Err-Broken-clause-read g c = read_so (ap stop_in c.in-Err-Broken.field-0-is) c.in-Err-Broken.ensures.read

pub returns-in-Err-Broken-clause-ready : goal.returns-in-Err-Broken-clause-ready
returns-in-Err-Broken-clause-ready g c = refl

pub returns-in-Err-Broken-clause-decided : goal.returns-in-Err-Broken-clause-decided
returns-in-Err-Broken-clause-decided g c tells live =
    let stored = c.kept.inside.blocks.stored in
    let told = told-stored c.kept.inside.spec stored c.kept.inside.tree.entries c.args.kept.now _ c.kept.view_is tells in
    let whole = ap (λ (v : KeptValue). v.chain) c.kept.view_is in
    let stands = whole-at-hand c.kept.inside.spec stored c.kept.inside.tree.entries c.kept.inside.uncles
    c.args.state.now c.args.kept.now c.args.candidate.now.block.now c.args.candidate.now.entry c.kept.view_is c.kept.invariant c.requires.entry tells.joined live in
    let passes = subst (λ (v : Chain). broken_at_sight v.spec (branch v.blocks c.args.candidate.now.entry.parent) c.args.candidate.now.block.now ≡ None) (sym whole) c.requires.passed.sight in
    ap Refused (c.number.ensures ∙ ap rule_number c.in-Err-Broken.rule-is)
    ∙ verdict-refused c.args.kept.now.chain.spec c.args.kept.now.chain.blocks c.args.candidate.now.block.now c.args.candidate.now.entry c.requires.entry (rule_number c.in-Err-Broken.rule)
    (subst (λ (v : Chain). first_broken v.spec (branch v.blocks c.args.candidate.now.entry.parent) c.args.candidate.now.block.now ≡ Some (rule_number c.in-Err-Broken.rule)) whole
    (block-breaks-first c.kept.inside.spec (blocks_of stored) c.args.candidate.now.entry.parent c.args.candidate.now.block.now (rule_number c.in-Err-Broken.rule)
    (subst (StopsAs (judged_block c.kept.inside.spec (blocks_of stored) c.args.candidate.now.entry.parent c.args.candidate.now.block.now)) c.in-Err-Broken.field-0-is
    ((c.in-Err-Broken.ensures.exact stored told stands).all passes))))

pub returns-in-Err-Broken-clause-undamaged : goal.returns-in-Err-Broken-clause-undamaged
returns-in-Err-Broken-clause-undamaged g c = λ _ _ _ was. no_answer _ _ was

-- ---- Blocks that are not read

pub returns-in-Err-Read-clause-read : goal.returns-in-Err-Read-clause-read
returns-in-Err-Read-clause-read g c =
    read_so (ap stop_in (c.in-Err-Read.field-0-is ∙ ap Read (sym c.in-Err-Read.stop-is))) c.in-Err-Read.ensures.read

pub returns-in-Err-Read-clause-undamaged : goal.returns-in-Err-Read-clause-undamaged
returns-in-Err-Read-clause-undamaged g c tells live damage was =
    let stored = c.kept.inside.blocks.stored in
    let told = told-stored c.kept.inside.spec stored c.kept.inside.tree.entries c.args.kept.now _ c.kept.view_is tells in
    let stands = whole-at-hand c.kept.inside.spec stored c.kept.inside.tree.entries c.kept.inside.uncles
    c.args.state.now c.args.kept.now c.args.candidate.now.block.now c.args.candidate.now.entry c.kept.view_is c.kept.invariant c.requires.entry tells.joined live in
    subst (StopsAs (judged_left c.kept.inside.spec (blocks_of stored) c.args.candidate.now.entry.parent c.args.candidate.now.block.now))
    (c.in-Err-Read.field-0-is ∙ ap Read (sym c.in-Err-Read.stop-is ∙ same_stop _ _ was)) (c.in-Err-Read.ensures.exact stored told stands).left

-- ---- Room

pub returns-then-has_room-clause-read : goal.returns-then-has_room-clause-read
returns-then-has_room-clause-read g c = c.in-Ok.ensures.read

pub returns-then-has_room-clause-ready : goal.returns-then-has_room-clause-ready
returns-then-has_room-clause-ready g c =
    let whole = ap (λ (v : KeptValue). v.chain) c.kept.view_is in
    may-be-kept c.args.kept.now.chain c.args.candidate.now.block.now (record { entry = c.args.candidate.now.entry; ext = c.in-Ok.ext; hashes = c.args.hashes }) c.requires.entry c.requires.passed
    (room-for c.len.result _ c.has_room.result c.has_room.ensures c.if-has_room.true
    (c.len.ensures.of_blocks (blocks_of c.kept.inside.blocks.stored) c.kept.invariant.indexed ∙ ap (λ (v : Chain). length v.blocks) whole))
    c.in-Ok.ensures.rated c.in-Ok.ensures.fees

pub returns-then-has_room-clause-decided : goal.returns-then-has_room-clause-decided
returns-then-has_room-clause-decided g c tells live =
    let stored = c.kept.inside.blocks.stored in
    let told = told-stored c.kept.inside.spec stored c.kept.inside.tree.entries c.args.kept.now _ c.kept.view_is tells in
    let whole = ap (λ (v : KeptValue). v.chain) c.kept.view_is in
    let stands = whole-at-hand c.kept.inside.spec stored c.kept.inside.tree.entries c.kept.inside.uncles
    c.args.state.now c.args.kept.now c.args.candidate.now.block.now c.args.candidate.now.entry c.kept.view_is c.kept.invariant c.requires.entry tells.joined live in
    let passes = subst (λ (v : Chain). broken_at_sight v.spec (branch v.blocks c.args.candidate.now.entry.parent) c.args.candidate.now.block.now ≡ None) (sym whole) c.requires.passed.sight in
    let judged = block-passes-by c.kept.inside.spec (blocks_of stored) c.args.candidate.now.entry.parent c.args.candidate.now.block.now (λ is. IsExt is c.in-Ok.ext)
    ((c.in-Ok.ensures.exact stored told stands).all passes) in
    is-judged c.args.kept.now.chain c.args.candidate.now.block.now (record { entry = c.args.candidate.now.entry; ext = c.in-Ok.ext; hashes = c.args.hashes }) c.requires.entry
    (subst (λ (v : Chain). first_broken v.spec (branch v.blocks c.args.candidate.now.entry.parent) c.args.candidate.now.block.now ≡ None) whole
    judged.0)
    (room-for c.len.result _ c.has_room.result c.has_room.ensures c.if-has_room.true
    (c.len.ensures.of_blocks (blocks_of stored) c.kept.invariant.indexed ∙ ap (λ (v : Chain). length v.blocks) whole))
    (subst (λ (v : Chain). c.in-Ok.ext ≡ ext_of v.spec v.blocks c.args.candidate.now.entry.parent c.args.candidate.now.block.now) whole
    judged.1)

pub returns-then-has_room-clause-undamaged : goal.returns-then-has_room-clause-undamaged
returns-then-has_room-clause-undamaged g c = λ _ _ _ was. no_answer _ _ was

pub returns-clause-read : goal.returns-clause-read
returns-clause-read g c = c.in-Ok.ensures.read

pub returns-clause-ready : goal.returns-clause-ready
returns-clause-ready g c = refl

pub returns-clause-decided : goal.returns-clause-decided
returns-clause-decided g c tells live =
    let stored = c.kept.inside.blocks.stored in
    let told = told-stored c.kept.inside.spec stored c.kept.inside.tree.entries c.args.kept.now _ c.kept.view_is tells in
    let whole = ap (λ (v : KeptValue). v.chain) c.kept.view_is in
    let stands = whole-at-hand c.kept.inside.spec stored c.kept.inside.tree.entries c.kept.inside.uncles
    c.args.state.now c.args.kept.now c.args.candidate.now.block.now c.args.candidate.now.entry c.kept.view_is c.kept.invariant c.requires.entry tells.joined live in
    let passes = subst (λ (v : Chain). broken_at_sight v.spec (branch v.blocks c.args.candidate.now.entry.parent) c.args.candidate.now.block.now ≡ None) (sym whole) c.requires.passed.sight in
    let judged = block-passes-by c.kept.inside.spec (blocks_of stored) c.args.candidate.now.entry.parent c.args.candidate.now.block.now (λ is. IsExt is c.in-Ok.ext)
    ((c.in-Ok.ensures.exact stored told stands).all passes) in
    verdict-full c.args.kept.now.chain.spec c.args.kept.now.chain.blocks c.args.candidate.now.block.now c.args.candidate.now.entry c.requires.entry c.len.result c.has_room.result
    (subst (λ (v : Chain). first_broken v.spec (branch v.blocks c.args.candidate.now.entry.parent) c.args.candidate.now.block.now ≡ None) whole
    judged.0)
    c.has_room.ensures c.if-has_room.false
    (c.len.ensures.of_blocks (blocks_of stored) c.kept.invariant.indexed ∙ ap (λ (v : Chain). length v.blocks) whole)

pub returns-clause-undamaged : goal.returns-clause-undamaged
returns-clause-undamaged g c = λ _ _ _ was. no_answer _ _ was
