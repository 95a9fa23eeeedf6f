use Rattle.std.proofs.Common.{◌≡◌, ℕ, ◌+◌, ◌^◌, ◌<◌, List, length, Option, Some, sym, ap, subst, ◌∙◌}
use Rattle.std.specs.Prelude.{IsTrue, IsSomeAnd}
use Rattle.std.proofs.lemmas.Option.{same_Some}
use Rattle.chain_defs.specs.Schema.{Block}
use Rattle.chain_defs.specs.Specification.{Specification, keeps_s3}
use Rattle.chain_defs.specs.Dao.{DaoField, field_of_bytes, miner_part}
use Rattle.chain_defs.specs.Branch.{branch}
use Rattle.chain_defs.proofs.KeptLaws.{slice_get-below}
use Rattle.chain_defs.proofs.RatedLemmas.{rated-parts}
use Rattle.outside.specs.declared.disk.ReadStop.{ReadStop}
use Rattle.outside.proofs.Endings.{handed}
use Rattle.chain_tree.specs.declared.entry.Entry.{Entry}
use Rattle.chain_tree.specs.Told.{blocks_of}
use Rattle.chain_tree.proofs.ReadLemmas.{same_stop}
use Rattle.rule_defs.specs.Shares.{primary_at, secondary_at}
use Rattle.rewards.proofs.ReadLemmas.{tells_still}
use Rattle.supply_defs.specs.Step.{step_of}
use Rattle.supply_defs.specs.Sums.{due}
use Rattle.supply.proofs.DueLemmas.{is-small, not-none}
use Rattle.supply.proofs.StepLemmas.{leads, step-is}
use Rattle.supply.proofs.KeptLemmas.{last-field, describes}
use Rattle.supply.proofs.step.step_at.Goals as goal

pub returns-in-Err-clause-of_block : goal.returns-in-Err-clause-of_block
returns-in-Err-clause-of_block g c stored tells damage same = c.in-Err.ensures.of_block stored tells damage (handed c.in-Err.stop _ same)

pub returns-in-Err-clause-step : goal.returns-in-Err-clause-step
returns-in-Err-clause-step g c stored parent b have on there = c.in-Err.ensures.flows c.args.spec.now stored parent b have.known on there

pub due_at-requires-clause-next : goal.due_at-requires-clause-next
due_at-requires-clause-next g c =
    let up = slice_get-below c.args.tree.now.entries c.parent_at-parent.result c.parent_at-parent.ensures.within in
    subst (λ (found : Option Entry). IsSomeAnd found (λ entry. c.entry-entry.result.now.number ≡ entry.number + 1)) (sym up.1)
    (c.parent_at-parent.ensures.next c.entry-entry.result.now up.0 c.entry-entry.ensures.entry up.1)

pub returns-in-Ok-None-clause-of_block : goal.returns-in-Ok-None-clause-of_block
returns-in-Ok-None-clause-of_block g c stored tells damage same =
    let is = same_stop _ _ same in
    (c.damaged_at.ensures.read.damage damage (ap (λ (stop : ReadStop). Some stop) is), (c.args.place, c.damaged_at.ensures.at_record damage is))

pub returns-in-Ok-None-clause-step : goal.returns-in-Ok-None-clause-step
returns-in-Ok-None-clause-step g c stored parent b have on there =
    let up = c.parent_at-parent.ensures.of_blocks (blocks_of stored) have.known.indexes in
    let keeps = subst (λ (s : Specification). IsTrue (keeps_s3 s.w_close s.w_far)) c.spec.view_is c.spec.invariant.s3 in
    let law = leads c.args.spec.now (g.B.Blocks.told c.args.blocks.now) c.args.tree.now.entries stored c.args.place c.parent_at-parent.result c.entry-entry.result.now b
    have keeps c.requires.later c.entry-entry.ensures.entry there up in
    absurd (not-none (due c.args.spec.now (branch (blocks_of stored) c.parent_at-parent.result)) law.payable
    (sym c.in-Ok-None.field-0-is ∙ c.in-Ok-None.ensures.due stored (tells_still c.in-Ok.ensures.read.told have.known) (sym law.height)))

pub returns-in-Err-due_at-clause-of_block : goal.returns-in-Err-due_at-clause-of_block
returns-in-Err-due_at-clause-of_block g c stored tells damage same =
    c.in-Err-due_at.ensures.of_block stored (c.in-Ok.ensures.read.told ∙ tells) damage (handed c.in-Err-due_at.stop _ same)

pub returns-in-Err-due_at-clause-step : goal.returns-in-Err-due_at-clause-step
returns-in-Err-due_at-clause-step g c stored parent b have on there =
    let up = c.parent_at-parent.ensures.of_blocks (blocks_of stored) have.known.indexes in
    let keeps = subst (λ (s : Specification). IsTrue (keeps_s3 s.w_close s.w_far)) c.spec.view_is c.spec.invariant.s3 in
    let law = leads c.args.spec.now (g.B.Blocks.told c.args.blocks.now) c.args.tree.now.entries stored c.args.place c.parent_at-parent.result c.entry-entry.result.now b
    have keeps c.requires.later c.entry-entry.ensures.entry there up in
    c.in-Err-due_at.ensures.due stored (tells_still c.in-Ok.ensures.read.told have.known) (sym law.height)

pub by-step-requires-clause-issued : goal.by-step-requires-clause-issued
by-step-requires-clause-issued g c =
    subst (λ (field : DaoField). 0 < field.issued) (sym c.read.ensures.field)
    (rated-parts c.entry.result.now.dao (c.requires.rated c.parent_at-parent.result c.entry.result.now c.entry.ensures.entry)).0

pub returns-in-Some-clause-step : goal.returns-in-Some-clause-step
returns-in-Some-clause-step g c stored parent b have on there =
    let kept : List Block = blocks_of stored in
    let up = c.parent_at-parent.ensures.of_blocks kept have.known.indexes in
    let same : c.parent_at-parent.result ≡ parent = same_Some c.parent_at-parent.result parent (sym up ∙ on) in
    let keeps = subst (λ (s : Specification). IsTrue (keeps_s3 s.w_close s.w_far)) c.spec.view_is c.spec.invariant.s3 in
    let law = leads c.args.spec.now (g.B.Blocks.told c.args.blocks.now) c.args.tree.now.entries stored c.args.place c.parent_at-parent.result c.entry-entry.result.now b
    have keeps c.requires.later c.entry-entry.ensures.entry there up in
    let field = last-field kept c.args.tree.now.entries c.parent_at-parent.result c.entry.result.now have.known.indexes c.entry.ensures.entry ∙ sym c.read.ensures.field in
    let next : field_of_bytes b.header.dao ≡ c.read-2.result =
    ap field_of_bytes (sym (describes kept c.args.tree.now.entries c.args.place c.entry-entry.result.now b have.known.indexes c.entry-entry.ensures.entry there).dao)
    ∙ sym c.read-2.ensures.field in
    let first : c.primary.result ≡ primary_at c.args.spec.now (length (branch kept c.parent_at-parent.result)) =
    c.primary.ensures ∙ ap (primary_at c.args.spec.now) law.height in
    let second : c.share-secondary.result ≡ secondary_at c.args.spec.now (length (branch kept c.parent_at-parent.result)) =
    c.share-secondary.ensures.share ∙ ap (λ (s : Specification). secondary_at s c.entry-entry.result.now.number) c.spec.view_is
    ∙ ap (secondary_at c.args.spec.now) law.height in
    let owes : c.in-Ok-Some.owed ≡ due c.args.spec.now (branch kept c.parent_at-parent.result) =
    is-small c.in-Ok-Some.owed (due c.args.spec.now (branch kept c.parent_at-parent.result)) law.payable
    (sym c.in-Ok-Some.field-0-is ∙ c.in-Ok-Some.ensures.due stored (tells_still c.in-Ok.ensures.read.told have.known) (sym law.height)) in
    let miner : miner_part c.read.result c.share-secondary.result < 2 ^ 121 =
    subst (λ (n : ℕ). n < 2 ^ 121) (λ i. miner_part (field i) (sym second i)) law.miner in
    let is = same_Some _ _ (c.in-Some.ensures miner) in
    subst (λ (place : ℕ). c.in-Some.step ≡ step_of c.args.spec.now (branch kept place) b) same
    (is ∙ step-is c.args.spec.now (branch kept c.parent_at-parent.result) b c.read.result c.read-2.result c.primary.result c.share-secondary.result _ _
    c.in-Ok-Some.owed field next first second (c.in-Ok.ensures.flows c.args.spec.now stored c.parent_at-parent.result b have.known up there) owes)

pub returns-in-None-clause-step : goal.returns-in-None-clause-step
returns-in-None-clause-step g c stored parent b have on there =
    let kept : List Block = blocks_of stored in
    let up = c.parent_at-parent.ensures.of_blocks kept have.known.indexes in
    let keeps = subst (λ (s : Specification). IsTrue (keeps_s3 s.w_close s.w_far)) c.spec.view_is c.spec.invariant.s3 in
    let law = leads c.args.spec.now (g.B.Blocks.told c.args.blocks.now) c.args.tree.now.entries stored c.args.place c.parent_at-parent.result c.entry-entry.result.now b
    have keeps c.requires.later c.entry-entry.ensures.entry there up in
    let field = last-field kept c.args.tree.now.entries c.parent_at-parent.result c.entry.result.now have.known.indexes c.entry.ensures.entry ∙ sym c.read.ensures.field in
    let second : c.share-secondary.result ≡ secondary_at c.args.spec.now (length (branch kept c.parent_at-parent.result)) =
    c.share-secondary.ensures.share ∙ ap (λ (s : Specification). secondary_at s c.entry-entry.result.now.number) c.spec.view_is
    ∙ ap (secondary_at c.args.spec.now) law.height in
    let miner : miner_part c.read.result c.share-secondary.result < 2 ^ 121 =
    subst (λ (n : ℕ). n < 2 ^ 121) (λ i. miner_part (field i) (sym second i)) law.miner in
    let none = c.in-None.ensures miner in
    absurd (cc)

pub returns-in-None-clause-of_block : goal.returns-in-None-clause-of_block
returns-in-None-clause-of_block g c stored tells damage same =
    let is = same_stop _ _ same in
    (c.damaged_at-in-None.ensures.read.damage damage (ap (λ (stop : ReadStop). Some stop) is), (c.args.place, c.damaged_at-in-None.ensures.at_record damage is))
