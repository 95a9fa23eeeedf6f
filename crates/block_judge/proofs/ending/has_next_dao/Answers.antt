use Rattle.std.proofs.Common.{◌≡◌, ◌<◌, Bool, List, ℕ, Some, None, sym, ap, ◌∙◌, subst}
use Rattle.std.specs.Prelude.{IsTrue}
use Rattle.std.specs.Str.{bytes_eq}
use Rattle.chain_defs.specs.Schema.{Header}
use Rattle.chain_defs.specs.Dao.{DaoField, next_field, field_bytes}
use Rattle.chain_defs.proofs.RatedLemmas.{rated-parts}
use Rattle.chain_defs.specs.Branch.{branch}
use Rattle.rule_defs.proofs.DaoLaws.{rated-next}
use Rattle.tx_rules.proofs.BranchLemmas.{branch-long}
use Rattle.block_judge.proofs.EndingLemmas.{next-there}
use Rattle.block_judge.proofs.ending.has_next_dao.Goals as goal

pub next_field-requires : goal.next_field-requires
next_field-requires c =
    subst (λ (field : DaoField). 0 < field.issued) (sym c.read.ensures.field)
    (rated-parts c.entry-before.result.now.dao (c.requires.placed.rated c.args.parent c.entry-before.result.now c.entry-before.ensures.entry)).0

pub returns-in-Some-clause-next : goal.returns-in-Some-clause-next
returns-in-Some-clause-next c kept indexes moved =
    let own : c.dao.result.now ≡ c.args.block.now.header.dao = c.dao.ensures.value ∙ ap (λ (header : Header). header.dao) c.header.ensures in
    let written : c.as_slice.result.now ≡ field_bytes c.in-Some.dao = c.as_slice.ensures ∙ c.write.ensures.bytes in
    c.eq.ensures ∙ ap (λ (bytes : List ℕ). bytes_eq bytes c.as_slice.result.now) own ∙ ap (bytes_eq c.args.block.now.header.dao) written
    ∙ next-there c.args.spec.now kept c.args.tree.now.entries c.args.parent c.entry-before.result.now c.args.block.now c.read.result (Some c.in-Some.dao) indexes
    c.entry-before.ensures.entry c.read.ensures.field
    (c.in-Some.ensures ∙ ap (next_field c.read.result) (c.movement_of-movement.ensures (branch kept c.args.parent)
    (branch-long kept c.args.tree.now.entries c.args.parent c.entry-before.result.now indexes c.entry-before.ensures.entry) moved))

pub returns-in-Some-clause-rated : goal.returns-in-Some-clause-rated
returns-in-Some-clause-rated c same =
    let own : c.dao.result.now ≡ c.args.block.now.header.dao = c.dao.ensures.value ∙ ap (λ (header : Header). header.dao) c.header.ensures in
    let written : c.as_slice.result.now ≡ field_bytes c.in-Some.dao = c.as_slice.ensures ∙ c.write.ensures.bytes in
    let parts = rated-parts c.entry-before.result.now.dao (c.requires.placed.rated c.args.parent c.entry-before.result.now c.entry-before.ensures.entry) in
    rated-next c.read.result c.movement_of-movement.result (Some c.in-Some.dao) c.args.block.now.header.dao (sym c.in-Some.ensures)
    (subst (λ (field : DaoField). 0 < field.issued) (sym c.read.ensures.field) parts.0) (subst (λ (field : DaoField). 0 < field.rate) (sym c.read.ensures.field) parts.1)
    (subst (λ (b : Bool). IsTrue b)
    (c.eq.ensures ∙ ap (λ (bytes : List ℕ). bytes_eq bytes c.as_slice.result.now) own ∙ ap (bytes_eq c.args.block.now.header.dao) written) same)

pub returns-in-None-clause-next : goal.returns-in-None-clause-next
returns-in-None-clause-next c kept indexes moved =
    next-there c.args.spec.now kept c.args.tree.now.entries c.args.parent c.entry-before.result.now c.args.block.now c.read.result None indexes
    c.entry-before.ensures.entry c.read.ensures.field
    (c.in-None.ensures ∙ ap (next_field c.read.result) (c.movement_of-movement.ensures (branch kept c.args.parent)
    (branch-long kept c.args.tree.now.entries c.args.parent c.entry-before.result.now indexes c.entry-before.ensures.entry) moved))
