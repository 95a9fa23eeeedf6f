use Rattle.std.proofs.Common.{ℕ, ◌+◌, ap, ◌∙◌}
use Rattle.chain_defs.specs.Specification.{Specification}
use Rattle.chain_defs.specs.Epochs.{epoch_field}
use Rattle.chain_defs.specs.Dao.{field_bytes}
use Rattle.gen_defs.specs.Start.{specification}
use Rattle.chain_gen.specs.declared.heights.After.{After}
use Rattle.chain_gen.proofs.Children.{epoch_is, child_header_is}
use Rattle.chain_gen.proofs.growth.child_header.Goals as goal

pub returns : goal.returns
returns c = λ b head held.
    let height : ℕ = c.args.parent.now.number + 1 in
    let epoch = epoch_is c.epoch_of.inside.epoch_length height c.field.ensures.value c.epoch_of-2.ensures.number c.epoch_of-2.ensures.index c.epoch_of-2.ensures.length
    ∙ ap (λ (spec : Specification). epoch_field spec.epoch_length height) (c.epoch_of.view_is ∙ c.specification.ensures)
    ∙ ap (λ (n : ℕ). epoch_field specification.epoch_length (n + 1)) head.number_is in
    child_header_is b c.args.nonce head.timestamp_is head.number_is epoch head.hash_is held.root_is held.proposals_hash_is
    (c.write.ensures.bytes ∙ ap (λ (after : After). field_bytes after.field) held.after_is) c.from.ensures
