use Rattle.std.proofs.Common.{◌≡◌, ◌≤◌, ℕ, suc, ◌-◌, map, ap, sym, subst, ◌∙◌, arith}
use Rattle.chain_defs.specs.Shape.{encoded}
use Rattle.chain_defs.specs.Schema as schema
use Rattle.chain_defs.specs.Hashes.{transaction_hash, witness_hash, proposals_hash}
use Rattle.gen_defs.specs.Start.{coin_capacity}
use Rattle.gen_defs.specs.Heights.{Coin, commits, transfer}
use Rattle.gen_defs.proofs.FieldLemmas.{issued-bound}
use Rattle.chain_gen.specs.declared.heights.After.{After}
use Rattle.chain_gen.proofs.Contents.{chosen, are_listed, list_is, top_is, ids_are, id_list_is, coin_is, field_is, after_is}
use Rattle.chain_gen.proofs.heights.content_at.Goals as goal

pub field_after-requires : goal.field_after-requires
field_after-requires c =
    let issued : coin_capacity ≤ c.after_at-before.result.field.issued =
    subst (λ (after : After). coin_capacity ≤ after.field.issued) (sym c.after_at-before.ensures) (issued-bound _) in
    omega (arith, issued)

pub returns : goal.returns
returns c =
    let height : ℕ = c.args.height in
    let is : height ≡ suc (height - 1) = omega (arith, c.requires.above) in
    let before = c.after_at-before.ensures in
    let coin_before = ap (λ (after : After). after.coin) before in
    let cellbase = c.in_ok-cellbase.ensures c.reward_paid.ensures in
    let transfers = are_listed _ _ _ c.in_ok-transfer.transfer (commits height) (transfer c.after_at-before.result.coin) c.in_ok-transfer.ensures.there c.in_ok-transfer.ensures.transfer in
    let coin = coin_is height (height - 1) _ is coin_before c.in_ok-transfer.ensures.there c.coin_after-coin.ensures in
    let ids = ids_are height coin c.in_ok-id.ensures in
    record {
      transactions_are = list_is height c.in_ok-list_of.ensures.list cellbase.bytes_are
          (transfers.bytes_are ∙ ap (λ (coin : Coin). map (encoded schema.transaction) (chosen (commits height) (transfer coin))) coin_before);
      transactions_size = c.in_ok-list_of.ensures.size;
      root_is = top_is height c.in_ok-root_of.ensures cellbase.hash_is cellbase.witness_hash_is
          (transfers.hashes_are ∙ ap (λ (coin : Coin). map transaction_hash (chosen (commits height) (transfer coin))) coin_before)
          (transfers.witness_hashes_are ∙ ap (λ (coin : Coin). map witness_hash (chosen (commits height) (transfer coin))) coin_before);
      proposals_are = id_list_is height c.in_ok-proposals_of.ensures.list ids;
      proposals_size = c.in_ok-proposals_of.ensures.size;
      proposals_hash_is = c.proposals_hash_of.ensures ∙ ap proposals_hash ids;
      after_is = after_is height coin (field_is height (height - 1) is (ap (λ (after : After). after.field) before) c.field_after.ensures);
    }
