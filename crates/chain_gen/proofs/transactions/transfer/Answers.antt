use Rattle.std.proofs.Common.{ℕ, List, ap, ◌∙◌}
use Rattle.chain_defs.specs.Molecule as molecule
use Rattle.chain_defs.specs.Shape.{encoded}
use Rattle.chain_defs.specs.Schema as schema
use Rattle.gen_defs.specs.Start as start
use Rattle.gen_defs.specs.Heights as heights
use Rattle.chain_gen.proofs.Parts.{one_of, transfer_lists, transfer_parts, transfer_version}
use Rattle.chain_gen.proofs.transactions.transfer.Goals as goal

pub returns : goal.returns
returns c =
    let coin : heights.Coin = c.args.coin.now in
    let deps = one_of molecule.fixvec c.deref-5.ensures.value c.in_ok-deps.ensures.bytes c.deref.ensures.value
    (c.in_ok-dep_row.ensures.bytes
    ∙ ap (λ (hash : List ℕ). encoded schema.cell_dep (record { out_point = record { tx_hash = hash; index = 0 }; dep_type = 0 })) c.requires.genesis_hash_is) in
    let inputs = one_of molecule.fixvec c.deref-6.ensures.value c.in_ok-inputs.ensures.bytes c.deref-2.ensures.value
    (c.in_ok-input_row.ensures.bytes
    ∙ ap (λ (coin : heights.Coin). encoded schema.cell_input (record { since = 0; previous_output = coin.out_point })) c.coin.view_is) in
    let outputs = one_of molecule.dynvec c.deref-7.ensures.value c.in_ok-outputs.ensures.bytes c.deref-4.ensures.value
    (c.in_ok-output_table.ensures.bytes start.lock (c.deref-3.ensures.value ∙ c.requires.lock_is)
    ∙ ap (λ (capacity : ℕ). encoded schema.cell_output (start.output_of capacity)) c.left_of.ensures) in
    let contents = c.deref-8.ensures.value ∙ c.in_ok-data.ensures.bytes in
    let lists = transfer_lists coin _ _ _ _ deps inputs outputs contents in
    c.tx_of.ensures (heights.transfer coin)
    (transfer_parts coin _ (c.deref-9.ensures.value ∙ c.in_ok-raw.ensures.bytes (heights.transfer coin).raw (transfer_version coin) lists))
