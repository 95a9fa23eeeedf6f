use Rattle.std.proofs.Common.{List, ℕ, length, sym, ap, ◌∙◌, arith}
use Rattle.std.specs.Prelude.{slice_get, option_map}
use Rattle.std.proofs.lemmas.List.{length-map}
use Rattle.std.proofs.lemmas.Option.{same_Some, slice_get_within, slice_get-map}
use Rattle.chain_defs.specs.Hashes.{transaction_hash}
use Rattle.block_judge.proofs.known.hash_of.Goals as goal

pub hash_at-requires : goal.hash_at-requires
hash_at-requires c =
    let within = slice_get_within c.args.block.now.transactions c.args.i c.args.tx.now c.requires.there in
    let long = length-map c.args.block.now.transactions transaction_hash in
    omega (arith, within, long, ap length c.requires.hashes)

pub returns : goal.returns
returns c =
    same_Some c.hash_at.result (transaction_hash c.args.tx.now)
    (sym c.hash_at.ensures ∙ ap (λ (hashes : List (List ℕ)). slice_get hashes c.args.i) c.requires.hashes
    ∙ slice_get-map transaction_hash c.args.block.now.transactions c.args.i ∙ ap (option_map transaction_hash) c.requires.there)
