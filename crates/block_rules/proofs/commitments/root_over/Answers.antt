use Rattle.std.proofs.Common.{◌≡◌, ℕ, ◌<◌, ◌^◌, List, [], ◌∷◌, length, map, sym, ap, ap₂, ◌∙◌, subst, arith}
use Rattle.std.specs.Prelude.{IfOk}
use Rattle.std.proofs.lemmas.List.{length-map}
use Rattle.chain_defs.specs.Root.{root}
use Rattle.chain_defs.specs.Hashes.{transaction_hash, witness_hash, transactions_root}
use Rattle.block_rules.proofs.commitments.root_over.Goals as goal

pub root-requires : goal.root-requires
root-requires c =
    let long = length-map c.args.block.now.transactions transaction_hash in
    let same = length-map c.args.block.now.transactions witness_hash in
    omega (arith, ap length c.requires.known, long, ap length c.in_ok-listed.ensures.hashes, same, c.in_ok-listed.ensures.fits)

pub root-requires-2 : goal.root-requires-2
root-requires-2 c = omega (arith, ap length c.deref.ensures.value, c.in_ok-listed.ensures.fits)

pub returns : goal.returns
unfolding transactions_root
returns c =
    let transactions = c.args.block.now.transactions in
    let one : c.in_ok-transactions.transactions ≡ root (map transaction_hash transactions) =
    c.in_ok-transactions.ensures ∙ ap root c.requires.known in
    let two : c.in_ok-witnesses.witnesses ≡ root (map witness_hash transactions) =
    c.in_ok-witnesses.ensures ∙ ap root (c.deref.ensures.value ∙ c.in_ok-listed.ensures.hashes) in
    subst (λ (list : List (List ℕ)). IfOk c.root-3.result (λ hash. hash ≡ root list)) (ap₂ (λ (a b : List ℕ). a ∷ b ∷ []) one two) c.root-3.ensures
