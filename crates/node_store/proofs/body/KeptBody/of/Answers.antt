use Rattle.std.proofs.Common.{◌≡◌, ◌-◌, ◌++◌, ℕ, List, length, map, take, drop, ap, sym, subst, ◌∙◌, arith, rules}
use Rattle.std.proofs.Math.Seq.{take-append_seam, drop-append_seam}
use Rattle.std.proofs.lemmas.List.{length-append}
use Rattle.chain_defs.specs.Schema.{Block, block}
use Rattle.chain_defs.specs.Hashes.{transaction_hash}
use Rattle.cell_state.specs.ListBlocks.{ids_of, IsCanonical}
use Rattle.cell_state.proofs.ListBlockLemmas.{canonical-decoded, decoding-is}
use Rattle.node_store.proofs.StoredLemmas.{ids-by}
use Rattle.node_store.proofs.body.KeptBody.of.Goals as goal

pub invariant_of-result : goal.invariant_of-result
invariant_of-result c =
    let whole : c.extend_from_slice.new.self.items ≡ c.args.block.now ++ c.args.ext.now = search rules in
    let first : take (length c.args.block.now - 0) c.extend_from_slice.new.self.items ≡ c.args.block.now =
    ap (λ (n : ℕ). take n c.extend_from_slice.new.self.items) (omega arith) ∙ ap (take (length c.args.block.now)) whole ∙ take-append_seam c.args.block.now c.args.ext.now in
    let here : Block = block.decoding c.args.block.now in
    let hashes : c.args.hashes.now ≡ map transaction_hash here.transactions = c.requires.hashes here (canonical-decoded _ c.requires.canonical) in (
      omega arith,
      omega (arith, ap length whole, length-append c.args.block.now c.args.ext.now),
      subst IsCanonical (sym first) c.requires.canonical,
      c.in_ok-ids.ensures ∙ ap (λ (hs : List (List ℕ)). map (take 10) (drop 1 hs)) hashes ∙ ids-by here.transactions
          ∙ ap (λ (bytes : List ℕ). ids_of (block.decoding bytes)) (sym first),
    )

pub returns : goal.returns
returns c b is =
    let whole : c.extend_from_slice.new.self.items ≡ c.args.block.now ++ c.args.ext.now = search rules in
    let first : take (length c.args.block.now - 0) c.extend_from_slice.new.self.items ≡ c.args.block.now =
    ap (λ (n : ℕ). take n c.extend_from_slice.new.self.items) (omega arith) ∙ ap (take (length c.args.block.now)) whole ∙ take-append_seam c.args.block.now c.args.ext.now in
    let rest : drop (length c.args.block.now) c.extend_from_slice.new.self.items ≡ c.args.ext.now =
    ap (drop (length c.args.block.now)) whole ∙ drop-append_seam c.args.block.now c.args.ext.now in
    (λ i. record { block = (ap block.decoding first ∙ decoding-is c.args.block.now b is) i; ext = rest i })
