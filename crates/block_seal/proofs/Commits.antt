-- A sealed block commits to what it holds.
use Rattle.std.proofs.Common.{◌≡◌, ℕ, true, List, Option, Some, None, refl, subst}
use Rattle.std.specs.Prelude.{IsTrue}
use Rattle.std.specs.Option.{option_map}
use Rattle.std.specs.Str.{bytes_eq}
use Rattle.std.proofs.lemmas.Option.{same_Some}
use Rattle.std.proofs.lemmas.Slice.Eq.{bytes_eq-Decides}
use Rattle.chain_defs.specs.Schema.{Block}
use Rattle.chain_defs.specs.Hashes.{transactions_root, proposals_hash, uncles_hash}
use Rattle.rule_defs.specs.Body.{commits_to_proposals, commits_to_transactions, commits_to_uncles}
use Rattle.block_seal.specs.Sealed.{dao_of, committed, with_header, sealed, KeepsItsCommitments}

same_text : (s : List ℕ) → bytes_eq s s ≡ true
same_text s = (bytes_eq-Decides s s).1 refl

abbrev Kept : Block → Type 0
Kept s = IsTrue (commits_to_proposals s) × IsTrue (commits_to_transactions s) × IsTrue (commits_to_uncles s)

pub commits : KeepsItsCommitments
unfolding sealed
commits b s is = by (dao_of b) is
  where
    by : (o : Option (List ℕ)) → option_map (λ dao. with_header b (committed b dao)) o ≡ Some s → Kept s
    by None h = absurd (cc)
    by (Some dao) h =
        let same : with_header b (committed b dao) ≡ s = same_Some (with_header b (committed b dao)) s h in
        subst Kept same (same_text (proposals_hash b.proposals), same_text (transactions_root b.transactions), same_text (uncles_hash b.uncles))
