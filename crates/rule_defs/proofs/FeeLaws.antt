-- What a block pays is the list of its fees, with the ids of its transactions.
use Rattle.std.proofs.Common.{◌≡◌, ℕ, suc, List, [], ◌∷◌, map, refl, ap}
use Rattle.chain_defs.specs.Schema.{Transaction, Block}
use Rattle.chain_defs.specs.Specification.{Specification}
use Rattle.chain_defs.specs.Hashes.{proposal_id}
use Rattle.rule_defs.specs.Site.{site_at}
use Rattle.rule_defs.specs.Capacity.{fee, fees_from}
use Rattle.rule_defs.specs.Fees.{Paid, paid_from}
use Rattle.rule_defs.specs.RewardLaws.{PaysItsFees}

pub fees-paid : (spec : Specification) (branch : List Block) (b : Block) (place : ℕ) (ts : List Transaction)
    → map (λ paid. paid.fee) (paid_from spec branch b place ts) ≡ fees_from spec branch b place ts
unfolding paid_from fees_from
fees-paid spec branch b place [] = refl
fees-paid spec branch b place (t ∷ later) = ap (λ (l : List ℕ). fee (site_at spec branch b place) t ∷ l) (fees-paid spec branch b (suc place) later)

pub ids-paid : (spec : Specification) (branch : List Block) (b : Block) (place : ℕ) (ts : List Transaction)
    → map (λ paid. paid.id) (paid_from spec branch b place ts) ≡ map proposal_id ts
unfolding paid_from
ids-paid spec branch b place [] = refl
ids-paid spec branch b place (t ∷ later) = ap (λ (l : List (List ℕ)). proposal_id t ∷ l) (ids-paid spec branch b (suc place) later)
