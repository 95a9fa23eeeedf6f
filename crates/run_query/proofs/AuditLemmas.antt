-- What the balances of the best branch are made of: kept blocks that have joined, and the branch of the tip.
use Rattle.std.proofs.Common.{◌≡◌, ℕ, ℤ, List, [], Option, Some, None, sym, ap, ◌∙◌, subst}
use Rattle.outside.specs.declared.disk.Damage.{Damage}
use Rattle.outside.specs.declared.disk.ReadStop.{ReadStop}
use Rattle.outside.specs.declared.disk.ReadStop.TheVariants.{Damaged}
use Rattle.chain_defs.specs.Schema.{Block}
use Rattle.chain_defs.specs.Specification.{Specification}
use Rattle.chain_defs.specs.Branch.{branch}
use Rattle.chain_defs.specs.Tip.{tip_place}
use Rattle.chain_tree.specs.declared.entry.Entry.{Entry}
use Rattle.chain_tree.specs.Told.{Stored, blocks_of}
use Rattle.uncle_rules.specs.Embedded.{UnclesValue}
use Rattle.rewards.specs.Own.{HaveOwnFees}
use Rattle.rewards.specs.Reading.{IsUndamaged}
use Rattle.store_defs.specs.Store.{AreJoined}
use Rattle.supply_defs.specs.Laws.{supply_balance, occupied_balance}
use Rattle.supply.specs.Standing.{HaveJoined}
use Rattle.node_store.specs.Kept.{KeptValue, kept_of, exts_of, AreKept, CountFees, HoldsJoined}
use Rattle.node_store.proofs.KeptSources.{told-stored}
use Rattle.node_store.proofs.FeeLaws.{exts-keep-fees}
use Rattle.run_query.specs.Queries.{balances_of}

-- each ext holds its own fees
have-own-fees : (spec : Specification) (stored : List Stored) → AreJoined (record { spec = spec; blocks = blocks_of stored }) (exts_of stored)
    → CountFees stored → HaveOwnFees spec stored
have-own-fees spec stored kept counted place it above there = record {
  count = λ parent on. (exts-keep-fees spec stored kept counted place parent it above there on).0;
  each = λ parent j on within. (exts-keep-fees spec stored kept counted place parent it above there on).1.each j within;
}

-- what is kept has joined, where a source tells it
pub have-joined : (spec : Specification) (stored : List Stored) (entries : List Entry) (index : UnclesValue) (kept : KeptValue) (told : Option (List Stored))
    → kept_of spec stored entries ≡ kept → AreKept stored entries index → HoldsJoined kept told → HaveJoined spec told entries stored
have-joined spec stored entries index kept told whole are tells =
    let before : AreJoined (kept_of spec stored entries).chain (kept_of spec stored entries).exts =
    subst (λ (k : KeptValue). AreJoined k.chain k.exts) (sym whole) tells.joined in
    record {
      known = record {
        is = told-stored spec stored entries kept told whole tells;
        indexes = are.indexed;
        own = have-own-fees spec stored before are.counted;
      };
      joined = before.joined;
      canonical = are.canonical;
    }

abbrev balances_at : Specification → List Block → ℤ × ℤ
balances_at spec on = (supply_balance spec on, occupied_balance on)

abbrev branch_at : List Block → Option ℕ → List Block
branch_at kept None = []
branch_at kept (Some place) = branch kept place

-- the balances are those of the tip's branch
pub balances-are : (spec : Specification) (stored : List Stored) (entries : List Entry) (kept : KeptValue) (place : ℕ) (left : ℤ × ℤ)
    → kept_of spec stored entries ≡ kept → tip_place (blocks_of stored) ≡ Some place
    → left ≡ (supply_balance spec (branch (blocks_of stored) place), occupied_balance (branch (blocks_of stored) place)) → left ≡ balances_of kept.chain
balances-are spec stored entries kept place left whole is left_is =
    left_is ∙ ap (λ (found : Option ℕ). balances_at spec (branch_at (blocks_of stored) found)) (sym is) ∙ ap (λ (k : KeptValue). balances_of k.chain) whole

-- a stop that is no damage
pub undamaged-stop : (stop : ReadStop) (damage : Damage) → IsUndamaged stop → stop ≡ Damaged damage → ⊥
undamaged-stop stop damage undamaged is = subst IsUndamaged is undamaged
