-- What a block is assembled over, and that it joins.
use Rattle.std.proofs.Common.{◌≡◌, ℕ, ◌<◌, true, List, length, Some, None, sym, ap, subst}
use Rattle.std.specs.Prelude.{Result, Ok, Err, IfOk}
use Rattle.chain_defs.specs.Specification.{Specification}
use Rattle.chain_defs.specs.Tip.{tip_place}
use Rattle.cell_state.specs.State.{StateValue, rows}
use Rattle.chain_tree.specs.declared.entry.Entry.{Entry}
use Rattle.chain_tree.specs.Told.{Stored, blocks_of}
use Rattle.uncle_rules.specs.Embedded.{UnclesValue}
use Rattle.block_judge.specs.Standing.{StandsWhole}
use Rattle.verdict_defs.specs.Verdict.{joins}
use Rattle.verdict_defs.specs.Chain.{Chain, verdict_over}
use Rattle.tx_pool.specs.declared.assembling.Assembled.{Assembled}
use Rattle.verdict_defs.specs.declared.verdict.Verdict.TheVariants.{Joined}
use Rattle.store_defs.specs.Store.{AreJoined}
use Rattle.node_store.specs.Kept.{KeptValue, kept_of, AreKept, AreRowsOfTip}
use Rattle.node_core.proofs.OwnLemmas.{have-own-fees}
use Rattle.node_core.proofs.DecidingLemmas.{stands-tip}

-- ---- What it is judged over

-- all that a block after the tip is judged over
pub whole-at-tip : (spec : Specification) (stored : List Stored) (entries : List Entry) (index : UnclesValue) (state : StateValue) (kept : KeptValue) (place : ℕ)
    → kept_of spec stored entries ≡ kept → AreKept stored entries index → AreJoined kept.chain kept.exts → AreRowsOfTip kept.chain.blocks (rows state)
    → tip_place (blocks_of stored) ≡ Some place → place < length entries → StandsWhole spec stored entries place (rows state) index
whole-at-tip spec stored entries index state kept place whole are joined live is below =
    let before : AreJoined (kept_of spec stored entries).chain (kept_of spec stored entries).exts = subst (λ (k : KeptValue). AreJoined k.chain k.exts) (sym whole) joined in
    record {
      stands = stands-tip spec stored entries index (rows state) place are (subst (λ (k : KeptValue). AreRowsOfTip k.chain.blocks (rows state)) (sym whole) live)
          before.joined is below;
      uncles = are.uncles;
      fees = have-own-fees spec stored before are.counted;
    }

-- ---- A block that is assembled

pub joins-made : {E : Type 0} (chain : Chain) (number : ℕ) (hash : List ℕ) (result : Result Assembled E)
    → IfOk result (λ made. made.broken ≡ None → verdict_over chain made.block.items ≡ Joined number hash)
    → IfOk result (λ made. made.broken ≡ None → joins (verdict_over chain made.block.items) ≡ true)
joins-made chain number hash (Ok made) answers = λ unbroken. ap joins (answers unbroken)
joins-made chain number hash (Err stop) answers = tt
