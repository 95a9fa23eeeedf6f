-- A node that is taken apart, and an item that was judged over one.
use Rattle.std.proofs.Common.{◌≡◌, ℕ, ◌<◌, Bool, true, false, List, length, sym, ap, ◌∙◌, subst}
use Rattle.std.specs.Prelude.{Option, IsSome}
use Rattle.outside.specs.Image.{Image}
use Rattle.chain_defs.specs.Schema.{Block}
use Rattle.chain_defs.specs.Tip.{tip}
use Rattle.chain_defs.proofs.KeptLaws.{place_of-below}
use Rattle.chain_tree.specs.declared.entry.Entry.{Entry}
use Rattle.chain_tree.specs.Blocks.{IndexesBlocks}
use Rattle.cell_state.specs.State.{StateValue, rows}
use Rattle.cell_state.specs.Moves.{AreRowsOfBranch}
use Rattle.verdict_defs.specs.declared.verdict.Verdict.{Verdict}
use Rattle.verdict_defs.specs.declared.verdict.Verdict.TheVariants.{Joined}
use Rattle.verdict_defs.specs.Chain.{Chain, verdict_over}
use Rattle.store_defs.specs.Store.{AreJoined}
use Rattle.node_store.specs.declared.decision.Decision.{Decision}
use Rattle.node_store.specs.declared.decision.Decision.TheVariants.{Joins, Stays}
use Rattle.node_store.specs.declared.decision.Joining.{Joining}
use Rattle.node_store.specs.Held.{CacheValue}
use Rattle.node_store.specs.Import.{IsDecidedOn}
use Rattle.node_store.specs.Judging.{IsReadyItem, IsDecided, is_above, becomes_tip, place_for}
use Rattle.node_store.specs.Kept.{KeptValue, AreRowsOfFound, AreRowsOfTip}
use Rattle.node_store.specs.Node.{NodeValue, node_of, IsOwnDiskWhereTold, IsSoundWhereTold}
use Rattle.node_store.specs.Trying.{HasJudged}
use Rattle.node_store.proofs.ImportLemmas.{verdict_is}
use Rattle.node_store.proofs.JoiningLemmas.{joining-cells, staying-cells}

module _ (kept : KeptValue) (place : ℕ) (cells : StateValue) (cache : CacheValue) (node : NodeValue) (whole : node_of kept place cells cache ≡ node) where
  -- what has joined has joined there
  pub joined-inside : AreJoined node.chain node.exts → AreJoined kept.chain kept.exts
  joined-inside joined = subst (λ (v : NodeValue). AreJoined v.chain v.exts) (sym whole) joined

  -- the live cells are those of the same branch
  pub live-inside : (from : ℕ) → AreRowsOfBranch node.chain.blocks from (rows node.cells) → AreRowsOfBranch kept.chain.blocks from (rows cells)
  live-inside from live = subst (λ (v : NodeValue). AreRowsOfBranch v.chain.blocks from (rows v.cells)) (sym whole) live

-- ---- An item that was decided on

module _ (before node : NodeValue) (item : List ℕ) (decision : Decision) (reads_old reads_mid : Option Image) (mid : Image → Type 0)
    (decided : IsDecidedOn before node item decision reads_old reads_mid mid) where
  chain-is : node.chain ≡ before.chain
  chain-is = ap (λ (v : NodeValue). v.chain) decided.same

  -- it stays out
  pub judged-stays : (answer : Verdict) → decision ≡ Stays answer → HasJudged before node item answer reads_old reads_mid mid
  judged-stays answer found = record {
    same = decided.same;
    own = decided.own;
    cells = λ sound. subst (λ (d : Decision). AreRowsOfFound before.chain.blocks (place_for before.chain.blocks d) (rows node.cells)) found (decided.cells sound);
    verdict = λ sound. subst (IsDecided before.chain item) found (decided.decided sound);
  }

  module _ (joining : Joining) (found : decision ≡ Joins joining) where
    ready : IsReadyItem before.chain item (Joins joining)
    ready = subst (IsReadyItem before.chain item) found decided.ready

    live : IsSoundWhereTold before reads_old → AreRowsOfFound before.chain.blocks (place_for before.chain.blocks (Joins joining)) (rows node.cells)
    live sound = subst (λ (d : Decision). AreRowsOfFound before.chain.blocks (place_for before.chain.blocks d) (rows node.cells)) found (decided.cells sound)

    answer-is : IsSoundWhereTold before reads_old → Joined joining.entry.number joining.entry.hash ≡ verdict_over before.chain item
    answer-is sound = verdict_is before.chain item joining (subst (IsDecided before.chain item) found (decided.decided sound)) ready

    -- its parent is kept
    pub parent-within : joining.entry.parent < length node.chain.blocks
    parent-within =
        let b : Block = ready.0 in
        subst (λ (k : Chain). joining.entry.parent < length k.blocks) (sym chain-is)
        (place_of-below before.chain.blocks b.header.parent_hash joining.entry.parent ready.2.ready.entry.on_kept)

    -- whether it is above the tip
    above-is : (high : Bool) (entries : List Entry) → IndexesBlocks node.chain.blocks entries
        → ((kept : List Block) → IndexesBlocks kept entries → high ≡ is_above (tip kept) joining.entry) → becomes_tip before.chain.blocks (Joins joining) ≡ high
    above-is high entries indexed is = ap (λ (k : Chain). is_above (tip k.blocks) joining.entry) (sym chain-is) ∙ sym (is node.chain.blocks indexed)

    -- it would join, and not become the tip
    pub judged-beside : (high : Bool) (entries : List Entry) → IndexesBlocks node.chain.blocks entries
        → ((kept : List Block) → IndexesBlocks kept entries → high ≡ is_above (tip kept) joining.entry) → high ≡ false
        → HasJudged before node item (Joined joining.entry.number joining.entry.hash) reads_old reads_mid mid
    judged-beside high entries indexed is low = record {
      same = decided.same;
      own = decided.own;
      cells = λ sound. staying-cells before.chain.blocks joining (rows node.cells) (above-is high entries indexed is ∙ low) (live sound);
      verdict = answer-is;
    }

    -- it would become the tip, and the live cells went back
    module _ (high : Bool) (entries : List Entry) (indexed : IndexesBlocks node.chain.blocks entries)
        (is : (kept : List Block) → IndexesBlocks kept entries → high ≡ is_above (tip kept) joining.entry) (top : high ≡ true) where
      pub parent-live : IsSoundWhereTold before reads_old → AreRowsOfBranch node.chain.blocks joining.entry.parent (rows node.cells)
      parent-live sound =
          subst (λ (k : Chain). AreRowsOfBranch k.blocks joining.entry.parent (rows node.cells)) (sym chain-is)
          (joining-cells before.chain.blocks joining (rows node.cells) (above-is high entries indexed is ∙ top) (live sound))

      pub node-joined : IsSoundWhereTold before reads_old → AreJoined node.chain node.exts
      node-joined sound = subst (λ (v : NodeValue). AreJoined v.chain v.exts) (sym decided.same) sound.sound.joined

      pub judged-back : (back : NodeValue) (reads_new : Option Image) (new : Image → Type 0) → reads_mid ≡ reads_old
          → back ≡ record node { cells = back.cells; held = back.held } → IsOwnDiskWhereTold back reads_new new
          → (IsSome reads_mid → AreJoined node.chain node.exts → AreRowsOfBranch node.chain.blocks joining.entry.parent (rows node.cells) → AreRowsOfTip node.chain.blocks (rows back.cells))
          → HasJudged before back item (Joined joining.entry.number joining.entry.hash) reads_old reads_new new
      judged-back back reads_new new same_reads same own cells = record {
        same = same ∙ ap (λ (v : NodeValue). record v { cells = back.cells; held = back.held }) decided.same;
        own = own;
        cells = λ sound. subst (λ (k : Chain). AreRowsOfTip k.blocks (rows back.cells)) chain-is
            (cells (subst (λ (r : Option Image). IsSome r) (sym same_reads) sound.told) (node-joined sound) (parent-live sound));
        verdict = answer-is;
      }
