-- How many steps the live cells take for an item.
use Rattle.std.proofs.Common.{◌≡◌, ℕ, ◌+◌, ◌-◌, ◌*◌, ◌≤◌, Bool, true, false, cond, refl, List, Option, Some, None, sym, ap, ◌∙◌, subst, arith}
use Rattle.std.specs.Prelude.{◌/◌, is_some, Result, IfOk}
use Rattle.std.proofs.Math.Nat.{mul-div_cancel_left}
use Rattle.outside.specs.declared.disk.ReadStop.{ReadStop}
use Rattle.chain_tree.specs.declared.entry.Entry.{Entry}
use Rattle.chain_defs.specs.Shape.{decoded}
use Rattle.chain_defs.specs.Schema.{Block, block}
use Rattle.chain_defs.specs.Kept.{block_hash, place_of}
use Rattle.chain_defs.specs.Branch.{branch, distance}
use Rattle.chain_defs.specs.Tip.{tip, tip_place}
use Rattle.verdict_defs.specs.Rules.{broken_at_sight}
use Rattle.verdict_defs.specs.declared.verdict.Verdict.{Verdict}
use Rattle.verdict_defs.specs.declared.verdict.Verdict.TheVariants.{Joined, Known, Refused, Full}
use Rattle.verdict_defs.specs.Verdict.{joins}
use Rattle.verdict_defs.specs.Chain.{Chain}
use Rattle.cell_state.proofs.DistanceLemmas.{none-away}
use Rattle.node_store.specs.declared.decision.Joining.{Joining}
use Rattle.node_store.specs.declared.decision.Decision.{Decision}
use Rattle.node_store.specs.declared.decision.Decision.TheVariants.{Joins, Stays}
use Rattle.node_store.specs.Judging.{IsReadyItem, is_above, becomes_tip}
use Rattle.node_store.specs.Steps.{distance_from, moves_at, moves_on, moves_of, moves_of_block, moves_for, moves_until, moves_to_join, number_above, moves_with}

pub no-step : (before most : ℕ) → before ≤ before + most
no-step before most = omega arith

-- a block that is not kept, on a kept parent
pub moves-on-parent : (chain : Chain) (b : Block) (parent : ℕ) → place_of chain.blocks (block_hash b) ≡ None
    → place_of chain.blocks b.header.parent_hash ≡ Some parent → moves_on chain b (Some parent) ≡ moves_of_block chain b
moves-on-parent chain b parent new on =
    sym (ap (λ (o : Option ℕ). cond (is_some o) 0 (moves_on chain b (place_of chain.blocks b.header.parent_hash))) new ∙ ap (moves_on chain b) on)

pub moves-of-item : (chain : Chain) (item : List ℕ) (b : Block) (before now : ℕ) → decoded block item ≡ Some b
    → now ≤ before + (moves_of_block chain b - 1) → now ≤ before + (moves_for chain item - 1)
moves-of-item chain item b before now is most = subst (λ (o : Option Block). now ≤ before + (moves_of chain o - 1)) (sym is) most

pub moves-of-chain : (inside chain : Chain) (item : List ℕ) (before now : ℕ) → inside ≡ chain → now ≤ before + (moves_for inside item - 1)
    → now ≤ before + (moves_for chain item - 1)
moves-of-chain inside chain item before now seen most = subst (λ (k : Chain). now ≤ before + (moves_for k item - 1)) seen most

-- where it passes at sight
moves-passed : (chain : Chain) (b : Block) (parent : ℕ) → broken_at_sight chain.spec (branch chain.blocks parent) b ≡ None
    → moves_on chain b (Some parent) ≡ moves_at chain.blocks parent + 1
moves-passed chain b parent passed = ap (λ (o : Option ℕ). cond (is_some o) 0 (moves_at chain.blocks parent + 1)) passed

-- so it may take some
pub takes-some : (chain : Chain) (b : Block) (parent : ℕ) → broken_at_sight chain.spec (branch chain.blocks parent) b ≡ None
    → moves_on chain b (Some parent) ≡ 0 → ⊥
takes-some chain b parent passed none = omega (arith, none, moves-passed chain b parent passed)

module _ (chain : Chain) (b : Block) (parent tip before : ℕ) (passed : broken_at_sight chain.spec (branch chain.blocks parent) b ≡ None)
    (at : tip_place chain.blocks ≡ Some tip) where
  there_and_back : moves_on chain b (Some parent) ≡ 2 * distance chain.blocks tip parent + 1
  there_and_back = moves-passed chain b parent passed ∙ ap (λ (o : Option ℕ). 2 * distance_from chain.blocks o parent + 1) at

  -- from the tip to its parent
  pub moved_there : (now : ℕ) → now ≤ before + distance chain.blocks tip parent → now ≤ before + (moves_on chain b (Some parent) - 1)
  moved_there now most = omega (arith, there_and_back, most)

  -- and back
  pub moved_back : (mid now : ℕ) → mid ≤ before + distance chain.blocks tip parent → now ≤ mid + distance chain.blocks parent tip
      → now ≤ before + (moves_on chain b (Some parent) - 1)
  moved_back mid now most back = omega (arith, there_and_back, most, back)

-- one that joins may take its own events
pub moves-joining : (chain : Chain) (item : List ℕ) (joining : Joining) → IsReadyItem chain item (Joins joining) → 1 ≤ moves_for chain item
moves-joining chain item joining (b, is, may) =
    let moves : moves_for chain item ≡ moves_at chain.blocks joining.entry.parent + 1 =
    ap (moves_of chain) is ∙ sym (moves-on-parent chain b joining.entry.parent may.ready.entry.new may.ready.entry.on_kept)
    ∙ moves-passed chain b joining.entry.parent may.sight in
    omega (arith, moves)

-- on the tip it takes its own events at most
pub moves-on-tip : (chain : Chain) (item : List ℕ) (b : Block) → decoded block item ≡ Some b → place_of chain.blocks b.header.parent_hash ≡ tip_place chain.blocks
    → moves_for chain item ≤ 1
moves-on-tip chain item b is on = subst (λ (o : Option Block). moves_of chain o ≤ 1) (sym is) (by_known (is_some (place_of chain.blocks (block_hash b))))
  where
    by_sight : (broken : Bool) (moves : ℕ) → moves ≡ 0 → cond broken 0 (moves + 1) ≤ 1
    by_sight true moves none = omega arith
    by_sight false moves none = omega (arith, none)

    by_parent : (found : Option ℕ) → tip_place chain.blocks ≡ found → moves_on chain b found ≤ 1
    by_parent None at = omega arith
    by_parent (Some tip) at =
        let none : distance_from chain.blocks (tip_place chain.blocks) tip ≡ 0 =
        ap (λ (o : Option ℕ). distance_from chain.blocks o tip) at ∙ none-away chain.blocks tip in
        by_sight (is_some (broken_at_sight chain.spec (branch chain.blocks tip) b)) (moves_at chain.blocks tip) (ap (λ (n : ℕ). 2 * n) none)

    by_known : (known : Bool) → cond known 0 (moves_on chain b (place_of chain.blocks b.header.parent_hash)) ≤ 1
    by_known true = omega arith
    by_known false = subst (λ (o : Option ℕ). moves_on chain b o ≤ 1) (sym on) (by_parent (tip_place chain.blocks) refl)

-- ---- Exactly, where there is an answer

-- half of the way there and back
half-way : (most way : ℕ) → most ≡ 2 * way + 1 → (most - 1) / 2 ≡ way
half-way most way is =
    let back : most - 1 ≡ 2 * way = omega (arith, is) in
    ap (λ (n : ℕ). n / 2) back ∙ mul-div_cancel_left way (omega arith)

pub until-next : (kept : List Block) (most : ℕ) (decision : Decision) → becomes_tip kept decision ≡ true → moves_until kept most decision ≡ (most - 1) / 2
until-next kept most decision next = ap (λ (b : Bool). cond b ((most - 1) / 2) (most - 1)) next

pub until-else : (kept : List Block) (most : ℕ) (decision : Decision) → becomes_tip kept decision ≡ false → moves_until kept most decision ≡ most - 1
until-else kept most decision stays = ap (λ (b : Bool). cond b ((most - 1) / 2) (most - 1)) stays

-- an item that is answered at sight
pub none-until : (kept : List Block) (most before : ℕ) (verdict : Verdict) → most ≡ 0 → before ≡ before + moves_until kept most (Stays verdict)
none-until kept most before verdict none = omega (arith, none)

pub moves-broken : (chain : Chain) (b : Block) (parent rule : ℕ) → broken_at_sight chain.spec (branch chain.blocks parent) b ≡ Some rule
    → moves_on chain b (Some parent) ≡ 0
moves-broken chain b parent rule broken = ap (λ (o : Option ℕ). cond (is_some o) 0 (moves_at chain.blocks parent + 1)) broken

pub moves-known : (chain : Chain) (b : Block) → is_some (place_of chain.blocks (block_hash b)) ≡ true → moves_of_block chain b ≡ 0
moves-known chain b known = ap (λ (k : Bool). cond k 0 (moves_on chain b (place_of chain.blocks b.header.parent_hash))) known

pub moves-unfound : (chain : Chain) (b : Block) → place_of chain.blocks b.header.parent_hash ≡ None → moves_of_block chain b ≡ 0
moves-unfound chain b none =
    ap (λ (o : Option ℕ). cond (is_some (place_of chain.blocks (block_hash b))) 0 (moves_on chain b o)) none ∙ either (is_some (place_of chain.blocks (block_hash b)))
  where
    either : (known : Bool) → ◌≡◌ {A = ℕ} (cond known 0 0) 0
    either true = refl
    either false = refl

module _ (chain : Chain) (b : Block) (parent tip before : ℕ) (passed : broken_at_sight chain.spec (branch chain.blocks parent) b ≡ None)
    (at : tip_place chain.blocks ≡ Some tip) (decision : Decision) where
  -- from the tip to the parent of a block that becomes the tip
  pub until_there : (now : ℕ) → becomes_tip chain.blocks decision ≡ true → now ≡ before + distance chain.blocks tip parent
      → now ≡ before + moves_until chain.blocks (moves_on chain b (Some parent)) decision
  until_there now next moved =
      subst (λ (n : ℕ). now ≡ before + n) (sym (until-next chain.blocks (moves_on chain b (Some parent)) decision next
      ∙ half-way (moves_on chain b (Some parent)) (distance chain.blocks tip parent) (there_and_back chain b parent tip before passed at))) moved

  -- and back from that of any other
  pub until_back : (mid now : ℕ) → becomes_tip chain.blocks decision ≡ false → mid ≡ before + distance chain.blocks tip parent → now ≡ mid + distance chain.blocks parent tip
      → now ≡ before + moves_until chain.blocks (moves_on chain b (Some parent)) decision
  until_back mid now stays there back =
      subst (λ (n : ℕ). now ≡ before + n) (sym (until-else chain.blocks (moves_on chain b (Some parent)) decision stays))
      (omega (arith, there, back, there_and_back chain b parent tip before passed at))

pub until-item : {T : Type 0} (chain : Chain) (item : List ℕ) (b : Block) (before now : ℕ) (result : Result (T × Decision) ReadStop) → decoded block item ≡ Some b
    → IfOk result (λ it. now ≡ before + moves_until chain.blocks (moves_of_block chain b) it.1)
    → IfOk result (λ it. now ≡ before + moves_until chain.blocks (moves_for chain item) it.1)
until-item chain item b before now result is each =
    subst (λ (o : Option Block). IfOk result (λ it. now ≡ before + moves_until chain.blocks (moves_of chain o) it.1)) (sym is) each

pub until-chain : (inside chain : Chain) (item : List ℕ) (before now : ℕ) (decision : Decision) → inside ≡ chain
    → now ≡ before + moves_until inside.blocks (moves_for inside item) decision → now ≡ before + moves_until chain.blocks (moves_for chain item) decision
until-chain inside chain item before now decision seen each =
    subst (λ (k : Chain). now ≡ before + moves_until k.blocks (moves_for k item) decision) seen each

-- ---- Its own events

pub none-to-join : (kept : List Block) (joining : Joining) (before : ℕ) → becomes_tip kept (Joins joining) ≡ false → before ≡ before + moves_to_join kept joining
none-to-join kept joining before stays = subst (λ (b : Bool). before ≡ before + cond b 1 0) (sym stays) (omega arith)

pub one-to-join : (kept : List Block) (joining : Joining) (before now : ℕ) → becomes_tip kept (Joins joining) ≡ true → now ≡ before + 1
    → now ≡ before + moves_to_join kept joining
one-to-join kept joining before now next one = subst (λ (b : Bool). now ≡ before + cond b 1 0) (sym next) one

-- ---- By the verdict

-- the verdict on an item that stays out
pub with-stays : (chain : Chain) (item : List ℕ) (verdict : Verdict) → joins verdict ≡ false → moves_with chain item verdict ≡ moves_until chain.blocks (moves_for chain item) (Stays verdict)
with-stays chain item (Joined number hash) stays = absurd (cc)
with-stays chain item (Known hash) stays = refl
with-stays chain item (Refused rule) stays = refl
with-stays chain item Full stays = refl

-- and of one that joins
same-above : (top : Option Block) (entry : Entry) → number_above top entry.number ≡ is_above top entry
same-above None entry = refl
same-above (Some top) entry = refl

pub with-joins : (chain : Chain) (item : List ℕ) (joining : Joining) (before mid end : ℕ)
    → mid ≡ before + moves_until chain.blocks (moves_for chain item) (Joins joining) → end ≡ mid + moves_to_join chain.blocks joining
    → end ≡ before + moves_with chain item (Joined joining.entry.number joining.entry.hash)
with-joins chain item joining before mid end first own =
    subst (λ (b : Bool). end ≡ before + cond b ((moves_for chain item - 1) / 2 + 1) (moves_for chain item - 1)) (sym (same-above (tip chain.blocks) joining.entry))
    (by (becomes_tip chain.blocks (Joins joining)) first own)
  where
    by : (next : Bool) → mid ≡ before + cond next ((moves_for chain item - 1) / 2) (moves_for chain item - 1) → end ≡ mid + cond next 1 0
        → end ≡ before + cond next ((moves_for chain item - 1) / 2 + 1) (moves_for chain item - 1)
    by true there one = omega (arith, there, one)
    by false back none = omega (arith, back, none)
