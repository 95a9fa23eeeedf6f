-- What stands at a height of a branch of kept blocks, and what its transactions pay.
use Rattle.std.proofs.Common.{◌≡◌, ℕ, zero, suc, ◌+◌, ◌<◌, ◌≤◌, List, [], ◌∷◌, ◌++◌, length, map, take, drop, Option, Some, None, refl, sym, ap, subst, ◌∙◌, inl, inr, ◌⊎◌, arith}
use Rattle.std.specs.Prelude.{slice_get, IfSome, IsSomeAnd}
use Rattle.std.specs.Option.{option_map}
use Rattle.std.proofs.lemmas.List.{length_push, length-map, length-take-le, take-append-le, take_at}
use Rattle.std.proofs.lemmas.Option.{slice_get_within, slice_get-map, get_or_from_slice_get}
use Rattle.chain_defs.specs.Schema.{Block}
use Rattle.chain_defs.specs.Specification.{Specification}
use Rattle.chain_defs.specs.Dao.{field_of_bytes}
use Rattle.chain_defs.specs.Kept.{block_at, parent_place}
use Rattle.chain_defs.specs.Branch.{places_within, branch_places, branch}
use Rattle.chain_defs.specs.Hashes.{proposal_id}
use Rattle.chain_defs.proofs.KeptLaws.{slice_get-below, slice_get-before, slice_get-push, slice_get-pushed}
use Rattle.chain_defs.proofs.BranchLaws.{places_on, branch_before, branch-step, parent_place-below}
use Rattle.chain_tree.specs.declared.entry.Entry.{Entry}
use Rattle.chain_tree.specs.Entries.{entry_at}
use Rattle.chain_tree.specs.Blocks.{Describes, IndexesBlocks}
use Rattle.chain_tree.specs.Told.{Stored, blocks_of}
use Rattle.chain_tree.proofs.EntryLemmas.{there-within}
use Rattle.chain_tree.proofs.BlockLemmas.{len-same}
use Rattle.chain_defs.specs.Ext.{count_at}
use Rattle.rule_defs.specs.Window.{proposed_ids}
use Rattle.rule_defs.specs.Fees.{Paid, paid_in, paid_at}
use Rattle.rule_defs.specs.Reward.{dao_of, field_at}
use Rattle.rule_defs.proofs.FeeLaws.{fees-paid, ids-paid}
use Rattle.rewards.specs.Own.{HasOwnFees, fees_on}
use Rattle.rewards.specs.Paid.{ArePaid}
use Rattle.rewards.specs.Reading.{AreKnownBlocks}

-- ---- A branch by its places

-- the places before one
abbrev places_before : ℕ → List Block → Option ℕ → List ℕ
places_before most kept None = []
places_before most kept (Some parent) = places_within most kept parent

-- it has a block for each place
long-within : (most : ℕ) (kept : List Block) (place : ℕ) → place < most → place < length kept
    → length (branch kept place) ≡ length (places_within most kept place)
long-within zero kept place few within = absurd (omega (arith, few))
long-within (suc most) kept place few within =
    let here = slice_get-below kept place within in
    ap length (branch-step kept place here.0 here.1) ∙ length_push (branch_before kept (parent_place kept place)) here.0
    ∙ by_parent (parent_place kept place) refl (long-within most kept)
  where
    by_parent : (found : Option ℕ) → parent_place kept place ≡ found
        → ((parent : ℕ) → parent < most → parent < length kept → length (branch kept parent) ≡ length (places_within most kept parent))
        → length (branch_before kept found) + 1 ≡ length (places_on most kept place found)
    by_parent None is rest = refl
    by_parent (Some parent) is rest =
        let earlier : parent < place = parent_place-below kept place parent is in
        ap (λ (n : ℕ). n + 1) (rest parent (omega (arith, earlier, few)) (omega (arith, earlier, within)))
        ∙ sym (length_push (places_within most kept parent) place)

-- The block at a height, and what comes before it.
pub record StandsAt (kept : List Block) (top height place : ℕ) : Type 0 where
  pub below : height < length (branch kept top)
  pub before : take height (branch kept top) ≡ branch_before kept (parent_place kept place)
  pub here : block_at (branch kept top) height ≡ block_at kept place

stands-within : (most : ℕ) (kept : List Block) (top height place : ℕ) → top < most → top < length kept
    → slice_get (places_within most kept top) height ≡ Some place → StandsAt kept top height place
stands-within zero kept top height place few within there = absurd (omega (arith, few))
stands-within (suc most) kept top height place few within there =
    by_parent (parent_place kept top) refl (stands-within most kept) there
  where
    block : (b : Block) × (block_at kept top ≡ Some b)
    block = slice_get-below kept top within

    by_parent : (found : Option ℕ) → parent_place kept top ≡ found
        → ((t h p : ℕ) → t < most → t < length kept → slice_get (places_within most kept t) h ≡ Some p → StandsAt kept t h p)
        → slice_get (places_on most kept top found) height ≡ Some place → StandsAt kept top height place
    by_parent found is rest at = by_end (slice_get-pushed front top height place at_front)
      where
        front : List ℕ
        front = places_before most kept found

        at_front : slice_get (front ++ top ∷ []) height ≡ Some place
        at_front = by_found found at
          where
            by_found : (f : Option ℕ) → slice_get (places_on most kept top f) height ≡ Some place
                → slice_get (places_before most kept f ++ top ∷ []) height ≡ Some place
            by_found None at = at
            by_found (Some parent) at = at

        step : branch kept top ≡ branch_before kept found ++ block.0 ∷ []
        step = branch-step kept top block.0 block.1 ∙ ap (λ (f : Option ℕ). branch_before kept f ++ block.0 ∷ []) is

        one_longer : length (branch kept top) ≡ length (branch_before kept found) + 1
        one_longer = ap length step ∙ length_push (branch_before kept found) block.0

        long : length (branch_before kept found) ≡ length front
        long = by_found found is
          where
            by_found : (f : Option ℕ) → parent_place kept top ≡ f
                → length (branch_before kept f) ≡ length (places_before most kept f)
            by_found None is = refl
            by_found (Some parent) is =
                let earlier : parent < top = parent_place-below kept top parent is in
                long-within most kept parent (omega (arith, earlier, few)) (omega (arith, earlier, within))

        low : height < length front → slice_get front height ≡ Some place
            → (height < length (branch_before kept found)) × (take height (branch_before kept found) ≡ branch_before kept (parent_place kept place))
            × (block_at (branch_before kept found) height ≡ block_at kept place)
        low less there = by_found found is there
          where
            by_found : (f : Option ℕ) → parent_place kept top ≡ f
                → slice_get (places_before most kept f) height ≡ Some place
                → (height < length (branch_before kept f)) × (take height (branch_before kept f) ≡ branch_before kept (parent_place kept place))
                × (block_at (branch_before kept f) height ≡ block_at kept place)
            by_found None is there = absurd (cc)
            by_found (Some parent) is there =
                let earlier : parent < top = parent_place-below kept top parent is in
                let stands : StandsAt kept parent height place =
                rest parent height place (omega (arith, earlier, few)) (omega (arith, earlier, within)) there in
                (stands.below, stands.before, stands.here)

        by_end : ((height < length front) × (slice_get front height ≡ Some place)) ⊎ ((height ≡ length front) × (top ≡ place)) → StandsAt kept top height place
        by_end (inl before) =
            let stands = low before.0 before.1 in
            let below : height < length (branch_before kept found) = stands.0 in
            record {
              below = omega (arith, below, one_longer);
              before = ap (take height) step ∙ take-append-le height (branch_before kept found) (block.0 ∷ []) (omega (arith, below)) ∙ stands.1;
              here = ap (λ (bs : List Block). block_at bs height) step ∙ slice_get-before (branch_before kept found) (block.0 ∷ []) height below ∙ stands.2;
            }
        by_end (inr end) =
            let at_end : height ≡ length (branch_before kept found) = end.0 ∙ sym long in
            record {
              below = omega (arith, at_end, one_longer);
              before = ap (take height) step ∙ take_at (branch_before kept found) (block.0 ∷ []) height (sym at_end)
                  ∙ ap (branch_before kept) (sym is ∙ ap (parent_place kept) end.1);
              here = ap (λ (bs : List Block). block_at bs height) step ∙ ap (block_at (branch_before kept found ++ block.0 ∷ [])) at_end
                  ∙ slice_get-push (branch_before kept found) block.0 ∙ sym block.1 ∙ ap (block_at kept) end.1;
            }

pub stands-at : (kept : List Block) (top height place : ℕ) → top < length kept → slice_get (branch_places kept top) height ≡ Some place
    → StandsAt kept top height place
unfolding branch_places
stands-at kept top height place within there = stands-within (suc top) kept top height place (omega arith) within there

-- above the genesis it has a parent
pub record HasParent (kept : List Block) (top height place : ℕ) : Type 0 where
  pub parent : ℕ
  pub is : parent_place kept place ≡ Some parent
  pub before : take height (branch kept top) ≡ branch kept parent

has-parent : (kept : List Block) (top height place : ℕ) → StandsAt kept top height place → 0 < height → HasParent kept top height place
has-parent kept top height place stands later = by_parent (parent_place kept place) refl stands.before
  where
    by_parent : (found : Option ℕ) → parent_place kept place ≡ found → take height (branch kept top) ≡ branch_before kept found → HasParent kept top height place
    by_parent None is before =
        let below : height < length (branch kept top) = stands.below in
        let long : length (take height (branch kept top)) ≡ height = length-take-le height (branch kept top) (omega (arith, below)) in
        let none : length (take height (branch kept top)) ≡ 0 = ap length before in absurd (omega (arith, later, long, none))
    by_parent (Some parent) is before = record { parent = parent; is = is; before = before }

-- ---- What its transactions pay

pub paid-there : (spec : Specification) (told : Option (List Stored)) (entries : List Entry) (stored : List Stored) (top height place : ℕ) (it : Stored)
    → AreKnownBlocks spec told entries stored → top < length entries → 0 < height → 0 < place
    → slice_get (branch_places (blocks_of stored) top) height ≡ Some place → slice_get stored place ≡ Some it
    → ArePaid it.ext (map proposal_id (drop 1 it.block.transactions)) (paid_at spec (branch (blocks_of stored) top) height)
unfolding paid_at
paid-there spec told entries stored top height place it tells within high later at there = record {
  count = own.count above.parent above.is ∙ sym (ap length fees) ∙ length-map paids (λ (paid : Paid). paid.fee);
  fees = λ j paid here.
      let fee : slice_get (fees_on spec kept above.parent it.block) j ≡ Some paid.fee =
      ap (λ (l : List ℕ). slice_get l j) (sym fees) ∙ slice_get-map (λ (p : Paid). p.fee) paids j ∙ ap (option_map (λ (p : Paid). p.fee)) here in
      own.each above.parent j above.is (slice_get_within (fees_on spec kept above.parent it.block) j paid.fee fee)
      ∙ get_or_from_slice_get (fees_on spec kept above.parent it.block) j paid.fee 0 fee;
  named = sym (ap (map (λ (paid : Paid). paid.id)) are ∙ ids-paid spec (branch kept above.parent) it.block 1 (drop 1 it.block.transactions));
}
  where
    kept : List Block
    kept = blocks_of stored

    paids : List Paid
    paids = paid_at spec (branch kept top) height

    stands : StandsAt kept top height place
    stands = let long : length entries ≡ length kept = len-same kept entries tells.indexes in
        stands-at kept top height place (omega (arith, within, long)) at

    above : HasParent kept top height place
    above = has-parent kept top height place stands high

    own : HasOwnFees spec kept place it
    own = tells.own place it later there

    block : block_at (branch kept top) height ≡ Some it.block
    block = stands.here ∙ slice_get-map (λ (s : Stored). s.block) stored place ∙ ap (option_map (λ (s : Stored). s.block)) there

    are : paids ≡ paid_in spec (branch kept above.parent) (Some it.block)
    are = (λ i. paid_in spec (above.before i) (block i))

    fees : map (λ (paid : Paid). paid.fee) paids ≡ fees_on spec kept above.parent it.block
    fees = ap (map (λ (paid : Paid). paid.fee)) are ∙ fees-paid spec (branch kept above.parent) it.block 1 (drop 1 it.block.transactions)

-- ---- Its DAO field

pub field-there : (kept : List Block) (entries : List Entry) (top height place : ℕ) (entry : Entry) → IndexesBlocks kept entries → top < length entries
    → slice_get (branch_places kept top) height ≡ Some place → IsSomeAnd (block_at kept place) (λ block. Describes block entry)
    → field_of_bytes entry.dao ≡ field_at (branch kept top) height
field-there kept entries top height place entry indexes within at described =
    let long : length entries ≡ length kept = len-same kept entries indexes in
    let stands : StandsAt kept top height place = stands-at kept top height place (omega (arith, within, long)) at in
    by_block (block_at kept place) described ∙ ap (λ (b : Option Block). field_of_bytes (dao_of b)) (sym stands.here)
  where
    by_block : (found : Option Block) → IsSomeAnd found (λ block. Describes block entry) → field_of_bytes entry.dao ≡ field_of_bytes (dao_of found)
    by_block None is = absurd is
    by_block (Some block) is = ap field_of_bytes is.dao

-- ---- Its proposals

pub ids-there : (kept : List Block) (entries : List Entry) (top height place : ℕ) (ids : List (List ℕ)) → IndexesBlocks kept entries → top < length entries
    → slice_get (branch_places kept top) height ≡ Some place → option_map proposed_ids (block_at kept place) ≡ Some ids
    → option_map proposed_ids (block_at (branch kept top) height) ≡ Some ids
ids-there kept entries top height place ids indexes within at are =
    let long : length entries ≡ length kept = len-same kept entries indexes in
    ap (option_map proposed_ids) (stands-at kept top height place (omega (arith, within, long)) at).here ∙ are

-- ---- The current block

-- what is so of the current block is so of it still, where the same is known and the same is current
pub held_still : (P : Stored → Type 0) {told now : Option (List Stored)} {hand later : Option ℕ} → now ≡ told → later ≡ hand
    → IfSome told (λ all. IfSome hand (λ e. IfSome (slice_get all e) P)) → IfSome now (λ all. IfSome later (λ e. IfSome (slice_get all e) P))
held_still P {told = told} {later = later} same same_hand is =
    subst (λ (t : Option (List Stored)). IfSome t (λ all. IfSome later (λ e. IfSome (slice_get all e) P))) (sym same)
    (subst (λ (h : Option ℕ). IfSome told (λ all. IfSome h (λ e. IfSome (slice_get all e) P))) (sym same_hand) is)

-- what is so of the current block
pub held : (P : Stored → Type 0) (stored : List Stored) (place : ℕ) (it : Stored) (told : Option (List Stored)) (hand : Option ℕ) → told ≡ Some stored
    → hand ≡ Some place → slice_get stored place ≡ Some it → IfSome told (λ all. IfSome hand (λ e. IfSome (slice_get all e) P)) → P it
held P stored place it told hand tells in_hand there is =
    subst (λ (found : Option Stored). IfSome found P) there
    (subst (λ (h : Option ℕ). IfSome h (λ e. IfSome (slice_get stored e) P)) in_hand
    (subst (λ (t : Option (List Stored)). IfSome t (λ all. IfSome hand (λ e. IfSome (slice_get all e) P))) tells is))

pub paid-in_hand : (spec : Specification) (told now : Option (List Stored)) (entries : List Entry) (stored : List Stored) (top height place : ℕ) (hand : Option ℕ)
    (ext : List ℕ) (ids : List (List ℕ)) → AreKnownBlocks spec told entries stored → now ≡ told → hand ≡ Some place
    → IsSomeAnd (entry_at entries top) (λ entry. height ≤ entry.number) → 0 < height → place < length entries → 0 < place
    → ((kept : List Block) → IndexesBlocks kept entries → slice_get (branch_places kept top) height ≡ Some place)
    → IfSome now (λ all. IfSome hand (λ e. IfSome (slice_get all e) (λ it. ids ≡ map proposal_id (drop 1 it.block.transactions))))
    → IfSome now (λ all. IfSome hand (λ e. IfSome (slice_get all e) (λ it. ext ≡ it.ext)))
    → ArePaid ext ids (paid_at spec (branch (blocks_of stored) top) height)
paid-in_hand spec told now entries stored top height place hand ext ids tells same in_hand far high within later at of_ids of_ext =
    let long : length entries ≡ length stored = len-same (blocks_of stored) entries tells.indexes ∙ length-map stored (λ (it : Stored). it.block) in
    let it = slice_get-below stored place (omega (arith, within, long)) in
    let ext_is : ext ≡ it.0.ext = held (λ (s : Stored). ext ≡ s.ext) stored place it.0 now hand (same ∙ tells.is) in_hand it.1 of_ext in
    let ids_is : ids ≡ map proposal_id (drop 1 it.0.block.transactions) =
    held (λ (s : Stored). ids ≡ map proposal_id (drop 1 s.block.transactions)) stored place it.0 now hand (same ∙ tells.is) in_hand it.1 of_ids in
    subst (λ (l : List ℕ). ArePaid l ids (paid_at spec (branch (blocks_of stored) top) height)) (sym ext_is)
    (subst (λ (l : List (List ℕ)). ArePaid it.0.ext l (paid_at spec (branch (blocks_of stored) top) height)) (sym ids_is)
    (paid-there spec told entries stored top height place it.0 tells (there-within entries top (λ entry. height ≤ entry.number) far) high later
    (at (blocks_of stored) tells.indexes) it.1))

-- the same of its ids alone
pub ids-in_hand : (spec : Specification) (told now : Option (List Stored)) (entries : List Entry) (stored : List Stored) (top height place : ℕ) (hand : Option ℕ)
    (ids : List (List ℕ)) → AreKnownBlocks spec told entries stored → now ≡ told → hand ≡ Some place
    → IsSomeAnd (entry_at entries top) (λ entry. height ≤ entry.number) → 0 < height → place < length entries → 0 < place
    → ((kept : List Block) → IndexesBlocks kept entries → slice_get (branch_places kept top) height ≡ Some place)
    → IfSome now (λ all. IfSome hand (λ e. IfSome (slice_get all e) (λ it. ids ≡ map proposal_id (drop 1 it.block.transactions))))
    → (ext : List ℕ) × ArePaid ext ids (paid_at spec (branch (blocks_of stored) top) height)
ids-in_hand spec told now entries stored top height place hand ids tells same in_hand far high within later at of_ids =
    let long : length entries ≡ length stored = len-same (blocks_of stored) entries tells.indexes ∙ length-map stored (λ (it : Stored). it.block) in
    let it = slice_get-below stored place (omega (arith, within, long)) in
    let ids_is : ids ≡ map proposal_id (drop 1 it.0.block.transactions) =
    held (λ (s : Stored). ids ≡ map proposal_id (drop 1 s.block.transactions)) stored place it.0 now hand (same ∙ tells.is) in_hand it.1 of_ids in (
      it.0.ext,
      subst (λ (l : List (List ℕ)). ArePaid it.0.ext l (paid_at spec (branch (blocks_of stored) top) height)) (sym ids_is)
          (paid-there spec told entries stored top height place it.0 tells (there-within entries top (λ entry. height ≤ entry.number) far) high later
          (at (blocks_of stored) tells.indexes) it.1),
    )

-- it has no more ids than fees
pub no_fee : (ext : List ℕ) (ids : List (List ℕ)) (paids : List Paid) (count : ℕ) → count ≡ count_at ext 0 → count < length ids → ArePaid ext ids paids → ⊥
no_fee ext ids paids count is more are =
    let fees : count_at ext 0 ≡ length paids = are.count in
    let long : length ids ≡ length paids = ap length are.named ∙ length-map paids (λ paid. paid.id) in omega (arith, is, more, fees, long)
