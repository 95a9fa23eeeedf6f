-- A kept block, its ext, and the branch of its parent.
use Rattle.std.proofs.Common.{◌≡◌, ℕ, zero, suc, ◌+◌, ◌-◌, ◌<◌, ◌≤◌, List, length, drop, Option, Some, sym, ap, subst, ◌∙◌, arith}
use Rattle.std.specs.Prelude.{slice_get, IfSome, IsSomeAnd}
use Rattle.std.specs.Option.{option_map}
use Rattle.std.proofs.lemmas.List.{length-map, length-drop}
use Rattle.std.proofs.lemmas.Option.{slice_get_within, slice_get-map, same_Some, get_or_from_slice_get}
use Rattle.chain_defs.specs.Schema.{Block}
use Rattle.chain_defs.specs.Specification.{Specification}
use Rattle.chain_defs.specs.Dao.{field_of_bytes}
use Rattle.chain_defs.specs.Kept.{block_at, parent_place}
use Rattle.chain_defs.specs.Branch.{branch}
use Rattle.chain_defs.proofs.KeptLaws.{slice_get-below}
use Rattle.chain_defs.proofs.BranchLaws.{branch-last}
use Rattle.chain_tree.specs.declared.entry.Entry.{Entry}
use Rattle.chain_tree.specs.Entries.{entry_at, IsTree}
use Rattle.chain_tree.specs.Blocks.{Describes, IndexesBlocks}
use Rattle.chain_tree.specs.Told.{Stored, blocks_of}
use Rattle.chain_tree.proofs.EntryLemmas.{some_and}
use Rattle.chain_tree.proofs.BlockLemmas.{DescribedAt, described}
use Rattle.rule_defs.specs.Capacity.{fees_from}
use Rattle.rule_defs.specs.Reward.{dao_of}
use Rattle.store_defs.proofs.ExtLemmas.{length-fees_from}
use Rattle.rewards.specs.Own.{HasOwnFees, fees_on}
use Rattle.rewards.specs.Reading.{AreKnownBlocks}
use Rattle.rewards.proofs.BranchLemmas.{held}
use Rattle.supply_defs.specs.Step.{last_field}
use Rattle.supply.specs.Moving.{HasFees}

-- ---- A kept block that is read

-- it is the one at its place
pub read-is : (told now : Option (List Stored)) (stored : List Stored) (place : ℕ) (b read : Block) (hand : Option ℕ) → told ≡ Some stored → now ≡ told
    → hand ≡ Some place → block_at (blocks_of stored) place ≡ Some b
    → IfSome now (λ all. IfSome hand (λ e. IfSome (slice_get all e) (λ it. read ≡ it.block))) → read ≡ b
read-is told now stored place b read hand tells same in_hand there of_block =
    let within : place < length (blocks_of stored) = slice_get_within (blocks_of stored) place b there in
    let long : length (blocks_of stored) ≡ length stored = length-map stored (λ (it : Stored). it.block) in
    let it = slice_get-below stored place (omega (arith, within, long)) in
    held (λ (s : Stored). read ≡ s.block) stored place it.0 now hand (same ∙ tells) in_hand it.1 of_block
    ∙ same_Some it.0.block b (sym (slice_get-map (λ (s : Stored). s.block) stored place ∙ ap (option_map (λ (s : Stored). s.block)) it.1) ∙ there)

-- What is in hand is a block with its fees, on the branch of its parent.
pub record InHand (spec : Specification) (on : List Block) (b read : Block) (ext : List ℕ) : Type 0 where
  pub same : read ≡ b
  pub fees : HasFees ext (fees_from spec on b 1 (drop 1 b.transactions))
  pub count : length read.transactions - 1 ≡ length (fees_from spec on b 1 (drop 1 b.transactions))

has-fees : (spec : Specification) (kept : List Block) (place parent : ℕ) (it : Stored) → HasOwnFees spec kept place it → parent_place kept place ≡ Some parent
    → HasFees it.ext (fees_on spec kept parent it.block)
has-fees spec kept place parent it own on = record {
  count = own.count parent on;
  each = λ j fee there.
      own.each parent j on (slice_get_within (fees_on spec kept parent it.block) j fee there) ∙ get_or_from_slice_get (fees_on spec kept parent it.block) j fee 0 there;
}

pub in-hand : (spec : Specification) (told now : Option (List Stored)) (entries : List Entry) (stored : List Stored) (place parent : ℕ) (b read : Block) (hand : Option ℕ)
    (ext : List ℕ) → AreKnownBlocks spec told entries stored → now ≡ told → hand ≡ Some place → 0 < place → parent_place (blocks_of stored) place ≡ Some parent
    → block_at (blocks_of stored) place ≡ Some b
    → IfSome now (λ all. IfSome hand (λ e. IfSome (slice_get all e) (λ it. read ≡ it.block)))
    → IfSome now (λ all. IfSome hand (λ e. IfSome (slice_get all e) (λ it. ext ≡ it.ext)))
    → InHand spec (branch (blocks_of stored) parent) b read ext
in-hand spec told now entries stored place parent b read hand ext tells same in_hand later on there of_block of_ext =
    let within : place < length (blocks_of stored) = slice_get_within (blocks_of stored) place b there in
    let long : length (blocks_of stored) ≡ length stored = length-map stored (λ (it : Stored). it.block) in
    let it = slice_get-below stored place (omega (arith, within, long)) in
    let its_block : it.0.block ≡ b =
    same_Some it.0.block b (sym (slice_get-map (λ (s : Stored). s.block) stored place ∙ ap (option_map (λ (s : Stored). s.block)) it.1) ∙ there) in
    let is : read ≡ b = read-is told now stored place b read hand tells.is same in_hand there of_block in
    let ext_is : ext ≡ it.0.ext = held (λ (s : Stored). ext ≡ s.ext) stored place it.0 now hand (same ∙ tells.is) in_hand it.1 of_ext in
    let own : HasFees it.0.ext (fees_on spec (blocks_of stored) parent it.0.block) = has-fees spec (blocks_of stored) place parent it.0 (tells.own place it.0 later it.1) on in
    record {
      same = is;
      fees = subst (λ (e : List ℕ). HasFees e (fees_from spec (branch (blocks_of stored) parent) b 1 (drop 1 b.transactions))) (sym ext_is)
          (subst (λ (other : Block). HasFees it.0.ext (fees_on spec (blocks_of stored) parent other)) its_block own);
      count = ap (λ (other : Block). length other.transactions - 1) is ∙ sym (length-drop 1 b.transactions)
          ∙ sym (length-fees_from spec (branch (blocks_of stored) parent) b 1 (drop 1 b.transactions));
    }

-- ---- Fields and numbers by entries

-- the field of an entry is that of the last block of its branch
pub last-field : (kept : List Block) (entries : List Entry) (place : ℕ) (entry : Entry) → IndexesBlocks kept entries → entry_at entries place ≡ Some entry
    → last_field (branch kept place) ≡ field_of_bytes entry.dao
last-field kept entries place entry indexes there =
    let within : place < length kept = slice_get_within kept place here.block here.there in
    ap (λ (found : Option Block). field_of_bytes (dao_of found)) (branch-last kept place within ∙ here.there) ∙ ap field_of_bytes (sym here.is.dao)
  where
    here : DescribedAt kept place entry
    here = described kept entries place entry indexes.each there

-- an entry describes the block at its place
pub describes : (kept : List Block) (entries : List Entry) (place : ℕ) (entry : Entry) (b : Block) → IndexesBlocks kept entries → entry_at entries place ≡ Some entry
    → block_at kept place ≡ Some b → Describes b entry
describes kept entries place entry b indexes there at =
    let here : DescribedAt kept place entry = described kept entries place entry indexes.each there in
    subst (λ (other : Block). Describes other entry) (same_Some here.block b (sym here.there ∙ at)) here.is

-- each entry above the genesis follows an earlier one
pub parent-earlier : (entries : List Entry) (place : ℕ) (entry : Entry) → IsTree entries → 0 < place → entry_at entries place ≡ Some entry → entry.parent < place
parent-earlier entries zero entry tree later there = absurd (omega (arith, later))
parent-earlier entries (suc place) entry tree later there = tree.earlier place entry there

pub parent-next : (entries : List Entry) (place : ℕ) (entry parent : Entry) → IsTree entries → 0 < place → entry_at entries place ≡ Some entry
    → entry_at entries entry.parent ≡ Some parent → entry.number ≡ parent.number + 1
parent-next entries zero entry parent tree later there at = absurd (omega (arith, later))
parent-next entries (suc place) entry parent tree later there at =
    subst (λ (found : Option Entry). IsSomeAnd found (λ p. entry.number ≡ p.number + 1)) at (tree.follows place entry there)

-- a place of a number above 0 is not the genesis'
pub later-place : (entries : List Entry) (place number : ℕ) → IsTree entries → IsSomeAnd (entry_at entries place) (λ entry. entry.number ≡ number) → 1 ≤ number
    → 0 < place
later-place entries zero number tree at above =
    let here = some_and (entry_at entries 0) (λ entry. entry.number ≡ number) at in
    let first = some_and (entry_at entries 0) (λ entry. entry.number ≡ 0) tree.genesis in
    let same : here.0 ≡ first.0 = same_Some here.0 first.0 (sym here.1 ∙ first.1) in
    let zero_is : here.0.number ≡ 0 = ap (λ (e : Entry). e.number) same ∙ first.2 in
    let number_is = here.2 in
    absurd (omega (arith, zero_is, number_is, above))
later-place entries (suc place) number tree at above = omega arith
