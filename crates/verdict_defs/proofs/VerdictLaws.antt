-- An item joins exactly where it can, and what is kept after it are kept blocks.
use Rattle.std.proofs.Common.{◌≡◌, ℕ, ◌+◌, ◌<◌, Bool, true, false, cond, List, [], ◌∷◌, ◌++◌, length, drop, Option, Some, None, refl, sym, ap, ◌∙◌, subst, arith}
use Rattle.std.specs.Prelude.{is_some, IsTrue}
use Rattle.std.specs.Option.{option_or}
use Rattle.std.specs.Str.{bytes_eq}
use Rattle.std.proofs.lemmas.Bool.{false_from_ne_true}
use Rattle.std.proofs.lemmas.Bool.Decides.{Decides-ltb, Decides-eqb}
use Rattle.std.proofs.lemmas.List.{append-nil, append_assoc, length_push}
use Rattle.std.proofs.lemmas.List.Elements.{All-head, All-tail}
use Rattle.chain_defs.specs.Shape.{decoded}
use Rattle.chain_defs.specs.Schema.{Block}
use Rattle.chain_defs.specs.Schema as shapes
use Rattle.chain_defs.proofs.FirstLemmas.{finds_none}
use Rattle.chain_defs.specs.Kept.{block_hash, block_at, place_of, StandsOn, IsKept, follows, kept_limit, blocks_of_item, block_list}
use Rattle.chain_defs.specs.Branch.{branch}
use Rattle.chain_defs.proofs.KeptLaws.{place_of-below, place_of-there, place_of-push, IsKept-one, IsKept-push}
use Rattle.chain_defs.proofs.BranchLaws.{branch-last, branch-push}
use Rattle.chain_defs.specs.Specification.{Specification}
use Rattle.rule_defs.specs.Header.{has_version, parent_of}
use Rattle.verdict_defs.specs.Rules.{all_rules, first_broken}
use Rattle.verdict_defs.specs.Verdict.{verdict, verdict_of, verdict_on, verdict_by_rules, joins, has_room, kept_after}
use Rattle.verdict_defs.specs.Chain.{Chain, chain_after, chain_over}
use Rattle.verdict_defs.specs.Laws.{MayJoin, CanJoin, JoinsExactly, KeepsWhatJoins, KeepingKeeps, KeptStays, JoinsOnItsBranch}
use Rattle.verdict_defs.specs.declared.verdict.Verdict.TheVariants.{Joined, Known, Full}

-- where an item joins, each case before has not held
can_join : (spec : Specification) (kept : List Block) (item : List ℕ) → IsTrue (joins (verdict spec kept item)) → CanJoin spec kept item
unfolding verdict
can_join spec kept item joined = by_block (decoded shapes.block item) refl joined
  where
    by_block : (found : Option Block) → decoded shapes.block item ≡ found → IsTrue (joins (verdict_of spec kept found)) → CanJoin spec kept item
    by_block None is joined = absurd (cc)
    by_block (Some b) is joined = by_hash (place_of kept (block_hash b)) refl joined
      where
        by_room : (parent : ℕ) → place_of kept (block_hash b) ≡ None → place_of kept b.header.parent_hash ≡ Some parent
            → first_broken spec (branch kept parent) b ≡ None → (room : Bool) → has_room kept ≡ room
            → IsTrue (joins (cond room (Joined b.header.number (block_hash b)) Full)) → CanJoin spec kept item
        by_room parent new on unbroken true room joined = record {
          block = b;
          canonical = is;
          may = record { new = new; parent = parent; on_kept = on; unbroken = unbroken; room = (Decides-ltb (length kept) kept_limit).0 room };
        }
        by_room parent new on unbroken false room joined = absurd (cc)

        by_rule : (parent : ℕ) → place_of kept (block_hash b) ≡ None → place_of kept b.header.parent_hash ≡ Some parent
            → (broken : Option ℕ) → first_broken spec (branch kept parent) b ≡ broken
            → IsTrue (joins (verdict_by_rules kept b broken)) → CanJoin spec kept item
        by_rule parent new on None unbroken joined = by_room parent new on unbroken (has_room kept) refl joined
        by_rule parent new on (Some rule) unbroken joined = absurd (cc)

        by_parent : place_of kept (block_hash b) ≡ None → (on : Option ℕ) → place_of kept b.header.parent_hash ≡ on
            → IsTrue (joins (verdict_on spec kept b on)) → CanJoin spec kept item
        by_parent new None on joined = absurd (cc)
        by_parent new (Some parent) on joined = by_rule parent new on (first_broken spec (branch kept parent) b) refl joined

        by_hash : (known : Option ℕ) → place_of kept (block_hash b) ≡ known
            → IsTrue (joins (cond (is_some known) (Known (block_hash b)) (verdict_on spec kept b (place_of kept b.header.parent_hash))))
            → CanJoin spec kept item
        by_hash None new joined = by_parent new (place_of kept b.header.parent_hash) refl joined
        by_hash (Some place) new joined = absurd (cc)

-- Where it can join, this is the verdict.
pub verdict-joined : (spec : Specification) (kept : List Block) (item : List ℕ) (is : CanJoin spec kept item)
    → verdict spec kept item ≡ Joined is.block.header.number (block_hash is.block)
unfolding verdict
verdict-joined spec kept item is =
    ap (verdict_of spec kept) is.canonical
    ∙ ap (λ (known : Option ℕ). cond (is_some known) (Known (block_hash is.block)) (verdict_on spec kept is.block (place_of kept is.block.header.parent_hash))) is.may.new
    ∙ ap (verdict_on spec kept is.block) is.may.on_kept
    ∙ ap (verdict_by_rules kept is.block) is.may.unbroken
    ∙ ap (λ (room : Bool). cond room (Joined is.block.header.number (block_hash is.block)) Full) ((Decides-ltb (length kept) kept_limit).1 is.may.room)

pub joins-exactly : JoinsExactly
joins-exactly spec kept item = (can_join spec kept item, λ is. ap joins (verdict-joined spec kept item is))

-- What is kept after an item that joins, and after another.
pub kept_after-joins : (spec : Specification) (kept : List Block) (item : List ℕ) → joins (verdict spec kept item) ≡ true
    → kept_after spec kept item ≡ kept ++ blocks_of_item item
unfolding kept_after
kept_after-joins spec kept item joined = ap (λ (b : Bool). cond b (kept ++ blocks_of_item item) kept) joined

pub kept_after-stays : (spec : Specification) (kept : List Block) (item : List ℕ) → joins (verdict spec kept item) ≡ false
    → kept_after spec kept item ≡ kept
unfolding kept_after
kept_after-stays spec kept item left = ap (λ (b : Bool). cond b (kept ++ blocks_of_item item) kept) left

-- A block that breaks no rule follows its parent.
pub follows-unbroken : (spec : Specification) (blocks : List Block) (b : Block) → first_broken spec blocks b ≡ None → IsTrue (follows b (parent_of blocks))
unfolding first_broken all_rules
follows-unbroken spec blocks b unbroken =
    let later : List (ℕ × Bool) = drop 2 (all_rules spec blocks b) in
    All-head (λ rule. IsTrue rule.1) (5, follows b (parent_of blocks)) later
    (All-tail (λ rule. IsTrue rule.1) (4, has_version b.header) ((5, follows b (parent_of blocks)) ∷ later)
    ((finds_none (all_rules spec blocks b)).0 unbroken))

-- The block that a branch of a place ends with is the one at it.
pub parent_of-branch : (kept : List Block) (place : ℕ) → place < length kept → parent_of (branch kept place) ≡ block_at kept place
parent_of-branch kept place below = branch-last kept place below

-- A block that may join stands on a kept one.
pub stands-on-kept : (spec : Specification) (kept : List Block) (b : Block) → MayJoin spec kept b → StandsOn kept b
stands-on-kept spec kept b may =
    let found = place_of-there kept b.header.parent_hash may.parent may.on_kept in
    let below = place_of-below kept b.header.parent_hash may.parent may.on_kept in
    let last : parent_of (branch kept may.parent) ≡ Some found.0 = parent_of-branch kept may.parent below ∙ found.1 in
    let after : follows b (parent_of (branch kept may.parent)) ≡ true = follows-unbroken spec (branch kept may.parent) b may.unbroken in
    let next : follows b (Some found.0) ≡ true = ap (follows b) (sym last) ∙ after in
    record {
      place = may.parent;
      parent = found.0;
      named = may.on_kept;
      there = found.1;
      next = (Decides-eqb b.header.number (found.0.header.number + 1)).0 next;
    }

-- The block of an item that can join is put at the end, and any other item leaves what is kept.
kept_after-can_join : (spec : Specification) (kept : List Block) (item : List ℕ) (can : CanJoin spec kept item)
    → kept_after spec kept item ≡ kept ++ can.block ∷ []
kept_after-can_join spec kept item can =
    kept_after-joins spec kept item (ap joins (verdict-joined spec kept item can))
    ∙ ap (λ (found : Option Block). kept ++ block_list found) can.canonical

kept_after-cannot_join : (spec : Specification) (kept : List Block) (item : List ℕ) → (CanJoin spec kept item → ⊥) → kept_after spec kept item ≡ kept
kept_after-cannot_join spec kept item cannot =
    kept_after-stays spec kept item
    (false_from_ne_true (joins (verdict spec kept item)) (λ joined. cannot (can_join spec kept item joined)))

pub keeps-what-joins : KeepsWhatJoins
keeps-what-joins spec kept item =
    (λ can. (verdict-joined spec kept item can, kept_after-can_join spec kept item can), kept_after-cannot_join spec kept item)

-- Kept blocks stay so after any item,
pub IsKept-after : (spec : Specification) (kept : List Block) (item : List ℕ) → IsKept kept → IsKept (kept_after spec kept item)
IsKept-after spec kept item is_kept = by_joins (joins (verdict spec kept item)) refl
  where
    by_joins : (b : Bool) → joins (verdict spec kept item) ≡ b → IsKept (kept_after spec kept item)
    by_joins false left = subst IsKept (sym (kept_after-stays spec kept item left)) is_kept
    by_joins true joined =
        let can : CanJoin spec kept item = can_join spec kept item joined in
        subst IsKept (sym (kept_after-can_join spec kept item can)) (IsKept-push kept can.block is_kept (stands-on-kept spec kept can.block can.may) can.may.new)

-- and after any items.
pub IsKept-over : (chain : Chain) (items : List (List ℕ)) → IsKept chain.blocks → IsKept (chain_over chain items).blocks
IsKept-over chain [] is_kept = is_kept
IsKept-over chain (item ∷ items) is_kept = IsKept-over (chain_after chain item) items (IsKept-after chain.spec chain.blocks item is_kept)

pub keeping-keeps : KeepingKeeps
keeping-keeps = (IsKept-one, IsKept-after)

-- What was kept stays as a prefix, after an item
kept_after-front : (spec : Specification) (kept : List Block) (item : List ℕ) → (more : List Block) × (kept_after spec kept item ≡ kept ++ more)
kept_after-front spec kept item = by_joins (joins (verdict spec kept item)) refl
  where
    by_joins : (b : Bool) → joins (verdict spec kept item) ≡ b → (more : List Block) × (kept_after spec kept item ≡ kept ++ more)
    by_joins false left = ([], kept_after-stays spec kept item left ∙ sym (append-nil kept))
    by_joins true joined = (blocks_of_item item, kept_after-joins spec kept item joined)

-- and after several.
chain_over-front : (chain : Chain) (items : List (List ℕ)) → (more : List Block) × ((chain_over chain items).blocks ≡ chain.blocks ++ more)
chain_over-front chain [] = ([], sym (append-nil chain.blocks))
chain_over-front chain (item ∷ items) =
    let one = kept_after-front chain.spec chain.blocks item in
    let rest = chain_over-front (chain_after chain item) items in
    (one.0 ++ rest.0, rest.1 ∙ ap (λ (front : List Block). front ++ rest.0) one.1 ∙ append_assoc chain.blocks one.0 rest.0)

pub kept-stays : KeptStays
kept-stays chain items = (IsKept-over chain items, chain_over-front chain items)

-- ---- On its branch alone

-- a place that is found is so with more blocks after, and so is its branch
place_of-more : (kept more : List Block) (hash : List ℕ) (place : ℕ) → place_of kept hash ≡ Some place → place_of (kept ++ more) hash ≡ Some place
place_of-more kept [] hash place is = ap (λ (blocks : List Block). place_of blocks hash) (append-nil kept) ∙ is
place_of-more kept (b ∷ more) hash place is =
    ap (λ (blocks : List Block). place_of blocks hash) (sym (append_assoc kept (b ∷ []) more))
    ∙ place_of-more (kept ++ b ∷ []) more hash place
    (place_of-push kept b hash ∙ ap (λ (found : Option ℕ). option_or found (cond (bytes_eq (block_hash b) hash) (Some (length kept)) None)) is)

pub branch-more : (kept more : List Block) (place : ℕ) → place < length kept → branch (kept ++ more) place ≡ branch kept place
branch-more kept [] place below = ap (λ (blocks : List Block). branch blocks place) (append-nil kept)
branch-more kept (b ∷ more) place below =
    ap (λ (blocks : List Block). branch blocks place) (sym (append_assoc kept (b ∷ []) more))
    ∙ branch-more (kept ++ b ∷ []) more place (omega (arith, below, length_push kept b)) ∙ branch-push kept b place below

-- what may join may do so after more blocks
may_join-more : (spec : Specification) (kept more : List Block) (b : Block) → MayJoin spec kept b → place_of (kept ++ more) (block_hash b) ≡ None
    → length (kept ++ more) < kept_limit → MayJoin spec (kept ++ more) b
may_join-more spec kept more b may new room =
    let below = place_of-below kept b.header.parent_hash may.parent may.on_kept in
    record {
      new = new;
      parent = may.parent;
      on_kept = place_of-more kept more b.header.parent_hash may.parent may.on_kept;
      unbroken = ap (λ (on : List Block). first_broken spec on b) (branch-more kept more may.parent below) ∙ may.unbroken;
      room = room;
    }

pub joins-on-its-branch : JoinsOnItsBranch
joins-on-its-branch chain items item can new room =
    let front = chain_over-front chain items in
    record {
      block = can.block;
      canonical = can.canonical;
      may = subst (λ (blocks : List Block). MayJoin chain.spec blocks can.block) (sym front.1)
          (may_join-more chain.spec chain.blocks front.0 can.block can.may
          (ap (λ (blocks : List Block). place_of blocks (block_hash can.block)) (sym front.1) ∙ new)
          (subst (λ (blocks : List Block). length blocks < kept_limit) front.1 room));
    }
