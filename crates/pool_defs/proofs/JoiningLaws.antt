-- The laws of what becomes of the block.
use Rattle.std.proofs.Common.{◌≡◌, ℕ, ◌+◌, ◌-◌, ◌<◌, ◌≤◌, Bool, true, false, cond, List, [], ◌∷◌, ◌++◌, length, Option, Some, None, refl, sym, ap, ◌∙◌, subst, ◌⊎◌, inl, inr, arith}
use Rattle.std.specs.Prelude.{IsTrue, IfSome, nat_le, is_some, ◌==◌}
use Rattle.std.specs.List.{list_any, list_all, enumerate_from}
use Rattle.std.proofs.lemmas.Bool.Decides.{Decides-eqb}
use Rattle.std.proofs.lemmas.Bool.{cases_lt}
use Rattle.std.proofs.lemmas.Slice.Eq.{bytes_eq-Decides}
use Rattle.std.proofs.lemmas.Option.{slice_get_within}
use Rattle.chain_defs.specs.Shape.{encoded}
use Rattle.chain_defs.specs.Schema.{Transaction, Header, UncleBlock, Block, CellbaseWitness}
use Rattle.chain_defs.specs.Schema as shapes
use Rattle.chain_defs.specs.First.{first_failing, AllHold}
use Rattle.chain_defs.proofs.FirstLemmas.{first_failing-holds, first_failing-append-holds}
use Rattle.chain_defs.specs.Specification.{Specification}
use Rattle.chain_defs.specs.Epochs.{epoch_field}
use Rattle.chain_defs.specs.Kept.{block_hash, block_at, place_of, IsKept, follows}
use Rattle.chain_defs.specs.Branch.{branch}
use Rattle.chain_defs.specs.Tip.{tip_place, best_branch}
use Rattle.chain_defs.specs.Hashes.{transactions_root, proposals_hash, uncles_hash}
use Rattle.chain_defs.proofs.KeptLaws.{slice_get-below, place_of-there, place_of-none, hashes-differ}
use Rattle.chain_defs.proofs.BranchLaws.{branch-last, IsBranch-branch}
use Rattle.chain_defs.proofs.TipLaws.{tip_place-there, tip_place-below}
use Rattle.rule_defs.specs.Header.{parent_of, has_version, has_epoch, has_target, is_later}
use Rattle.rule_defs.specs.Body.{fits_length, has_proposals, commits_to_proposals, commits_to_transactions, has_few_uncles, commits_to_uncles}
use Rattle.chain_defs.specs.Events.{live_cell}
use Rattle.rule_defs.specs.Uncles.{has_uncles, is_uncle_at}
use Rattle.rule_defs.specs.Cellbase.{has_cellbase, forms_cellbase}
use Rattle.verdict_defs.specs.Transactions.{rules_of_transactions}
use Rattle.verdict_defs.specs.Rules.{all_rules, first_broken}
use Rattle.rule_defs.specs.RewardRules.{pays_reward, has_next_dao, end_rules}
use Rattle.verdict_defs.proofs.VerdictLaws.{verdict-joined}
use Rattle.pool_defs.specs.Start.{header_after, hash_of_parent, committed, sealed}
use Rattle.pool_defs.specs.Assembly.{Assembly, assembly, assembled}
use Rattle.pool_defs.specs.Laws.{IsFounded, breakable, BreaksFew, UnbrokenJoins}
use Rattle.pool_defs.proofs.ItemLemmas.{Holds}
use Rattle.pool_defs.proofs.AssemblyLaws.{holds-all, rules-sealed}

-- ---- Rows of which only some may be broken

abbrev may_break : ℕ → Bool
may_break rule = list_any (λ other. other == rule) breakable

abbrev BreakFew : List (ℕ × Bool) → Type 0
BreakFew rows = (rule : ℕ) → first_failing rows ≡ Some rule → IsTrue (may_break rule)

no-row : BreakFew []
unfolding first_failing
no-row rule broken = absurd (cc)

kept-row : (number : ℕ) (test : Bool) (rows : List (ℕ × Bool)) → test ≡ true → BreakFew rows → BreakFew ((number, test) ∷ rows)
kept-row number test rows kept later rule broken = later rule (sym (first_failing-holds number test rows kept) ∙ broken)

breakable-row : (number : ℕ) (test : Bool) (rows : List (ℕ × Bool)) → IsTrue (may_break number) → BreakFew rows → BreakFew ((number, test) ∷ rows)
unfolding first_failing
breakable-row number true rows may later rule broken = later rule broken
breakable-row number false rows may later rule broken = let same : number ≡ rule = grind arith in subst (λ (n : ℕ). IsTrue (may_break n)) same may

kept-rows : (earlier later : List (ℕ × Bool)) → AllHold earlier → BreakFew later → BreakFew (earlier ++ later)
kept-rows earlier later kept rest rule broken = rest rule (sym (first_failing-append-holds earlier later kept) ∙ broken)

-- ---- The parent

-- what the block stands on, over kept blocks
record Stands (kept : List Block) : Type 0 where
  place : ℕ
  top : Block
  there : block_at kept place ≡ Some top
  best : best_branch kept ≡ branch kept place
  parent : parent_of (best_branch kept) ≡ Some top
  number : top.header.number + 1 ≡ length (best_branch kept)

best-is : (kept : List Block) (place : ℕ) → tip_place kept ≡ Some place → best_branch kept ≡ branch kept place
best-is kept place is = ap (λ (at : Option ℕ). elim at [ None ↦ [] | Some place ↦ branch kept place ]) is

founded-stands : (kept : List Block) → IsFounded kept → Stands kept
founded-stands kept founded = record {
  place = tip.0;
  top = top.0;
  there = top.1;
  best = best;
  parent = ap parent_of best ∙ last;
  number = counted ∙ ap length (sym best);
}
  where
    tip : (place : ℕ) × (tip_place kept ≡ Some place)
    tip = tip_place-there kept founded.some

    below : tip.0 < length kept
    below = tip_place-below kept tip.0 tip.1

    top : (b : Block) × (block_at kept tip.0 ≡ Some b)
    top = slice_get-below kept tip.0 below

    best : best_branch kept ≡ branch kept tip.0
    best = best-is kept tip.0 tip.1

    last : parent_of (branch kept tip.0) ≡ Some top.0
    last = branch-last kept tip.0 below ∙ top.1

    counted : top.0.header.number + 1 ≡ length (branch kept tip.0)
    counted =
        let first = slice_get-below kept 0 founded.some in
        let zero_first : first.0.header.number ≡ 0 = subst (λ (o : Option Block). IfSome o (λ b. b.header.number ≡ 0)) first.1 founded.genesis in
        let within = slice_get_within (branch kept tip.0) (length (branch kept tip.0) - 1) top.0 last in
        let number = (IsBranch-branch kept tip.0 founded.is_kept below).numbered (length (branch kept tip.0) - 1) first.0 top.0 first.1 last in
        omega (arith, zero_first, within, number)

-- ---- The rows of the block

module _ (spec : Specification) (on : List Block) (done : List (List ℕ)) (all : Assembly) (holds : Holds spec on done all) (top : Block)
    (parent : parent_of on ≡ Some top) (number : top.header.number + 1 ≡ length on) where
  b : Block
  b = sealed spec on all.block

  version-kept : has_version b.header ≡ true
  unfolding b committed header_after
  version-kept = ap (λ (h : Header). h.version == 0) holds.header

  follows-kept : follows b (parent_of on) ≡ true
  unfolding b committed header_after
  follows-kept =
      ap (follows (sealed spec on all.block)) parent
      ∙ (Decides-eqb all.block.header.number (top.header.number + 1)).1 (ap (λ (h : Header). h.number) holds.header ∙ sym number)

  epoch-kept : has_epoch spec b.header ≡ true
  unfolding b committed header_after
  epoch-kept =
      (Decides-eqb all.block.header.epoch (epoch_field spec.epoch_length all.block.header.number)).1
      (ap (λ (h : Header). h.epoch) holds.header ∙ sym (ap (λ (h : Header). epoch_field spec.epoch_length h.number) holds.header))

  target-kept : has_target spec b.header ≡ true
  unfolding b committed header_after
  target-kept = (Decides-eqb all.block.header.compact_target spec.compact_target).1 (ap (λ (h : Header). h.compact_target) holds.header)

  proposals-kept : has_proposals spec b ≡ true
  unfolding b
  proposals-kept = holds.ids

  to_proposals-kept : commits_to_proposals b ≡ true
  unfolding b committed
  to_proposals-kept = (bytes_eq-Decides (proposals_hash all.block.proposals) (proposals_hash all.block.proposals)).1 refl

  to_transactions-kept : commits_to_transactions b ≡ true
  unfolding b committed
  to_transactions-kept = (bytes_eq-Decides (transactions_root all.block.transactions) (transactions_root all.block.transactions)).1 refl

  few_uncles-kept : has_few_uncles b ≡ true
  unfolding b
  few_uncles-kept = ap (λ (uncles : List UncleBlock). nat_le (length uncles) 2) holds.uncles

  to_uncles-kept : commits_to_uncles b ≡ true
  unfolding b committed
  to_uncles-kept = (bytes_eq-Decides (uncles_hash all.block.uncles) (uncles_hash all.block.uncles)).1 refl

  uncles-kept : has_uncles spec on b ≡ true
  unfolding b has_uncles
  uncles-kept = ap (λ (uncles : List UncleBlock). list_all (is_uncle_at spec on (sealed spec on all.block)) (enumerate_from 0 uncles)) holds.uncles

  pub rules-few : (rule : ℕ) → first_broken spec on (sealed spec on all.block) ≡ Some rule → IsTrue (may_break rule)
  unfolding b first_broken all_rules
  rules-few =
      kept-row 4 (has_version b.header) _ version-kept
      (kept-row 5 (follows b (parent_of on)) _ follows-kept
      (kept-row 6 (has_epoch spec b.header) _ epoch-kept
      (kept-row 7 (has_target spec b.header) _ target-kept
      (breakable-row 8 (is_later on b.header) _ refl
      (breakable-row 9 (fits_length spec b) _ refl
      (kept-row 10 (has_proposals spec b) _ proposals-kept
      (kept-row 11 (commits_to_proposals b) _ to_proposals-kept
      (kept-row 12 (commits_to_transactions b) _ to_transactions-kept
      (kept-row 13 (has_few_uncles b) _ few_uncles-kept
      (kept-row 14 (commits_to_uncles b) _ to_uncles-kept
      (kept-row 15 (has_uncles spec on b) _ uncles-kept
      (breakable-row 16 (has_cellbase b) _ refl
      (breakable-row 17 (forms_cellbase (live_cell on) b) _ refl
      (kept-rows (rules_of_transactions spec on b) (end_rules spec on b) (rules-sealed spec on done all holds)
      (breakable-row 31 (pays_reward spec on b) _ refl
      (breakable-row 32 (has_next_dao spec on b) [] refl no-row))))))))))))))))

-- ---- The laws

pub breaks-few : BreaksFew
unfolding assembled
breaks-few chain witness items rule founded broken = by_known (is_some (place_of chain.blocks (block_hash b))) broken
  where
    on : List Block
    on = best_branch chain.blocks

    all : Assembly
    all = assembly chain.spec on witness items

    b : Block
    b = sealed chain.spec on all.block

    by_known : (known : Bool) → cond known (Some 2) (first_broken chain.spec on b) ≡ Some rule → IsTrue (may_break rule)
    by_known true is = let same : 2 ≡ rule = grind arith in subst (λ (n : ℕ). IsTrue (may_break n)) same refl
    by_known false is =
        let stands = founded-stands chain.blocks founded in
        rules-few chain.spec on items all (holds-all chain.spec on witness items) stands.top stands.parent stands.number rule is

-- the place of a kept block, by its hash
place-found : (kept : List Block) (i : ℕ) (b : Block) → IsKept kept → block_at kept i ≡ Some b → place_of kept (block_hash b) ≡ Some i
place-found kept i b is_kept there = by_found (place_of kept (block_hash b)) refl
  where
    by_order : (j : ℕ) (other : Block) → block_at kept j ≡ Some other → block_hash other ≡ block_hash b → (i < j) ⊎ (j ≤ i) → (j < i) ⊎ (i ≤ j)
        → Some j ≡ Some i
    by_order j other here same (inl before) order = absurd (hashes-differ kept i j b other is_kept before there here (sym same))
    by_order j other here same (inr at) (inl after) = absurd (hashes-differ kept j i other b is_kept after here there same)
    by_order j other here same (inr at) (inr within) = ap Some (omega (arith, at, within))

    by_found : (found : Option ℕ) → place_of kept (block_hash b) ≡ found → found ≡ Some i
    by_found None none = absurd (place_of-none kept (block_hash b) i b none there refl)
    by_found (Some j) is =
        let other = place_of-there kept (block_hash b) j is in by_order j other.0 other.1 other.2 (cases_lt i j) (cases_lt j i)

unbroken-both : (known : Option ℕ) (broken : Option ℕ) → cond (is_some known) (Some 2) broken ≡ None → (known ≡ None) × (broken ≡ None)
unbroken-both None broken is = (refl, is)
unbroken-both (Some place) broken is = absurd (cc)

parent-named : (spec : Specification) (on : List Block) (done : List (List ℕ)) (all : Assembly) (top : Block) → Holds spec on done all
    → parent_of on ≡ Some top → (sealed spec on all.block).header.parent_hash ≡ block_hash top
unfolding committed header_after
parent-named spec on done all top holds parent = ap (λ (h : Header). h.parent_hash) holds.header ∙ ap hash_of_parent parent

pub unbroken-joins : UnbrokenJoins
unfolding assembled
unbroken-joins chain witness items b founded is unbroken canonical room = verdict-joined chain.spec chain.blocks (encoded shapes.block b) (record {
  block = b;
  canonical = canonical;
  may = record {
    new = subst (λ (it : Block). place_of chain.blocks (block_hash it) ≡ None) is both.0;
    parent = stands.place;
    on_kept = ap (place_of chain.blocks) (ap (λ (it : Block). it.header.parent_hash) (sym is) ∙ named) ∙ place-found chain.blocks stands.place stands.top founded.is_kept stands.there;
    unbroken = ap (λ (line : List Block). first_broken chain.spec line b) (sym stands.best)
        ∙ ap (first_broken chain.spec (best_branch chain.blocks)) (sym is) ∙ both.1;
    room = room;
  };
})
  where
    on : List Block
    on = best_branch chain.blocks

    all : Assembly
    all = assembly chain.spec on witness items

    stands : Stands chain.blocks
    stands = founded-stands chain.blocks founded

    made : Block
    made = sealed chain.spec on all.block

    both : (place_of chain.blocks (block_hash made) ≡ None) × (first_broken chain.spec on made ≡ None)
    both = unbroken-both (place_of chain.blocks (block_hash made)) (first_broken chain.spec on made) unbroken

    named : made.header.parent_hash ≡ block_hash stands.top
    named = parent-named chain.spec on items all stands.top (holds-all chain.spec on witness items) stands.parent
