-- What an item that does not join is answered, case by case.
use Rattle.std.proofs.Common.{◌≡◌, ◌↔◌, ℕ, ◌<◌, ◌≤◌, Bool, true, false, cond, List, length, Option, Some, None, refl, sym, ap, ◌∙◌, subst, inl, inr, ◌⊎◌, arith}
use Rattle.std.specs.Prelude.{is_some, IsTrue}
use Rattle.std.proofs.lemmas.Bool.{cases_lt}
use Rattle.std.proofs.lemmas.Bool.Decides.{Decides-ltb}
use Rattle.chain_defs.specs.Schema.{Block}
use Rattle.chain_defs.specs.Kept.{block_hash, place_of, kept_limit}
use Rattle.chain_defs.specs.Branch.{branch}
use Rattle.chain_defs.specs.Specification.{Specification}
use Rattle.verdict_defs.specs.Rules.{first_broken}
use Rattle.verdict_defs.specs.Verdict.{verdict, verdict_of, verdict_of_block, verdict_on, verdict_by_rules, has_room}
use Rattle.verdict_defs.specs.Laws.{AnswersBlock, AnswersExactly}
use Rattle.verdict_defs.specs.declared.verdict.Verdict.{Verdict}
use Rattle.verdict_defs.specs.declared.verdict.Verdict.TheVariants.{Joined, Known, Refused, Full}

-- the answers that need a look at the parent
abbrev looks_further : Verdict → Bool
looks_further (Joined number hash) = true
looks_further (Known hash) = false
looks_further (Refused rule) = true
looks_further Full = true

-- the answers to a block that breaks no rule
abbrev breaks_none : Verdict → Bool
breaks_none (Joined number hash) = true
breaks_none (Known hash) = false
breaks_none (Refused rule) = false
breaks_none Full = true

by_room : (b : Block) (room : Bool) → breaks_none (cond room (Joined b.header.number (block_hash b)) Full) ≡ true
by_room b true = refl
by_room b false = refl

further_by_room : (b : Block) (room : Bool) → looks_further (cond room (Joined b.header.number (block_hash b)) Full) ≡ true
further_by_room b true = refl
further_by_room b false = refl

further_by_rules : (kept : List Block) (b : Block) (broken : Option ℕ) → looks_further (verdict_by_rules kept b broken) ≡ true
further_by_rules kept b None = further_by_room b (has_room kept)
further_by_rules kept b (Some rule) = refl

further_on : (spec : Specification) (kept : List Block) (b : Block) (on : Option ℕ) → looks_further (verdict_on spec kept b on) ≡ true
further_on spec kept b None = refl
further_on spec kept b (Some parent) = further_by_rules kept b (first_broken spec (branch kept parent) b)

-- the verdict on a block by whether it is known
abbrev by_known : Specification → List Block → Block → Bool → Verdict
by_known spec kept b known = cond known (Known (block_hash b)) (verdict_on spec kept b (place_of kept b.header.parent_hash))

new-not_known : (spec : Specification) (kept : List Block) (b : Block) → by_known spec kept b false ≡ Known (block_hash b) → ⊥
new-not_known spec kept b e =
    let further = further_on spec kept b (place_of kept b.header.parent_hash) in
    let not_further : looks_further (verdict_on spec kept b (place_of kept b.header.parent_hash)) ≡ false = ap looks_further e in cc

known-exactly : (spec : Specification) (kept : List Block) (b : Block) (known : Bool)
    → (by_known spec kept b known ≡ Known (block_hash b)) ↔ IsTrue known
known-exactly spec kept b true = (λ e. refl, λ e. refl)
known-exactly spec kept b false = (λ e. absurd (new-not_known spec kept b e), λ e. absurd (cc))

refused-exactly : (kept : List Block) (b : Block) (broken : Option ℕ) (rule : ℕ)
    → (verdict_by_rules kept b broken ≡ Refused rule) ↔ (broken ≡ Some rule)
refused-exactly kept b (Some first) rule = (λ e. ap Some (same e), ap (verdict_by_rules kept b))
  where
    same : Refused first ≡ Refused rule → first ≡ rule
    same e = cc
refused-exactly kept b None rule = (λ e. absurd (unbroken e), λ e. absurd (cc))
  where
    unbroken : verdict_by_rules kept b None ≡ Refused rule → ⊥
    unbroken e =
        let none = by_room b (has_room kept) in
        let some : breaks_none (verdict_by_rules kept b None) ≡ false = ap breaks_none e in cc

-- there is no room exactly where as many blocks are kept as may be
no_room-exactly : (kept : List Block) → (has_room kept ≡ false) ↔ (kept_limit ≤ length kept)
no_room-exactly kept = (at_limit (cases_lt (length kept) kept_limit), no_room (has_room kept) refl)
  where
    at_limit : (length kept < kept_limit) ⊎ (kept_limit ≤ length kept) → has_room kept ≡ false → kept_limit ≤ length kept
    at_limit (inl below) none = let room = (Decides-ltb (length kept) kept_limit).1 below in absurd (cc)
    at_limit (inr enough) none = enough

    no_room : (room : Bool) → has_room kept ≡ room → kept_limit ≤ length kept → room ≡ false
    no_room false is enough = refl
    no_room true is enough = let below = (Decides-ltb (length kept) kept_limit).0 is in absurd (omega (arith, below, enough))

full_by_room : (b : Block) (room : Bool) → (cond room (Joined b.header.number (block_hash b)) Full ≡ Full) ↔ (room ≡ false)
full_by_room b false = (λ e. refl, λ e. refl)
full_by_room b true = (λ e. absurd (cc), λ e. absurd (cc))

full-exactly : (kept : List Block) (b : Block) → (verdict_by_rules kept b None ≡ Full) ↔ (kept_limit ≤ length kept)
full-exactly kept b =
    let by = full_by_room b (has_room kept) in
    let none = no_room-exactly kept in
    (λ e. none.0 (by.0 e), λ e. by.1 (none.1 e))

answers_block : (spec : Specification) (kept : List Block) (b : Block) → AnswersBlock spec kept b (verdict_of_block spec kept b)
answers_block spec kept b = record {
  known = known-exactly spec kept b (is_some (place_of kept (block_hash b)));
  without_parent = λ new orphan. on_parent new ∙ ap (verdict_on spec kept b) orphan;
  refused = λ new parent on rule. subst
      (λ (answer : Verdict). (answer ≡ Refused rule) ↔ (first_broken spec (branch kept parent) b ≡ Some rule))
      (sym (on_parent new ∙ ap (verdict_on spec kept b) on))
      (refused-exactly kept b (first_broken spec (branch kept parent) b) rule);
  full = λ new parent on unbroken. subst (λ (answer : Verdict). (answer ≡ Full) ↔ (kept_limit ≤ length kept))
      (sym (on_parent new ∙ ap (verdict_on spec kept b) on ∙ ap (verdict_by_rules kept b) unbroken)) (full-exactly kept b);
}
  where
    on_parent : place_of kept (block_hash b) ≡ None → verdict_of_block spec kept b ≡ verdict_on spec kept b (place_of kept b.header.parent_hash)
    on_parent new = ap (λ (found : Option ℕ). by_known spec kept b (is_some found)) new

pub answers-exactly : AnswersExactly
unfolding verdict
answers-exactly spec kept item = record {
  no_block = λ none. ap (verdict_of spec kept) none;
  a_block = λ b is. subst (AnswersBlock spec kept b) (sym (ap (verdict_of spec kept) is)) (answers_block spec kept b);
}
