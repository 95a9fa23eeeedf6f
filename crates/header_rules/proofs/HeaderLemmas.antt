-- The parent of a block, and the first rule on its header that is broken.
use Rattle.std.proofs.Common.{◌≡◌, ℕ, ◌+◌, ◌<◌, Bool, true, false, eqb, List, [], ◌∷◌, Option, Some, None, refl, sym, ap, ◌∙◌, subst, arith}
use Rattle.std.specs.Prelude.{◌≤◌, IsSomeAnd, IfSome, option_map}
use Rattle.std.specs.Option.{SomeIff, option_eq}
use Rattle.std.proofs.lemmas.Bool.{ne_eqb}
use Rattle.std.proofs.lemmas.Option.{slice_get_within}
use Rattle.chain_defs.specs.Schema.{Block}
use Rattle.chain_defs.specs.First.{first_failing}
use Rattle.chain_defs.specs.Kept.{block_at, follows}
use Rattle.chain_defs.specs.Branch.{branch}
use Rattle.chain_defs.proofs.BranchLaws.{branch-last}
use Rattle.chain_tree.specs.declared.entry.Entry.{Entry}
use Rattle.chain_tree.specs.Blocks.{Describes}
use Rattle.rule_defs.specs.Header.{parent_of}
use Rattle.rule_defs.specs.RuleNumber.{rule_number}
use Rattle.rule_defs.specs.declared.rule.Rule.{Rule}

-- a number is the one after another, where that one has one after it
next-is : (sum : Option ℕ) (parent own most : ℕ) → own < most → SomeIff sum (parent + 1 < most) (parent + 1)
    → option_eq eqb sum (Some own) ≡ eqb own (parent + 1)
next-is None parent own most fits none = sym (ne_eqb own (parent + 1) (λ same. none (omega (arith, same, fits))))
next-is (Some sum) parent own most fits some = swap sum own (parent + 1) some.1
  where
    swap : (a b d : ℕ) → a ≡ d → eqb a b ≡ eqb b d
    swap a b d same = grind (arith, same)

-- the last block of the branch of a place is the one at it
parent-there : (kept : List Block) (parent : ℕ) (block : Block) → block_at kept parent ≡ Some block → parent_of (branch kept parent) ≡ Some block
parent-there kept parent block there = branch-last kept parent (slice_get_within kept parent block there) ∙ there

-- an entry has the number of the block that it describes
pub number-there : (found : Option Block) (entry : Entry) → IsSomeAnd found (λ block. Describes block entry)
    → IsSomeAnd found (λ block. entry.number ≡ block.header.number)
number-there None entry is = is
number-there (Some block) entry is = is.number

pub follows-there : (kept : List Block) (parent number own most : ℕ) (b : Block) (sum : Option ℕ) → own ≡ b.header.number → own < most
    → SomeIff sum (number + 1 < most) (number + 1) → IsSomeAnd (block_at kept parent) (λ block. number ≡ block.header.number)
    → option_eq eqb sum (Some own) ≡ follows b (parent_of (branch kept parent))
follows-there kept parent number own most b sum is fits next there = by_block (block_at kept parent) refl there
  where
    by_block : (found : Option Block) → block_at kept parent ≡ found → IsSomeAnd found (λ block. number ≡ block.header.number)
        → option_eq eqb sum (Some own) ≡ follows b (parent_of (branch kept parent))
    by_block None none here = absurd here
    by_block (Some block) some here =
        next-is sum number own most fits next
        ∙ ap (λ (n : ℕ). eqb n (number + 1)) is
        ∙ ap (λ (n : ℕ). eqb b.header.number (n + 1)) here
        ∙ sym (ap (follows b) (parent-there kept parent block some))

-- ---- The first of five rules

abbrev pub rows : Bool → Bool → Bool → Bool → Bool → List (ℕ × Bool)
rows a b d e f = (4, a) ∷ (5, b) ∷ (6, d) ∷ (7, e) ∷ (8, f) ∷ []

pub same-rows : {a b d e f a' b' d' e' f' : Bool} → a ≡ a' → b ≡ b' → d ≡ d' → e ≡ e' → f ≡ f'
    → first_failing (rows a b d e f) ≡ first_failing (rows a' b' d' e' f')
same-rows one two three four five = cc

within : (a b d e f : Bool) → IfSome (first_failing (rows a b d e f)) (λ number. (4 ≤ number) × (number ≤ 8))
unfolding first_failing
within false b d e f = (omega arith, omega arith)
within true false d e f = (omega arith, omega arith)
within true true false e f = (omega arith, omega arith)
within true true true false f = (omega arith, omega arith)
within true true true true false = (omega arith, omega arith)
within true true true true true = tt

-- it is one of them
pub within-rows : (a b d e f : Bool) (found : Option Rule) → option_map rule_number found ≡ first_failing (rows a b d e f)
    → IfSome found (λ rule. (4 ≤ rule_number rule) × (rule_number rule ≤ 8))
within-rows a b d e f found is = by_rule found (subst (λ (o : Option ℕ). IfSome o (λ number. (4 ≤ number) × (number ≤ 8))) (sym is) (within a b d e f))
  where
    by_rule : (rule : Option Rule) → IfSome (option_map rule_number rule) (λ number. (4 ≤ number) × (number ≤ 8))
        → IfSome rule (λ it. (4 ≤ rule_number it) × (rule_number it ≤ 8))
    by_rule None tried = tt
    by_rule (Some rule) tried = tried
