-- Whether a block at one of some places passes a test: place by place, and along the kept blocks.
use Rattle.std.proofs.Common.{◌≡◌, ℕ, zero, suc, ◌+◌, ◌<◌, Bool, true, false, eqb, List, [], ◌∷◌, Option, Some, None, refl, sym, ap, ◌∙◌, inl, inr, ◌⊎◌, arith}
use Rattle.std.specs.Prelude.{◌&&◌, ◌||◌, slice_get}
use Rattle.std.specs.List.{list_any, cons_option, filter_map}
use Rattle.std.specs.Str.{bytes_eq}
use Rattle.std.proofs.lemmas.Bool.{ne_eqb, eq-eqb, or_from, and_left, and_right, false_from_ne_true, cases_order}
use Rattle.std.proofs.lemmas.Slice.Eq.{bytes_eq-Decides}
use Rattle.std.proofs.lemmas.Option.{same_Some}
use Rattle.chain_defs.specs.Schema.{Block}
use Rattle.chain_defs.specs.Kept.{block_hash, block_at, place_of, IsKept}
use Rattle.chain_defs.specs.Branch.{branch_places, branch}
use Rattle.chain_defs.proofs.KeptLaws.{place_of-none, hashes-differ}
use Rattle.uncle_rules.specs.Known.{has_number, is_named, is_on}

-- the block at a place passes, if there is one
abbrev pub passes : (Block → Bool) → Option Block → Bool
passes test None = false
passes test (Some block) = test block

-- of the blocks from a place on, one at one of these places passes
abbrev pub any_at : List ℕ → (Block → Bool) → ℕ → List Block → Bool
any_at places test k [] = false
any_at places test k (block ∷ later) = (is_on places k && test block) || any_at places test (suc k) later

-- ---- Place by place

none-at : (test : Block → Bool) (k : ℕ) (kept : List Block) → any_at [] test k kept ≡ false
none-at test k [] = refl
none-at test k (block ∷ later) = none-at test (suc k) later

or-false : (b : Bool) → (b || false) ≡ b
or-false true = refl
or-false false = refl

past-at : (test : Block → Bool) (p k : ℕ) (kept : List Block) → p < k → any_at (p ∷ []) test k kept ≡ false
past-at test p k [] below = refl
past-at test p k (block ∷ later) below =
    ap (λ (is : Bool). ((is || false) && test block) || any_at (p ∷ []) test (suc k) later) (ne_eqb p k (λ same. omega (arith, same, below)))
    ∙ past-at test p (suc k) later (omega (arith, below))

one-at : (test : Block → Bool) (i k : ℕ) (kept : List Block) → any_at ((k + i) ∷ []) test k kept ≡ passes test (slice_get kept i)
one-at test i k [] = refl
one-at test zero k (block ∷ later) =
    ap (λ (is : Bool). ((is || false) && test block) || any_at ((k + 0) ∷ []) test (suc k) later) (eq-eqb (k + 0) k (omega arith))
    ∙ ap (λ (rest : Bool). test block || rest) (past-at test (k + 0) (suc k) later (omega arith)) ∙ or-false (test block)
one-at test (suc i) k (block ∷ later) =
    let next : k + suc i ≡ suc k + i = omega arith in
    ap (λ (is : Bool). ((is || false) && test block) || any_at ((k + suc i) ∷ []) test (suc k) later) (ne_eqb (k + suc i) k (λ same. omega (arith, same)))
    ∙ ap (λ (n : ℕ). any_at (n ∷ []) test (suc k) later) next ∙ one-at test i (suc k) later

apart : (a c h x y : Bool) → (((a || c) && h) || (x || y)) ≡ ((((a || false) && h) || x) || ((c && h) || y))
apart true c true x y = refl
apart true true false x y = refl
apart true false false x y = refl
apart false true true true y = refl
apart false true true false y = refl
apart false true false x y = refl
apart false false h x y = refl

first-at : (test : Block → Bool) (p : ℕ) (ps : List ℕ) (k : ℕ) (kept : List Block)
    → any_at (p ∷ ps) test k kept ≡ (any_at (p ∷ []) test k kept || any_at ps test k kept)
first-at test p ps k [] = refl
first-at test p ps k (block ∷ later) =
    ap (λ (rest : Bool). (is_on (p ∷ ps) k && test block) || rest) (first-at test p ps (suc k) later)
    ∙ apart (is_here p k) (is_on ps k) (test block) (any_at (p ∷ []) test (suc k) later) (any_at ps test (suc k) later)
  where
    is_here : ℕ → ℕ → Bool
    is_here p k = eqb p k

any-places : (test : Block → Bool) (places : List ℕ) (kept : List Block)
    → list_any (λ p. passes test (block_at kept p)) places ≡ any_at places test 0 kept
any-places test [] kept = sym (none-at test 0 kept)
any-places test (p ∷ ps) kept =
    let zeroth : 0 + p ≡ p = omega arith in
    ap (λ (rest : Bool). passes test (block_at kept p) || rest) (any-places test ps kept)
    ∙ ap (λ (front : Bool). front || any_at ps test 0 kept) (sym (one-at test p 0 kept) ∙ ap (λ (n : ℕ). any_at (n ∷ []) test 0 kept) zeroth)
    ∙ sym (first-at test p ps 0 kept)

any-filtered : (test : Block → Bool) (kept : List Block) (places : List ℕ)
    → list_any test (filter_map (block_at kept) places) ≡ list_any (λ p. passes test (block_at kept p)) places
any-filtered test kept [] = refl
any-filtered test kept (p ∷ ps) = by_block (block_at kept p) (any-filtered test kept ps)
  where
    by_block : (found : Option Block)
        → list_any test (filter_map (block_at kept) ps) ≡ list_any (λ n. passes test (block_at kept n)) ps
        → list_any test (cons_option found (filter_map (block_at kept) ps)) ≡ (passes test found || list_any (λ n. passes test (block_at kept n)) ps)
    by_block None rest = rest
    by_block (Some block) rest = ap (λ (r : Bool). test block || r) rest

-- A block of the branch passes where one at one of its places does.
pub any-branch : (test : Block → Bool) (kept : List Block) (parent : ℕ)
    → list_any test (branch kept parent) ≡ any_at (branch_places kept parent) test 0 kept
any-branch test kept parent = any-filtered test kept (branch_places kept parent) ∙ any-places test (branch_places kept parent) kept

-- ---- A hash

abbrev named : List ℕ → Option ℕ → Block → Bool
named hash number block = is_named hash number block.header

named-never : (hash : List ℕ) (number : Option ℕ) (places : List ℕ) (k : ℕ) (kept : List Block)
    → ((j : ℕ) (other : Block) → block_at kept j ≡ Some other → block_hash other ≡ hash → ⊥) → any_at places (named hash number) k kept ≡ false
named-never hash number places k [] never = refl
named-never hash number places k (block ∷ later) never =
    let other : bytes_eq (block_hash block) hash ≡ false =
    false_from_ne_true (bytes_eq (block_hash block) hash) (λ same. never 0 block refl ((bytes_eq-Decides (block_hash block) hash).0 same)) in
    or_from (is_on places k && named hash number block) (any_at places (named hash number) (suc k) later)
    (and_right (is_on places k) (named hash number block) (and_left (bytes_eq (block_hash block) hash) (has_number number block.header.number) other))
    (named-never hash number places (suc k) later (λ j b there same. never (suc j) b there same))

pub named-none : (hash : List ℕ) (number : Option ℕ) (places : List ℕ) (kept : List Block) → place_of kept hash ≡ None
    → any_at places (λ b. is_named hash number b.header) 0 kept ≡ false
named-none hash number places kept none = named-never hash number places 0 kept (λ j other there same. place_of-none kept hash j other none there same)

here-alone : (on test h rest : Bool) → test ≡ true → rest ≡ false → ((on && (test && h)) || rest) ≡ (h && on)
here-alone on test h rest is none = ap (λ (t : Bool). (on && (t && h)) || rest) is ∙ ap (λ (r : Bool). (on && h) || r) none ∙ swap on h
  where
    swap : (x y : Bool) → ((x && y) || false) ≡ (y && x)
    swap true true = refl
    swap true false = refl
    swap false true = refl
    swap false false = refl

not-here : (on test h rest : Bool) → test ≡ false → ((on && (test && h)) || rest) ≡ rest
not-here on test h rest is = ap (λ (t : Bool). (on && (t && h)) || rest) is ∙ by_on on
  where
    by_on : (x : Bool) → ((x && false) || rest) ≡ rest
    by_on true = refl
    by_on false = refl

-- one block alone has the hash
named-only : (hash : List ℕ) (number : Option ℕ) (places : List ℕ) (k i : ℕ) (block : Block) (kept : List Block) → block_at kept i ≡ Some block
    → block_hash block ≡ hash → ((j : ℕ) (other : Block) → block_at kept j ≡ Some other → block_hash other ≡ hash → j ≡ i)
    → any_at places (named hash number) k kept ≡ (has_number number block.header.number && is_on places (k + i))
named-only hash number places k i block [] there is only = absurd (cc)
named-only hash number places k zero block (b ∷ later) there is only =
    let same : b ≡ block = same_Some b block there in
    let place : k ≡ k + 0 = omega arith in
    here-alone (is_on places k) (bytes_eq (block_hash b) hash) (has_number number b.header.number) (any_at places (named hash number) (suc k) later)
    ((bytes_eq-Decides (block_hash b) hash).1 (ap block_hash same ∙ is))
    (named-never hash number places (suc k) later (λ j other at has. behind j (only (suc j) other at has)))
    ∙ ap (λ (x : Block). has_number number x.header.number && is_on places k) same
    ∙ ap (λ (n : ℕ). has_number number block.header.number && is_on places n) place
  where
    behind : (j : ℕ) → suc j ≡ 0 → ⊥
    behind j at = omega (arith, at)
named-only hash number places k (suc i) block (b ∷ later) there is only =
    let place : suc k + i ≡ k + suc i = omega arith in
    not-here (is_on places k) (bytes_eq (block_hash b) hash) (has_number number b.header.number) (any_at places (named hash number) (suc k) later)
    (false_from_ne_true (bytes_eq (block_hash b) hash) (λ same. front (only 0 b refl ((bytes_eq-Decides (block_hash b) hash).0 same))))
    ∙ named-only hash number places (suc k) i block later there is (λ j other at has. down j (only (suc j) other at has))
    ∙ ap (λ (n : ℕ). has_number number block.header.number && is_on places n) place
  where
    front : 0 ≡ suc i → ⊥
    front at = omega (arith, at)

    down : (j : ℕ) → suc j ≡ suc i → j ≡ i
    down j at = omega (arith, at)

pub named-some : (hash : List ℕ) (number : Option ℕ) (places : List ℕ) (kept : List Block) (place : ℕ) (block : Block) → IsKept kept
    → block_at kept place ≡ Some block → block_hash block ≡ hash
    → any_at places (λ b. is_named hash number b.header) 0 kept ≡ (has_number number block.header.number && is_on places place)
named-some hash number places kept place block is_kept there is =
    let zeroth : 0 + place ≡ place = omega arith in
    named-only hash number places 0 place block kept there is only
    ∙ ap (λ (n : ℕ). has_number number block.header.number && is_on places n) zeroth
  where
    only : (j : ℕ) (other : Block) → block_at kept j ≡ Some other → block_hash other ≡ hash → j ≡ place
    only j other at has = by_order (cases_order j place)
      where
        by_order : (j ≡ place) ⊎ ((j < place) ⊎ (place < j)) → j ≡ place
        by_order (inl same) = same
        by_order (inr (inl before)) = absurd (hashes-differ kept j place other block is_kept before at there (has ∙ sym is))
        by_order (inr (inr behind)) = absurd (hashes-differ kept place j block other is_kept behind there at (is ∙ sym has))
