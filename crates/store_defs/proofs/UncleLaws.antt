-- The uncles along a branch of a chain that has joined: J15 asks of each that no header that it knows has its hash.
use Rattle.std.proofs.Common.{◌≡◌, ℕ, zero, suc, ◌+◌, ◌<◌, Bool, true, false, List, [], ◌∷◌, ◌++◌, map, length, take, Some, refl, sym, ap, ◌∙◌, subst, inl, inr, ◌⊎◌, arith}
use Rattle.std.specs.Prelude.{◌&&◌, ◌||◌, not, slice_get, IsTrue}
use Rattle.std.specs.List.{list_any}
use Rattle.std.specs.Str.{bytes_eq}
use Rattle.std.proofs.lemmas.Bool.{and_parts, and_from, or_parts, not-true, not_from_false, eqb-true}
use Rattle.std.proofs.lemmas.List.{append-nil, append_assoc, take_at, map-append}
use Rattle.std.proofs.lemmas.List.Folds.{list_any-append}
use Rattle.std.proofs.lemmas.Option.{same_Some, slice_get_within}
use Rattle.std.proofs.lemmas.Slice.Eq.{bytes_eq-Decides}
use Rattle.chain_defs.specs.Schema.{Header, UncleBlock, Block}
use Rattle.chain_defs.proofs.WalkLemmas.{all-at}
use Rattle.chain_defs.specs.Specification.{Specification}
use Rattle.chain_defs.specs.Kept.{header_hash, block_hash, block_at}
use Rattle.chain_defs.specs.Hashes.{uncle_hash, are_distinct}
use Rattle.chain_defs.specs.Branch.{branch}
use Rattle.chain_defs.proofs.KeptLaws.{slice_get-below, slice_get-before, slice_get-pushed}
use Rattle.rule_defs.specs.Uncles.{embedded_uncles, known_headers, stands_on, is_new, is_beside, proposes_well, is_uncle, is_uncle_at, has_uncles}
use Rattle.verdict_defs.specs.Rules.{first_broken}
use Rattle.verdict_defs.specs.Chain.{Chain}
use Rattle.store_defs.specs.Store.{IsJoined}
use Rattle.store_defs.specs.JoinedLaws.{UnclesDiffer, UnclesAreNoAncestors}
use Rattle.store_defs.proofs.RuleLemmas.{uncles-unbroken, alone-good}
use Rattle.store_defs.proofs.KeptLemmas.{grows}
use Rattle.store_defs.proofs.EventsFitLaws.{first-branch, apart-too}

-- ---- Lists

any-at : {X : Type 0} (p : X → Bool) (xs : List X) (i : ℕ) (x : X) → list_any p xs ≡ false → slice_get xs i ≡ Some x → p x ≡ false
any-at p [] i x none there = absurd (cc)
any-at p (y ∷ ys) zero x none there = ap p (sym (same_Some y x there)) ∙ (or_parts (p y) (list_any p ys) none).0
any-at p (y ∷ ys) (suc i) x none there = any-at p ys i x (or_parts (p y) (list_any p ys) none).1 there

any-mapped : {X Y : Type 0} (f : X → Y) (p : Y → Bool) (xs : List X) → list_any p (map f xs) ≡ list_any (λ x. p (f x)) xs
any-mapped f p [] = refl
any-mapped f p (x ∷ xs) = ap (λ (b : Bool). p (f x) || b) (any-mapped f p xs)

-- one more at the end that is none of those before it
distinct-push : (values : List (List ℕ)) (value : List ℕ) → are_distinct values ≡ true → list_any (λ other. bytes_eq other value) values ≡ false
    → are_distinct (values ++ value ∷ []) ≡ true
distinct-push [] value distinct none = refl
distinct-push (first ∷ later) value distinct none =
    let twice : Bool = list_any (λ other. bytes_eq other first) later in
    let parts = and_parts (not twice) (are_distinct later) distinct in
    let apart = or_parts (bytes_eq first value) (list_any (λ other. bytes_eq other value) later) none in
    let last : bytes_eq value first ≡ false = apart-too value first apart.0 in
    and_from (not (list_any (λ other. bytes_eq other first) (later ++ value ∷ []))) (are_distinct (later ++ value ∷ []))
    (not_from_false (list_any (λ other. bytes_eq other first) (later ++ value ∷ []))
    (list_any-append (λ other. bytes_eq other first) later (value ∷ [])
    ∙ ap (λ (b : Bool). b || (bytes_eq value first || false)) (not-true twice parts.0) ∙ ap (λ (b : Bool). b || false) last))
    (distinct-push later value parts.1 apart.1)

-- ---- One block

-- what J15 says of the uncle at an index: no known header has its hash
new-at : (spec : Specification) (on : List Block) (b : Block) (index : ℕ) (uncle : UncleBlock) → IsTrue (has_uncles spec on b)
    → slice_get b.uncles index ≡ Some uncle
    → list_any (λ other. bytes_eq (header_hash other) (uncle_hash uncle)) (known_headers on (take index b.uncles)) ≡ false
unfolding has_uncles
new-at spec on b index uncle all there =
    let at : 0 + index ≡ index = omega arith in
    let is : is_uncle spec on b (take index b.uncles) uncle ≡ true =
    subst (λ (i : ℕ). is_uncle spec on b (take i b.uncles) uncle ≡ true) at (all-at (is_uncle_at spec on b) 0 b.uncles index uncle all there) in
    let known : List Header = known_headers on (take index b.uncles) in
    not-true (list_any (λ other. bytes_eq (header_hash other) (uncle_hash uncle)) known)
    (and_parts (is_beside b.header uncle.header && stands_on known uncle.header) (is_new known uncle.header)
    (and_parts ((is_beside b.header uncle.header && stands_on known uncle.header) && is_new known uncle.header) (proposes_well spec uncle) is).0).1

-- by the headers of the ancestors, of the uncles that they embed, and of the uncles before it
record KnownParts (on : List Block) (earlier : List UncleBlock) (hash : List ℕ) : Type 0 where
  ancestors : list_any (λ (b : Block). bytes_eq (block_hash b) hash) on ≡ false
  uncles : list_any (λ (other : List ℕ). bytes_eq other hash) (map uncle_hash (embedded_uncles on ++ earlier)) ≡ false

known-parts : (on : List Block) (earlier : List UncleBlock) (hash : List ℕ)
    → list_any (λ other. bytes_eq (header_hash other) hash) (known_headers on earlier) ≡ false → KnownParts on earlier hash
unfolding known_headers
known-parts on earlier hash none = record {
  ancestors = sym (any-mapped (λ (b : Block). b.header) is_hash on) ∙ split.0;
  uncles = any-mapped uncle_hash (λ (other : List ℕ). bytes_eq other hash) (embedded_uncles on ++ earlier)
      ∙ list_any-append (λ (u : UncleBlock). bytes_eq (uncle_hash u) hash) (embedded_uncles on) earlier
      ∙ ap (λ (b : Bool). b || list_any (λ (u : UncleBlock). bytes_eq (uncle_hash u) hash) earlier)
      (sym (any-mapped (λ (u : UncleBlock). u.header) is_hash (embedded_uncles on)) ∙ both.0)
      ∙ sym (any-mapped (λ (u : UncleBlock). u.header) is_hash earlier) ∙ both.1;
}
  where
    is_hash : Header → Bool
    is_hash other = bytes_eq (header_hash other) hash

    of_ancestors : List Header
    of_ancestors = map (λ (b : Block). b.header) on

    of_embedded : List Header
    of_embedded = map (λ (u : UncleBlock). u.header) (embedded_uncles on)

    of_earlier : List Header
    of_earlier = map (λ (u : UncleBlock). u.header) earlier

    split : (list_any is_hash of_ancestors ≡ false) × (list_any is_hash (of_embedded ++ of_earlier) ≡ false)
    split = or_parts (list_any is_hash of_ancestors) (list_any is_hash (of_embedded ++ of_earlier))
        (sym (list_any-append is_hash of_ancestors (of_embedded ++ of_earlier)) ∙ none)

    both : (list_any is_hash of_embedded ≡ false) × (list_any is_hash of_earlier ≡ false)
    both = or_parts (list_any is_hash of_embedded) (list_any is_hash of_earlier) (sym (list_any-append is_hash of_embedded of_earlier) ∙ split.1)

slice_get-middle : {X : Type 0} (xs ys : List X) (x : X) → slice_get (xs ++ x ∷ ys) (length xs) ≡ Some x
slice_get-middle [] ys x = refl
slice_get-middle (first ∷ xs) ys x = slice_get-middle xs ys x

-- the uncles of a block differ from those of its ancestors and from each other
differ-on : (spec : Specification) (on : List Block) (b : Block) → IsTrue (has_uncles spec on b) → (earlier later : List UncleBlock) → b.uncles ≡ earlier ++ later
    → are_distinct (map uncle_hash (embedded_uncles on ++ earlier)) ≡ true → are_distinct (map uncle_hash (embedded_uncles on ++ b.uncles)) ≡ true
differ-on spec on b all earlier [] parts distinct =
    ap (λ (us : List UncleBlock). are_distinct (map uncle_hash (embedded_uncles on ++ us))) (parts ∙ append-nil earlier) ∙ distinct
differ-on spec on b all earlier (uncle ∷ later) parts distinct =
    differ-on spec on b all (earlier ++ uncle ∷ []) later (parts ∙ sym (append_assoc earlier (uncle ∷ []) later))
    (ap are_distinct (ap (map uncle_hash) (sym (append_assoc (embedded_uncles on) earlier (uncle ∷ [])))
    ∙ map-append uncle_hash (embedded_uncles on ++ earlier) (uncle ∷ []))
    ∙ distinct-push (map uncle_hash (embedded_uncles on ++ earlier)) (uncle_hash uncle) distinct (known-parts on earlier (uncle_hash uncle) new).uncles)
  where
    here : slice_get b.uncles (length earlier) ≡ Some uncle
    here = ap (λ (us : List UncleBlock). slice_get us (length earlier)) parts ∙ slice_get-middle earlier later uncle

    before : take (length earlier) b.uncles ≡ earlier
    before = ap (take (length earlier)) parts ∙ take_at earlier (uncle ∷ later) (length earlier) refl

    new : list_any (λ other. bytes_eq (header_hash other) (uncle_hash uncle)) (known_headers on earlier) ≡ false
    new = subst (λ (us : List UncleBlock). list_any (λ other. bytes_eq (header_hash other) (uncle_hash uncle)) (known_headers on us) ≡ false) before
        (new-at spec on b (length earlier) uncle all here)

-- ---- A branch

embedded-push : (on : List Block) (b : Block) → embedded_uncles (on ++ b ∷ []) ≡ embedded_uncles on ++ b.uncles
embedded-push [] b = append-nil b.uncles
embedded-push (first ∷ later) b =
    ap (λ (us : List UncleBlock). first.uncles ++ us) (embedded-push later b) ∙ sym (append_assoc first.uncles (embedded_uncles later) b.uncles)

no-uncles : (uncles : List UncleBlock) → length uncles ≡ 0 → uncles ≡ []
no-uncles [] none = refl
no-uncles (uncle ∷ later) none = absurd (omega (arith, none))

-- the genesis has none
alone : (chain : Chain) → (joined : IsJoined chain) → joined.genesis.uncles ≡ []
alone chain joined = no-uncles joined.genesis.uncles (eqb-true (length joined.genesis.uncles) 0 (and_parts _ _ (alone-good joined.genesis joined.good)).0)

differ-up-to : (chain : Chain) → IsJoined chain → (most place : ℕ) → place < most → place < length chain.blocks
    → are_distinct (map uncle_hash (embedded_uncles (branch chain.blocks place))) ≡ true
differ-up-to chain joined zero place few below = absurd (omega (arith, few))
differ-up-to chain joined (suc most) zero few below =
    ap (λ (blocks : List Block). are_distinct (map uncle_hash (embedded_uncles blocks))) (first-branch chain.blocks joined.genesis joined.first)
    ∙ ap (λ (us : List UncleBlock). are_distinct (map uncle_hash (us ++ []))) (alone chain joined)
differ-up-to chain joined (suc most) (suc before) few below =
    let here = slice_get-below chain.blocks (suc before) below in
    let up = grows chain (suc before) here.0 joined (omega arith) here.1 in
    let on : List Block = branch chain.blocks up.may.parent in
    ap (λ (blocks : List Block). are_distinct (map uncle_hash (embedded_uncles blocks))) up.grown
    ∙ ap (λ (us : List UncleBlock). are_distinct (map uncle_hash us)) (embedded-push on here.0)
    ∙ differ-on chain.spec on here.0
    (uncles-unbroken chain.spec on here.0 (ap (λ (blocks : List Block). first_broken chain.spec blocks here.0) (sym up.on) ∙ up.may.unbroken)) [] here.0.uncles refl
    (ap (λ (us : List UncleBlock). are_distinct (map uncle_hash us)) (append-nil (embedded_uncles on))
    ∙ differ-up-to chain joined most up.may.parent (omega (arith, up.below, few)) (omega (arith, up.below, below)))

pub uncles-differ : UnclesDiffer
uncles-differ chain place joined below = differ-up-to chain joined (suc place) place (omega arith) below

-- ---- Ancestors

-- What the law says of the branch of a place.
abbrev NoneIsAncestor : List Block → Type 0
NoneIsAncestor on = (height other index : ℕ) (b ancestor : Block) (uncle : UncleBlock) → block_at on height ≡ Some b → slice_get b.uncles index ≡ Some uncle
    → block_at on other ≡ Some ancestor → other < height → uncle_hash uncle ≡ block_hash ancestor → ⊥

none-on : (spec : Specification) (on : List Block) (last : Block) → IsTrue (has_uncles spec on last) → NoneIsAncestor on → NoneIsAncestor (on ++ last ∷ [])
none-on spec on last all earlier height other index b ancestor uncle there embedded above less same = by_height (slice_get-pushed on last height b there)
  where
    in_prefix : other < length on → block_at on other ≡ Some ancestor
    in_prefix within = sym (slice_get-before on (last ∷ []) other within) ∙ above

    by_height : ((height < length on) × (slice_get on height ≡ Some b)) ⊎ ((height ≡ length on) × (last ≡ b)) → ⊥
    by_height (inl before) = earlier height other index b ancestor uncle before.1 embedded (in_prefix (omega (arith, before.0, less))) less same
    by_height (inr at_end) =
        let mine : slice_get last.uncles index ≡ Some uncle = ap (λ (x : Block). slice_get x.uncles index) at_end.1 ∙ embedded in
        let known = known-parts on (take index last.uncles) (uncle_hash uncle) (new-at spec on last index uncle all mine) in
        let apart : bytes_eq (block_hash ancestor) (uncle_hash uncle) ≡ false =
        any-at (λ (x : Block). bytes_eq (block_hash x) (uncle_hash uncle)) on other ancestor known.ancestors (in_prefix (omega (arith, at_end.0, less))) in
        let one : bytes_eq (block_hash ancestor) (uncle_hash uncle) ≡ true = (bytes_eq-Decides (block_hash ancestor) (uncle_hash uncle)).1 (sym same) in
        cc

none-up-to : (chain : Chain) → IsJoined chain → (most place : ℕ) → place < most → place < length chain.blocks → NoneIsAncestor (branch chain.blocks place)
none-up-to chain joined zero place few below = absurd (omega (arith, few))
none-up-to chain joined (suc most) zero few below =
    subst NoneIsAncestor (sym (first-branch chain.blocks joined.genesis joined.first)) one
  where
    one : NoneIsAncestor (joined.genesis ∷ [])
    one height other index b ancestor uncle there embedded above less same =
        let within = slice_get_within (joined.genesis ∷ []) height b there in absurd (omega (arith, within, less))
none-up-to chain joined (suc most) (suc before) few below =
    let here = slice_get-below chain.blocks (suc before) below in
    let up = grows chain (suc before) here.0 joined (omega arith) here.1 in
    let on : List Block = branch chain.blocks up.may.parent in
    subst NoneIsAncestor (sym up.grown)
    (none-on chain.spec on here.0
    (uncles-unbroken chain.spec on here.0 (ap (λ (blocks : List Block). first_broken chain.spec blocks here.0) (sym up.on) ∙ up.may.unbroken))
    (none-up-to chain joined most up.may.parent (omega (arith, up.below, few)) (omega (arith, up.below, below))))

pub uncles-are-no-ancestors : UnclesAreNoAncestors
uncles-are-no-ancestors chain place height other index b ancestor uncle joined below there embedded above less same =
    none-up-to chain joined (suc place) place (omega arith) below height other index b ancestor uncle there embedded above less same
