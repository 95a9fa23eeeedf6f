-- The known headers, by the branch, the embedded uncles and the earlier ones.
use Rattle.std.proofs.Common.{◌≡◌, ℕ, suc, Bool, true, false, List, [], ◌∷◌, ◌++◌, map, Option, Some, None, refl, sym, ap, ◌∙◌, subst}
use Rattle.std.specs.Prelude.{◌&&◌, ◌||◌, IsSomeAnd}
use Rattle.std.specs.List.{list_any, flat_map}
use Rattle.std.specs.Str.{bytes_eq}
use Rattle.std.proofs.lemmas.Bool.{or_left, or_right}
use Rattle.std.proofs.lemmas.List.Folds.{list_any-append}
use Rattle.chain_defs.specs.Schema.{Header, UncleBlock, Block}
use Rattle.chain_defs.specs.Kept.{header_hash, block_at, place_of}
use Rattle.chain_defs.specs.Branch.{branch_places, branch}
use Rattle.chain_defs.proofs.KeptLaws.{place_of-there}
use Rattle.chain_tree.specs.declared.entry.Entry.{Entry}
use Rattle.chain_tree.specs.Blocks.{Describes, IndexesBlocks}
use Rattle.rule_defs.specs.Uncles.{embedded_uncles, known_headers}
use Rattle.uncle_rules.specs.Embedded.{embedded_at, embedded_in, embedded_from, UnclesValue, IndexesUncles}
use Rattle.uncle_rules.specs.Known.{has_number, is_named, is_on, is_named_on}
use Rattle.uncle_rules.proofs.PlaceLemmas.{any_at, any-branch, named-none, named-some}

pub any-map : {X Y : Type 0} (test : Y → Bool) (f : X → Y) (xs : List X) → list_any test (map f xs) ≡ list_any (λ x. test (f x)) xs
any-map test f [] = refl
any-map test f (x ∷ xs) = ap (λ (rest : Bool). test (f x) || rest) (any-map test f xs)

any-flat : {X Y : Type 0} (test : Y → Bool) (f : X → List Y) (xs : List X) → list_any test (flat_map f xs) ≡ list_any (λ x. list_any test (f x)) xs
any-flat test f [] = refl
any-flat test f (x ∷ xs) = list_any-append test (f x) (flat_map f xs) ∙ ap (λ (rest : Bool). list_any test (f x) || rest) (any-flat test f xs)

-- ---- Embedded uncles

-- an uncle of a block has this hash and number
abbrev embeds : List ℕ → Option ℕ → Block → Bool
embeds hash number block = list_any (λ uncle. is_named hash number uncle.header) block.uncles

spread : (a h on rest : Bool) → ((a && (h && on)) || (on && rest)) ≡ (on && ((a && h) || rest))
spread true true true rest = refl
spread true true false rest = refl
spread true false on rest = refl
spread false h on rest = refl

and-false : (on : Bool) → false ≡ (on && false)
and-false true = refl
and-false false = refl

any-in : (places hash : List ℕ) (number : Option ℕ) (k : ℕ) (uncles : List UncleBlock)
    → list_any (is_named_on places hash number) (map (embedded_at k) uncles) ≡ (is_on places k && list_any (λ uncle. is_named hash number uncle.header) uncles)
any-in places hash number k [] = and-false (is_on places k)
any-in places hash number k (uncle ∷ uncles) =
    ap (λ (rest : Bool). is_named_on places hash number (embedded_at k uncle) || rest) (any-in places hash number k uncles)
    ∙ spread (bytes_eq (header_hash uncle.header) hash) (has_number number uncle.header.number) (is_on places k)
    (list_any (λ (u : UncleBlock). is_named hash number u.header) uncles)

any-from : (places hash : List ℕ) (number : Option ℕ) (k : ℕ) (kept : List Block)
    → list_any (is_named_on places hash number) (embedded_from k kept) ≡ any_at places (embeds hash number) k kept
unfolding embedded_from
any-from places hash number k [] = refl
any-from places hash number k (block ∷ later) =
    list_any-append (is_named_on places hash number) (embedded_in k block) (embedded_from (suc k) later)
    ∙ ap (λ (rest : Bool). list_any (is_named_on places hash number) (embedded_in k block) || rest) (any-from places hash number (suc k) later)
    ∙ ap (λ (front : Bool). front || any_at places (embeds hash number) (suc k) later) (any-in places hash number k block.uncles)

-- An uncle that the branch embeds is an embedded one with a place on the branch.
pub embedded-same : (hash : List ℕ) (number : Option ℕ) (kept : List Block) (parent : ℕ) (uncles : UnclesValue) → IndexesUncles kept uncles
    → list_any (is_named_on (branch_places kept parent) hash number) uncles.embedded
    ≡ list_any (is_named hash number) (map (λ uncle. uncle.header) (embedded_uncles (branch kept parent)))
embedded-same hash number kept parent uncles indexes =
    ap (list_any (is_named_on (branch_places kept parent) hash number)) indexes
    ∙ any-from (branch_places kept parent) hash number 0 kept
    ∙ sym (any-branch (embeds hash number) kept parent)
    ∙ sym (any-flat (λ (uncle : UncleBlock). is_named hash number uncle.header) (λ (block : Block). block.uncles) (branch kept parent))
    ∙ sym (any-map (is_named hash number) (λ (uncle : UncleBlock). uncle.header) (embedded_uncles (branch kept parent)))

-- ---- Ancestors

ancestors-at : (hash : List ℕ) (number : Option ℕ) (kept : List Block) (parent : ℕ)
    → list_any (is_named hash number) (map (λ b. b.header) (branch kept parent))
    ≡ any_at (branch_places kept parent) (λ b. is_named hash number b.header) 0 kept
ancestors-at hash number kept parent =
    any-map (is_named hash number) (λ (b : Block). b.header) (branch kept parent)
    ∙ any-branch (λ (b : Block). is_named hash number b.header) kept parent

pub ancestor-none : (hash : List ℕ) (number : Option ℕ) (kept : List Block) (parent : ℕ) → place_of kept hash ≡ None
    → false ≡ list_any (is_named hash number) (map (λ b. b.header) (branch kept parent))
ancestor-none hash number kept parent none =
    sym (ancestors-at hash number kept parent ∙ named-none hash number (branch_places kept parent) kept none)

pub ancestor-some : (hash : List ℕ) (number : Option ℕ) (kept : List Block) (entries : List Entry) (parent place : ℕ) (entry : Entry)
    → IndexesBlocks kept entries → place_of kept hash ≡ Some place → IsSomeAnd (block_at kept place) (λ block. Describes block entry)
    → (has_number number entry.number && is_on (branch_places kept parent) place)
    ≡ list_any (is_named hash number) (map (λ b. b.header) (branch kept parent))
ancestor-some hash number kept entries parent place entry indexes found described =
    let there = place_of-there kept hash place found in
    let is : Describes there.0 entry = subst (λ (o : Option Block). IsSomeAnd o (λ block. Describes block entry)) there.1 described in
    ap (λ (n : ℕ). has_number number n && is_on (branch_places kept parent) place) is.number
    ∙ sym (ancestors-at hash number kept parent ∙ named-some hash number (branch_places kept parent) kept place there.0 indexes.is_kept there.1 there.2)

-- ---- All of them

pub known-parts : (test : Header → Bool) (blocks : List Block) (earlier : List UncleBlock)
    → list_any test (known_headers blocks earlier)
    ≡ (list_any test (map (λ b. b.header) blocks)
    || (list_any test (map (λ uncle. uncle.header) (embedded_uncles blocks)) || list_any test (map (λ uncle. uncle.header) earlier)))
unfolding known_headers
known-parts test blocks earlier =
    list_any-append test (map (λ (b : Block). b.header) blocks)
    (map (λ (u : UncleBlock). u.header) (embedded_uncles blocks) ++ map (λ (u : UncleBlock). u.header) earlier)
    ∙ ap (λ (rest : Bool). list_any test (map (λ (b : Block). b.header) blocks) || rest)
    (list_any-append test (map (λ (u : UncleBlock). u.header) (embedded_uncles blocks)) (map (λ (u : UncleBlock). u.header) earlier))

pub known-first : (hash : List ℕ) (number : Option ℕ) (kept : List Block) (parent : ℕ) (earlier : List UncleBlock)
    → list_any (is_named hash number) (map (λ b. b.header) (branch kept parent)) ≡ true
    → true ≡ list_any (is_named hash number) (known_headers (branch kept parent) earlier)
known-first hash number kept parent earlier is =
    sym (known-parts (is_named hash number) (branch kept parent) earlier ∙ or_left _ _ is)

pub known-second : (hash : List ℕ) (number : Option ℕ) (kept : List Block) (parent : ℕ) (uncles : UnclesValue) (earlier : List UncleBlock)
    → IndexesUncles kept uncles → list_any (is_named_on (branch_places kept parent) hash number) uncles.embedded ≡ true
    → true ≡ list_any (is_named hash number) (known_headers (branch kept parent) earlier)
known-second hash number kept parent uncles earlier are is =
    sym (known-parts (is_named hash number) (branch kept parent) earlier
    ∙ or_right _ _ (or_left _ _ (sym (embedded-same hash number kept parent uncles are) ∙ is)))

pub known-third : (hash : List ℕ) (number : Option ℕ) (kept : List Block) (parent : ℕ) (uncles : UnclesValue) (earlier : List UncleBlock)
    → IndexesUncles kept uncles → list_any (is_named hash number) (map (λ b. b.header) (branch kept parent)) ≡ false
    → list_any (is_named_on (branch_places kept parent) hash number) uncles.embedded ≡ false
    → list_any (is_named hash number) (map (λ uncle. uncle.header) earlier) ≡ list_any (is_named hash number) (known_headers (branch kept parent) earlier)
known-third hash number kept parent uncles earlier are first second =
    let last : Bool = list_any (is_named hash number) (map (λ (u : UncleBlock). u.header) earlier) in
    let middle : Bool = list_any (is_named hash number) (map (λ (u : UncleBlock). u.header) (embedded_uncles (branch kept parent))) in
    sym (known-parts (is_named hash number) (branch kept parent) earlier
    ∙ ap (λ (front : Bool). front || (middle || last)) first
    ∙ ap (λ (m : Bool). m || last) (sym (embedded-same hash number kept parent uncles are) ∙ second))
