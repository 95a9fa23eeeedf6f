-- What a block proposes, by the ids of the block and of its uncles one by one.
use Rattle.std.proofs.Common.{◌≡◌, ℕ, ◌+◌, ◌<◌, Bool, true, false, ◌||◌, List, [], ◌∷◌, take, get_or, Some, refl, ap, ◌∙◌, inl, inr, ◌⊎◌, arith}
use Rattle.std.specs.Prelude.{slice_get, ◌≤◌}
use Rattle.std.specs.List.{list_any, flat_map}
use Rattle.std.specs.Str.{bytes_eq}
use Rattle.std.proofs.lemmas.Bool.{or_from, cases_lt}
use Rattle.std.proofs.lemmas.List.Folds.{list_any-append, list_any_more, list_any_at}
use Rattle.std.proofs.lemmas.Option.{slice_get_within, get_or_from_slice_get}
use Rattle.chain_defs.specs.Schema.{Block}
use Rattle.rule_defs.specs.Window.{proposes}

-- one more that fails the test
pub any-next : {X : Type 0} (test : X → Bool) (xs : List X) (i : ℕ) (x : X) → list_any test (take i xs) ≡ false → slice_get xs i ≡ Some x → test x ≡ false
    → list_any test (take (i + 1) xs) ≡ false
any-next test xs i x before there fails =
    list_any_more test xs i x (slice_get_within xs i x there)
    ∙ or_from (list_any test (take i xs)) (test (get_or xs i x)) before (ap test (get_or_from_slice_get xs i x x there) ∙ fails)

-- one that passes it
pub any-here : {X : Type 0} (test : X → Bool) (xs : List X) (i : ℕ) (x : X) → slice_get xs i ≡ Some x → test x ≡ true → list_any test xs ≡ true
any-here test xs i x there passes =
    list_any_at test xs i x (slice_get_within xs i x there) (ap test (get_or_from_slice_get xs i x x there) ∙ passes)

any-flat : {X Y : Type 0} (test : Y → Bool) (f : X → List Y) (xs : List X) → list_any test (flat_map f xs) ≡ list_any (λ x. list_any test (f x)) xs
any-flat test f [] = refl
any-flat test f (x ∷ xs) = list_any-append test (f x) (flat_map f xs) ∙ ap (λ rest. list_any test (f x) || rest) (any-flat test f xs)

pub proposes-parts : (id : List ℕ) (b : Block)
    → proposes id (Some b) ≡ (list_any (λ other. bytes_eq other id) b.proposals || list_any (λ uncle. list_any (λ other. bytes_eq other id) uncle.proposals) b.uncles)
proposes-parts id b =
    list_any-append (λ other. bytes_eq other id) b.proposals (flat_map (λ uncle. uncle.proposals) b.uncles)
    ∙ ap (λ rest. list_any (λ other. bytes_eq other id) b.proposals || rest) (any-flat (λ other. bytes_eq other id) (λ uncle. uncle.proposals) b.uncles)

-- where a test fails below a height and at it, it fails below the next
pub one-more : (test : ℕ → Bool) (at height : ℕ) → test at ≡ false → height < at + 1 → (height < at → test height ≡ false) → test height ≡ false
one-more test at height here below earlier = by_order (cases_lt height at)
  where
    by_order : (height < at) ⊎ (at ≤ height) → test height ≡ false
    by_order (inl less) = earlier less
    by_order (inr at_least) = let same : height ≡ at = omega (arith, at_least, below) in ap test same ∙ here
