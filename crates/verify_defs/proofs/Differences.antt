-- Where bytes differ.
use Rattle.std.proofs.Common.{◌≡◌, ℕ, suc, Bool, true, false, cond, eqb, List, [], ◌∷◌, Option, Some, None, refl, ap, ◌∙◌}
use Rattle.std.specs.Option.{option_map}
use Rattle.std.proofs.lemmas.Bool.Decides.{Decides-eqb}
use Rattle.verify_defs.specs.Fault.{first_difference}

-- nowhere, where they are the same
pub none_of_same : (bytes : List ℕ) → first_difference bytes bytes ≡ None
unfolding first_difference
none_of_same [] = refl
none_of_same (a ∷ bytes) =
    ap (λ (t : Bool). cond t (option_map suc (first_difference bytes bytes)) (Some 0)) ((Decides-eqb a a).1 refl) ∙ ap (option_map suc) (none_of_same bytes)

none-mapped : (o : Option ℕ) → option_map suc o ≡ None → o ≡ None
none-mapped None is = refl
none-mapped (Some n) is = absurd (cc)

-- and they are the same where they differ nowhere
pub same_of_none : (one other : List ℕ) → first_difference one other ≡ None → one ≡ other
unfolding first_difference
same_of_none [] [] none = refl
same_of_none [] (b ∷ other) none = absurd (cc)
same_of_none (a ∷ one) [] none = absurd (cc)
same_of_none (a ∷ one) (b ∷ other) none = by_test (same_of_none one other) (eqb a b) refl none
  where
    by_test : (first_difference one other ≡ None → one ≡ other) → (t : Bool) → eqb a b ≡ t → cond t (option_map suc (first_difference one other)) (Some 0) ≡ None → a ∷ one ≡ b ∷ other
    by_test again false is none = absurd (cc)
    by_test again true is none =
        let first : a ≡ b = (Decides-eqb a b).0 is in
        let rest : one ≡ other = again (none-mapped (first_difference one other) none) in
        λ i. first i ∷ rest i
