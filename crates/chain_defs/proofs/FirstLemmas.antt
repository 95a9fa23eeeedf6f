-- The first of a list of rules that is broken, rule by rule.
use Rattle.std.proofs.Common.{◌≡◌, ℕ, Bool, true, false, List, [], ◌∷◌, ◌++◌, Some, None, refl, ap, ◌∙◌}
use Rattle.std.specs.Prelude.{IsTrue}
use Rattle.std.proofs.lemmas.List.Elements.{All-nil, All-cons, All-head, All-tail}
use Rattle.chain_defs.specs.First.{first_failing, AllHold, IsFirstFailing, FindsTheFirst, FindsNone}

pub first_failing-fails : (number : ℕ) (test : Bool) (rules : List (ℕ × Bool)) → test ≡ false → first_failing ((number, test) ∷ rules) ≡ Some number
unfolding first_failing
first_failing-fails number true rules e = cc
first_failing-fails number false rules e = refl

pub first_failing-holds : (number : ℕ) (test : Bool) (rules : List (ℕ × Bool)) → test ≡ true → first_failing ((number, test) ∷ rules) ≡ first_failing rules
unfolding first_failing
first_failing-holds number true rules e = refl
first_failing-holds number false rules e = cc

pub first_failing-none : first_failing [] ≡ None
unfolding first_failing
first_failing-none = refl

-- after rules that are all kept
pub first_failing-append-holds : (earlier later : List (ℕ × Bool)) → AllHold earlier → first_failing (earlier ++ later) ≡ first_failing later
unfolding first_failing
first_failing-append-holds [] later kept = refl
first_failing-append-holds ((number, true) ∷ earlier) later kept = first_failing-append-holds earlier later (All-tail (λ rule. IsTrue rule.1) (number, true) earlier kept)
first_failing-append-holds ((number, false) ∷ earlier) later kept = let broken : false ≡ true = All-head (λ rule. IsTrue rule.1) (number, false) earlier kept in cc

-- one that is broken is so whatever stands after
pub first_failing-append-fails : (number : ℕ) (earlier later : List (ℕ × Bool)) → first_failing earlier ≡ Some number → first_failing (earlier ++ later) ≡ Some number
unfolding first_failing
first_failing-append-fails number [] later e = cc
first_failing-append-fails number ((n, true) ∷ earlier) later e = first_failing-append-fails number earlier later e
first_failing-append-fails number ((n, false) ∷ earlier) later e = e

-- one rule more at the end
pub first_failing-push : (number : ℕ) (test : Bool) (earlier : List (ℕ × Bool)) → first_failing earlier ≡ None
    → first_failing (earlier ++ (number, test) ∷ []) ≡ first_failing ((number, test) ∷ [])
unfolding first_failing
first_failing-push number test [] e = refl
first_failing-push number test ((n, true) ∷ earlier) e = first_failing-push number test earlier e
first_failing-push number test ((n, false) ∷ earlier) e = cc

all_hold : (rules : List (ℕ × Bool)) → first_failing rules ≡ None → AllHold rules
unfolding first_failing
all_hold [] e = All-nil (λ rule. IsTrue rule.1)
all_hold ((n, true) ∷ rules) e = All-cons (λ rule. IsTrue rule.1) (n, true) rules refl (all_hold rules e)
all_hold ((n, false) ∷ rules) e = cc

none_fails : (rules : List (ℕ × Bool)) → AllHold rules → first_failing rules ≡ None
unfolding first_failing
none_fails [] kept = refl
none_fails ((n, true) ∷ rules) kept = none_fails rules (All-tail (λ rule. IsTrue rule.1) (n, true) rules kept)
none_fails ((n, false) ∷ rules) kept = let broken : false ≡ true = All-head (λ rule. IsTrue rule.1) (n, false) rules kept in cc

pub finds_none : FindsNone
finds_none rules = (all_hold rules, none_fails rules)

is_first : (number : ℕ) (rules : List (ℕ × Bool)) → first_failing rules ≡ Some number → IsFirstFailing number rules
unfolding first_failing
is_first number [] e = cc
is_first number ((n, true) ∷ rules) e =
    let there = is_first number rules e in
    record {
      earlier = (n, true) ∷ there.earlier;
      later = there.later;
      split = ap (λ (l : List (ℕ × Bool)). (n, true) ∷ l) there.split;
      kept = All-cons (λ rule. IsTrue rule.1) (n, true) there.earlier refl there.kept;
    }
is_first number ((n, false) ∷ rules) e = record {
  earlier = [];
  later = rules;
  split = let is : n ≡ number = cc in ap (λ (k : ℕ). (k, false) ∷ rules) is;
  kept = All-nil (λ rule. IsTrue rule.1);
}

found : (number : ℕ) (rules : List (ℕ × Bool)) → IsFirstFailing number rules → first_failing rules ≡ Some number
found number rules first =
    ap first_failing first.split ∙ first_failing-append-holds first.earlier ((number, false) ∷ first.later) first.kept ∙ first_failing-fails number false first.later refl

pub finds_the_first : FindsTheFirst
finds_the_first number rules = (is_first number rules, found number rules)
