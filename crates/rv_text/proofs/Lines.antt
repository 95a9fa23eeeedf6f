-- The lines of a text, one after the other.
use Rattle.std.proofs.Common.{◌≡◌, ◌≢◌, inl, inr, ℕ, ◌+◌, ◌-◌, ◌<◌, ◌≤◌, ◌==◌, Bool, true, false, cond, List, [], ◌∷◌, ◌++◌, take, drop, length, get_or, refl, sym, ap, ◌∙◌, subst, arith, add-one, append-nil, append_assoc, length-drop}
use Rattle.std.specs.Prelude.{nat_le}
use Rattle.std.proofs.lemmas.List.{drop-drop, drop_all}
use Rattle.std.proofs.lemmas.Bool.Decides.{nat_tests}
use Rattle.machine_defs.specs.Assembly.{with_first_byte, lines_of, IsLineOf, IsBad, Assembles, IsFirstBad}
use Rattle.rv_text.specs.Stops.{IsStopOf, IsStopOfLine}
use Rattle.rv_text.specs.declared.assembly.AssemblyStop.{AssemblyStop}
use Rattle.rv_text.specs.declared.assembly.AssemblyStop.TheVariants.{BadLine, NoMemory}
use Rattle.rv_text.specs.Reading.{line_end}
use Rattle.rv_text.proofs.Steps.{dropped}

end-here : (cs : List ℕ) (c : ℕ) → c ≡ 10 → line_end (c ∷ cs) ≡ 0
unfolding line_end
end-here cs c e = grind (arith, nat_tests)

end-later : (cs : List ℕ) (c : ℕ) → c ≢ 10 → line_end (c ∷ cs) ≡ line_end cs + 1
unfolding line_end
end-later cs c e = grind (arith, nat_tests)

no-end : line_end [] ≡ 0
unfolding line_end
no-end = refl

pub end-found : (xs : List ℕ) (i : ℕ) → i < length xs → get_or xs i 0 ≡ 10 → line_end xs ≡ i + line_end (drop i xs) → i ≡ line_end xs
end-found xs i h e so =
    let here : line_end (drop i xs) ≡ 0 = ap line_end (dropped xs i h) ∙ end-here (drop (i + 1) xs) (get_or xs i 0) e in
    omega arith

pub end-passed : (xs : List ℕ) (i : ℕ) → i < length xs → get_or xs i 0 ≢ 10 → line_end xs ≡ i + line_end (drop i xs)
    → line_end xs ≡ i + 1 + line_end (drop (i + 1) xs)
end-passed xs i h e so =
    let here : line_end (drop i xs) ≡ line_end (drop (i + 1) xs) + 1 =
    ap line_end (dropped xs i h) ∙ end-later (drop (i + 1) xs) (get_or xs i 0) e in
    omega arith

pub end-none : (xs : List ℕ) (i : ℕ) → length xs ≤ i → i ≤ length xs → line_end xs ≡ i + line_end (drop i xs) → length xs ≡ line_end xs
end-none xs i h k so =
    let here : line_end (drop i xs) ≡ 0 = ap line_end (drop_all i xs h) ∙ no-end in
    omega arith

-- ---- the lines that are left

abbrev pub left : ℕ → List ℕ → List (List ℕ)
left at text = cond (nat_le at (length text)) (lines_of (drop at text)) []

shifted : (b d : Bool) (x y : List (List ℕ)) → b ≡ d → x ≡ y → cond b x [] ≡ cond d y []
shifted b d x y e f = cc

one-more : (c e : ℕ) (cs : List ℕ) → (c ∷ take e cs) ∷ left (e + 1) cs ≡ take (e + 1) (c ∷ cs) ∷ left (e + 1 + 1) (c ∷ cs)
one-more c e cs =
    let test : nat_le (e + 1) (length cs) ≡ nat_le (e + 1 + 1) (length (c ∷ cs)) = grind (arith, nat_tests) in
    let taken : c ∷ take e cs ≡ take (e + 1) (c ∷ cs) = sym (ap (λ n. take n (c ∷ cs)) (add-one e)) in
    let gone : drop (e + 1) cs ≡ drop (e + 1 + 1) (c ∷ cs) = sym (ap (λ n. drop n (c ∷ cs)) (add-one (e + 1))) in
    ap (λ x. x ∷ left (e + 1) cs) taken
    ∙ ap (λ r. take (e + 1) (c ∷ cs) ∷ r) (shifted (nat_le (e + 1) (length cs)) (nat_le (e + 1 + 1) (length (c ∷ cs))) (lines_of (drop (e + 1) cs)) (lines_of (drop (e + 1 + 1) (c ∷ cs))) test (ap lines_of gone))

first-empty : (c : ℕ) (cs : List ℕ) → [] ∷ lines_of cs ≡ take 0 (c ∷ cs) ∷ left 1 (c ∷ cs)
first-empty c cs =
    let test : nat_le 1 (length (c ∷ cs)) ≡ true = grind (arith, nat_tests) in
    rw test refl

split-here : (b : Bool) (c e : ℕ) (cs : List ℕ) → lines_of cs ≡ take e cs ∷ left (e + 1) cs
    → cond b ([] ∷ lines_of cs) (with_first_byte c (lines_of cs)) ≡ take (cond b 0 (e + 1)) (c ∷ cs) ∷ left (cond b 0 (e + 1) + 1) (c ∷ cs)
split-here true c e cs so = first-empty c cs
split-here false c e cs so = rw so (one-more c e cs)

pub split : (xs : List ℕ) → lines_of xs ≡ take (line_end xs) xs ∷ left (line_end xs + 1) xs
unfolding lines_of line_end
split [] = refl
split (c ∷ cs) = split-here (c == 10) c (line_end cs) cs (split cs)

pub left-step : (xs : List ℕ) (at k : ℕ) → at ≤ length xs → k ≡ line_end (drop at xs) → left at xs ≡ take k (drop at xs) ∷ left (at + k + 1) xs
left-step xs at k h e =
    let here : nat_le at (length xs) ≡ true = grind (arith, nat_tests) in
    let rest : List ℕ = drop at xs in
    let size : length rest ≡ length xs - at = length-drop at xs in
    let test : nat_le (k + 1) (length rest) ≡ nat_le (at + k + 1) (length xs) = grind (arith, nat_tests) in
    let gone : drop (k + 1) rest ≡ drop (at + k + 1) xs = drop-drop (k + 1) at xs ∙ ap (λ n. drop n xs) (omega arith) in
    let first : left at xs ≡ lines_of rest = rw here refl in
    first ∙ split rest ∙ ap (λ n. take n rest ∷ left (n + 1) rest) (sym e)
    ∙ ap (λ r. take k rest ∷ r) (shifted (nat_le (k + 1) (length rest)) (nat_le (at + k + 1) (length xs)) (lines_of (drop (k + 1) rest)) (lines_of (drop (at + k + 1) xs)) test (ap lines_of gone))

-- ---- what holds before each line

pub record AreLinesSoFar (text : List ℕ) (at before : ℕ) (code : List ℕ) : Type 0 where
  pub words : (bytes : List ℕ) → Assembles (left at text) bytes → Assembles (lines_of text) (code ++ bytes)
  pub bad : (number : ℕ) → IsFirstBad (left at text) number → IsFirstBad (lines_of text) (before + number)

all-left : (text : List ℕ) → left 0 text ≡ lines_of text
all-left text = let here : nat_le 0 (length text) ≡ true = grind (arith, nat_tests) in rw here refl

pub start : (text : List ℕ) → AreLinesSoFar text 0 0 []
start text = record {
  words = λ bytes h. let P : List (List ℕ) → Type 0 = λ x. Assembles x bytes in subst P (all-left text) h;
  bad = λ number h. let P : List (List ℕ) → Type 0 = λ x. IsFirstBad x number in
      let Q : ℕ → Type 0 = λ n. IsFirstBad (lines_of text) n in
      let e : number ≡ 0 + number = omega arith in
      subst Q e (subst P (all-left text) h);
}

more-words : (line : List ℕ) (lines : List (List ℕ)) (here bytes : List ℕ) → IsLineOf line here → Assembles lines bytes → Assembles (line ∷ lines) (here ++ bytes)
unfolding Assembles
more-words line lines here bytes is rest = (here, bytes, is, rest, refl)

later-bad : (line : List ℕ) (lines : List (List ℕ)) (here : List ℕ) (number : ℕ) → IsLineOf line here → IsFirstBad lines number → IsFirstBad (line ∷ lines) (1 + number)
unfolding IsFirstBad
later-bad line lines here number is rest = inr (here, number, is, rest, refl)

bad-here : (line : List ℕ) (lines : List (List ℕ)) → IsBad line → IsFirstBad (line ∷ lines) 1
unfolding IsFirstBad
bad-here line lines bad = inl (refl, bad)

pub step : (text : List ℕ) (at k before : ℕ) (code here code' : List ℕ) → at ≤ length text → k ≡ line_end (drop at text) → AreLinesSoFar text at before code
    → IsLineOf (take k (drop at text)) here → code' ≡ code ++ here → AreLinesSoFar text (at + k + 1) (before + 1) code'
step text at k before code here code' h e so is c =
    let line : List ℕ = take k (drop at text) in
    let lines : List (List ℕ) = left (at + k + 1) text in
    let now : left at text ≡ line ∷ lines = left-step text at k h e in
    record {
      words = λ bytes rest.
          let P : List (List ℕ) → Type 0 = λ x. Assembles x (here ++ bytes) in
          let Q : List ℕ → Type 0 = λ x. Assembles (lines_of text) x in
          subst Q (sym (append_assoc code here bytes) ∙ ap (λ x. x ++ bytes) (sym c)) (so.words (here ++ bytes) (subst P (sym now) (more-words line lines here bytes is rest)));
      bad = λ number rest.
          let P : List (List ℕ) → Type 0 = λ x. IsFirstBad x (1 + number) in
          let Q : ℕ → Type 0 = λ n. IsFirstBad (lines_of text) n in
          let n : before + (1 + number) ≡ before + 1 + number = omega arith in
          subst Q n (so.bad (1 + number) (subst P (sym now) (later-bad line lines here number is rest)));
    }

pub bad-line : (text : List ℕ) (at k before : ℕ) (code : List ℕ) → at ≤ length text → k ≡ line_end (drop at text) → AreLinesSoFar text at before code
    → IsBad (take k (drop at text)) → IsFirstBad (lines_of text) (before + 1)
bad-line text at k before code h e so bad =
    let P : List (List ℕ) → Type 0 = λ x. IsFirstBad x 1 in
    so.bad 1 (subst P (sym (left-step text at k h e)) (bad-here (take k (drop at text)) (left (at + k + 1) text) bad))

pub stopped : (text : List ℕ) (at k before : ℕ) (code : List ℕ) (line : List ℕ) (stop : AssemblyStop) → at ≤ length text → k ≡ line_end (drop at text) → AreLinesSoFar text at before code
    → line ≡ take k (drop at text) → IsStopOfLine (before + 1) line stop → IsStopOf (lines_of text) stop
stopped text at k before code line NoMemory h e so is tells = tt
stopped text at k before code line (BadLine number) h e so is tells =
    let P : List ℕ → Type 0 = IsBad in
    let Q : ℕ → Type 0 = λ n. IsFirstBad (lines_of text) n in
    subst Q (sym tells.0) (bad-line text at k before code h e so (subst P is tells.1))

no-words : Assembles [] []
unfolding Assembles
no-words = refl

pub all-done : (text : List ℕ) (at before : ℕ) (code : List ℕ) → length text < at → AreLinesSoFar text at before code → Assembles (lines_of text) code
all-done text at before code past so =
    let none : nat_le at (length text) ≡ false = grind (arith, nat_tests) in
    let empty : left at text ≡ [] = rw none refl in
    let P : List (List ℕ) → Type 0 = λ x. Assembles x [] in
    let Q : List ℕ → Type 0 = λ x. Assembles (lines_of text) x in
    subst Q (append-nil code) (so.words [] (subst P (sym empty) no-words))
