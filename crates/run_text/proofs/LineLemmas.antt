-- Which items are acknowledged where nothing was taken, and where all was.
use Rattle.std.proofs.Common.{◌≡◌, inl, ℕ, zero, suc, ◌+◌, ◌≤◌, ◌<◌, List, [], ◌∷◌, ◌++◌, length, take, Option, refl, ap, arith, length-append}
use Rattle.verdict_defs.specs.declared.verdict.Verdict.{Verdict}
use Rattle.verdict_defs.specs.Chain.{Chain, chain_after, verdict_over}
use Rattle.report_defs.specs.Text.{verdict_text, balance_text, line_feed, line}
use Rattle.report_defs.specs.Report.{balance_over, line_over}
use Rattle.report_defs.specs.Promise.{IsPrefix}
use Rattle.report_defs.specs.Survival.{Agrees, IsKeptPrefix}
use Rattle.run_text.specs.Output.{text_over}

pub prefix_shorter : (a b : List ℕ) → IsPrefix a b → length a ≤ length b
prefix_shorter a b begins = omega (arith, ap length begins.1, length-append a begins.0)

-- no line is empty
pub line_some : (verdict : Verdict) (balance : Option (ℕ × ℕ)) → 0 < length (line verdict balance)
line_some verdict balance =
    let whole : length (line verdict balance) ≡ length (verdict_text verdict ++ balance_text balance) + 1 =
    length-append (verdict_text verdict ++ balance_text balance) line_feed in
    omega (arith, whole)

pub line_over-some : (watched : Option (List ℕ)) (chain : Chain) (item : List ℕ) → 0 < length (line_over watched chain item)
line_over-some watched chain item = line_some (verdict_over chain item) (balance_over watched (chain_after chain item))

-- where nothing was taken, none
pub none_acknowledged : (watched : Option (List ℕ)) (chain : Chain) (items : List (List ℕ)) (n : ℕ) → n ≤ length items
    → IsPrefix (text_over watched chain (take n items)) [] → n ≡ 0
none_acknowledged watched chain items zero within begins = refl
none_acknowledged watched chain [] (suc n) within begins = absurd (omega (arith, within))
none_acknowledged watched chain (item ∷ items) (suc n) within begins =
    absurd (omega (
      arith,
      line_over-some watched chain item,
      prefix_shorter (text_over watched chain (take (suc n) (item ∷ items))) [] begins,
      length-append (line_over watched chain item) (text_over watched (chain_after chain item) (take n items)),
    ))

pub prefix_of_none : (watched : Option (List ℕ)) (chain : Chain) (items : List (List ℕ)) (count : ℕ) → count ≤ length items
    → IsKeptPrefix watched chain items [] count
prefix_of_none watched chain items count within = record {
  answered = inl (text_over watched chain items, refl);
  most = within;
  acknowledged = λ n most begins. omega (arith, none_acknowledged watched chain items n most begins);
}

pub prefix_of_all : (watched : Option (List ℕ)) (chain : Chain) (items : List (List ℕ)) (taken : List ℕ)
    → Agrees taken (text_over watched chain items) → IsKeptPrefix watched chain items taken (length items)
prefix_of_all watched chain items taken answered = record { answered = answered; most = omega arith; acknowledged = λ n most begins. most }
