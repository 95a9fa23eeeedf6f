-- What `assemble` reads, and what it says of what was assembled.
use Rattle.std.proofs.Common.{◌≡◌, inl, inr, ℕ, suc, ◌+◌, ◌≤◌, ◌<◌, List, [], ◌∷◌, length, map, get_or, drop, replicate, slice_get, Vec, Global, refl, ap, sym, ◌∙◌, subst, arith}
use Rattle.std.specs.Prelude.{Option, Some, None, Result, Ok, Err, IfOk, string_bytes}
use Rattle.std.specs.List.{All}
use Rattle.std.proofs.lemmas.Bool.Decides.{leb_tells}
use Rattle.std.proofs.lemmas.List.{length-map, length-drop, length-replicate, get_or-replicate}
use Rattle.std.proofs.lemmas.List.Elements.{All-nil, All-cons, All-drop}
use Rattle.std.proofs.lemmas.Option.{same_Some, slice_get-get_or, slice_get_past}
use Rattle.chain_defs.specs.Shape.{IsEncoding, encoded, decoded}
use Rattle.chain_defs.specs.Schema.{CellbaseWitness, cellbase_witness}
use Rattle.verdict_defs.specs.Chain.{Chain}
use Rattle.pool_defs.specs.Size.{most_items, most_bytes}
use Rattle.report_defs.specs.declared.command.Question.TheVariants.{Assemble}
use Rattle.report_defs.specs.declared.status.Status.{Status}
use Rattle.report_defs.specs.declared.status.Status.TheVariants.{Done, SomeRefused}
use Rattle.report_defs.specs.Status.{IsOneOf}
use Rattle.report_defs.specs.Items.{AreItems, IsTaken, whole_limits}
use Rattle.report_defs.specs.Assembly.{assembly_items, no_block_line}
use Rattle.report_defs.specs.Report.{item_limit, text_of, report_with_witness}
use Rattle.run_text.proofs.WholeLemmas.{few_items}
use Rattle.run_question.specs.Question.{IsAnswerTo}
use Rattle.run_text.specs.declared.output.Answer.{Answer}
use Rattle.run_text.proofs.Limits.{item_limit-is}

-- ---- The limits

most_items-is : most_items ≡ 1000
unfolding most_items
most_items-is = refl

most-bytes : most_bytes ≡ 1048576
unfolding most_bytes
most-bytes = refl

one_more : (n m limit : ℕ) → m ≡ n + 1 → replicate m limit ≡ limit ∷ replicate n limit
one_more n m limit is = let on : m ≡ suc n = omega (arith, is) in ap (λ k. replicate k limit) on

-- those of the witness and of each item
pub limits-are : (limit count : ℕ) → limit ≡ 1048576 → count ≡ 1001 → replicate count limit ≡ assembly_items item_limit
unfolding assembly_items
limits-are limit count limit_is count_is =
    ap (replicate count) (limit_is ∙ sym item_limit-is) ∙ one_more most_items count item_limit (omega (arith, count_is, most_items-is))

count-of-limits : (limit : ℕ) → length (assembly_items limit) ≡ 1001
unfolding assembly_items
count-of-limits limit = omega (arith, length-replicate most_items limit, most_items-is)

-- each is the same
same-limit : (n limit at found : ℕ) → slice_get (replicate n limit) at ≡ Some found → found ≡ limit
same-limit n limit at found is = elim (leb_tells (at + 1) n) [
  | inl there ↦
      let long : at < length (replicate n limit) = omega (arith, there.1, length-replicate n limit) in
      same_Some found limit (sym is ∙ slice_get-get_or (replicate n limit) at limit long ∙ ap Some (get_or-replicate n at limit limit (omega (arith, there.1))))
  | inr past ↦ absurd (none_is (slice_get_past (replicate n limit) at (omega (arith, past.1, length-replicate n limit))) is)
]
  where
    none_is : {found : Option ℕ} {it : ℕ} → found ≡ None → found ≡ Some it → ⊥
    none_is none some = absurd (cc)

limit-of-item : (at found : ℕ) → slice_get (assembly_items item_limit) at ≡ Some found → found ≤ 1048576
limit-of-item at found is =
    let all : replicate 1001 item_limit ≡ assembly_items item_limit = limits-are item_limit 1001 item_limit-is refl in
    omega (arith, item_limit-is, same-limit 1001 item_limit at found (ap (λ (ls : List ℕ). slice_get ls at) all ∙ is))

-- ---- The items

within : (limit : Option ℕ) (item : List ℕ) → ((n : ℕ) → limit ≡ Some n → n ≤ 1048576) → IsTaken limit item → length item ≤ 1048576
within None item small taken = absurd taken
within (Some limit) item small taken = omega (arith, small limit refl, taken.most)

all-within : (place : ℕ) (vectors : List (Vec ℕ Global)) → AreItems (whole_limits (assembly_items item_limit)) place (map (λ (v : Vec ℕ Global). v.items) vectors)
    → All (λ (v : Vec ℕ Global). length v.items ≤ 1048576) vectors
all-within place [] all = All-nil (λ (v : Vec ℕ Global). length v.items ≤ 1048576)
all-within place (vector ∷ vectors) all =
    All-cons (λ (v : Vec ℕ Global). length v.items ≤ 1048576) vector vectors
    (within (slice_get (assembly_items item_limit) place) vector.items (limit-of-item place) all.0) (all-within (place + 1) vectors all.1)

module _ (vectors : List (Vec ℕ Global)) (all : AreItems (whole_limits (assembly_items item_limit)) 0 (map (λ (v : Vec ℕ Global). v.items) vectors)) where
  -- those after the witness
  pub few-enough : (rest : List (Vec ℕ Global)) → rest ≡ drop 1 vectors → 1 ≤ length vectors → length rest ≤ most_items
  few-enough rest rest_is some =
      let most = few_items (assembly_items item_limit) 0 (map (λ (v : Vec ℕ Global). v.items) vectors) all (omega arith) in
      omega (arith, most, count-of-limits item_limit, most_items-is, some, ap length rest_is, length-map vectors (λ (v : Vec ℕ Global). v.items), length-drop 1 vectors)

  pub short-enough : (rest : List (Vec ℕ Global)) → rest ≡ drop 1 vectors → All (λ (v : Vec ℕ Global). length v.items ≤ most_bytes) rest
  short-enough rest rest_is =
      subst (λ (most : ℕ). All (λ (v : Vec ℕ Global). length v.items ≤ most) rest) (sym most-bytes)
      (subst (λ (them : List (Vec ℕ Global)). All (λ (v : Vec ℕ Global). length v.items ≤ 1048576) them) (sym rest_is)
      (All-drop (λ (v : Vec ℕ Global). length v.items ≤ 1048576) 1 vectors (all-within 0 vectors all)))

-- the first and those after it
pub first-and-rest : (vectors : List (Vec ℕ Global)) (vector : Vec ℕ Global) (item : List ℕ) → 1 ≤ length vectors → vector ≡ get_or vectors 0 vector → item ≡ vector.items
    → map (λ (v : Vec ℕ Global). v.items) vectors ≡ item ∷ map (λ (v : Vec ℕ Global). v.items) (drop 1 vectors)
first-and-rest [] vector item some vector_is item_is = absurd (omega (arith, some))
first-and-rest (a ∷ more) vector item some vector_is item_is =
    ap (λ (bytes : List ℕ). bytes ∷ map (λ (v : Vec ℕ Global). v.items) more) (sym (item_is ∙ ap (λ (v : Vec ℕ Global). v.items) vector_is))

-- the witness in the first of them
pub witness-fits : (vectors : List (Vec ℕ Global)) (vector : Vec ℕ Global) (item : List ℕ) (witness : CellbaseWitness)
    → AreItems (whole_limits (assembly_items item_limit)) 0 (map (λ (v : Vec ℕ Global). v.items) vectors)
    → 1 ≤ length vectors → vector ≡ get_or vectors 0 vector → item ≡ vector.items → IsEncoding cellbase_witness item witness
    → length (encoded cellbase_witness witness) ≤ most_bytes
witness-fits vectors vector item witness all some vector_is item_is is =
    let short = all-within 0 vectors all 0 vector (omega (arith, some)) in
    let same : length (get_or vectors 0 vector).items ≡ length item = ap (λ (v : Vec ℕ Global). length v.items) (sym vector_is) ∙ ap length (sym item_is) in
    omega (arith, short, same, ap length is.encoding, most-bytes)

-- ---- What is said

-- where the first item is no witness
says-no-witness : (chain : Chain) (first : List ℕ) (items : List (List ℕ)) (text : List ℕ) (status : Status) → decoded cellbase_witness first ≡ None
    → text ≡ no_block_line 17 → status ≡ SomeRefused → IsAnswerTo Assemble chain (first ∷ items) text status
says-no-witness chain first items text status is text_is status_is = record {
  text_is = text_is ∙ ap (λ (found : Option CellbaseWitness). text_of (report_with_witness chain found items)) (sym is);
  status_is = status_is ∙ ap (λ (found : Option CellbaseWitness). (report_with_witness chain found items).status) (sym is);
}

-- (as it is answered)
pub no-witness-answer : (chain : Chain) (first : List ℕ) (more items : List (List ℕ)) (result : Result Answer Status) → items ≡ first ∷ more
    → decoded cellbase_witness first ≡ None → IfOk result (λ answer. string_bytes answer.text ≡ no_block_line 17) → IfOk result (λ answer. answer.status ≡ SomeRefused)
    → IfOk result (λ answer. IsAnswerTo Assemble chain items (string_bytes answer.text) answer.status)
no-witness-answer chain first more items (Ok answer) are is text_is status_is =
    subst (λ (them : List (List ℕ)). IsAnswerTo Assemble chain them (string_bytes answer.text) answer.status) (sym are)
    (says-no-witness chain first more (string_bytes answer.text) answer.status is text_is status_is)
no-witness-answer chain first more items (Err status) are is text_is status_is = tt

pub refused-is-told : (result : Result Answer Status) → IfOk result (λ answer. answer.status ≡ SomeRefused)
    → IfOk result (λ answer. IsOneOf (Done ∷ SomeRefused ∷ []) answer.status)
refused-is-told (Ok answer) status_is = inr (inl status_is)
refused-is-told (Err status) status_is = tt
