-- On rows that go or come one after the other.
use Rattle.std.proofs.Common.{◌≡◌, ℕ, zero, suc, ◌+◌, ◌<◌, ◌≤◌, List, [], ◌∷◌, length, drop, get_or, Option, Some, None, is_some, if◌then◌else◌, refl, ap, ◌∙◌, subst, arith}
use Rattle.std.proofs.Math.Seq.{drop-cons}
use Rattle.chain_defs.specs.Schema.{OutPoint}
use Rattle.chain_defs.specs.Row.{Row}
use Rattle.chain_defs.specs.Undo.{without, with_row, with_rows, first_live}
use Rattle.cell_index.specs.Index.{IndexValue, Holds, AreThere, without_all}

-- the rest of a list, from one on
pub rows-from : (all : List (OutPoint × Row)) (count : ℕ) (one : OutPoint × Row) → count < length all → get_or all count one ≡ one
    → drop count all ≡ one ∷ drop (count + 1) all
rows-from all count one within is =
    let next : suc count ≡ count + 1 = omega arith in
    drop-cons all count one within ∙ ap (λ (x : OutPoint × Row). x ∷ drop (suc count) all) is ∙ ap (λ (n : ℕ). one ∷ drop n all) next

pub rows-over : (all : List (OutPoint × Row)) (count : ℕ) → length all ≤ count → drop count all ≡ []
rows-over [] zero past = refl
rows-over [] (suc count) past = refl
rows-over (one ∷ all) zero past = absurd (omega (arith, past))
rows-over (one ∷ all) (suc count) past = rows-over all count (omega (arith, past))

-- ---- Rows that come

-- What an index has with the first of them come and the others to come.
pub record Coming (rows : OutPoint → Option Row) (all left : List (OutPoint × Row)) (index : IndexValue) : Type 0 where
  pub now : OutPoint → Option Row
  pub has : Holds now index
  pub free : first_live left now ≡ None
  pub same : with_rows left now ≡ with_rows all rows

pub free-parts : (one : OutPoint × Row) (later : List (OutPoint × Row)) (now : OutPoint → Option Row) → first_live (one ∷ later) now ≡ None
    → (now one.0 ≡ None) × (first_live later (with_row one now) ≡ None)
free-parts one later now free = by_row (now one.0) refl free
  where
    by_row : (found : Option Row) → now one.0 ≡ found → (if is_some found then Some one.0 else first_live later (with_row one now)) ≡ None
        → (now one.0 ≡ None) × (first_live later (with_row one now) ≡ None)
    by_row None is rest = (is, rest)
    by_row (Some row) is rest = absurd (cc)

pub next-free : {rows : OutPoint → Option Row} {all : List (OutPoint × Row)} {index : IndexValue} (one : OutPoint × Row) (later : List (OutPoint × Row))
    → (it : Coming rows all (one ∷ later) index) → it.now one.0 ≡ None
next-free one later it = (free-parts one later it.now it.free).0

pub come-one : {rows : OutPoint → Option Row} {all : List (OutPoint × Row)} {index : IndexValue} (one : OutPoint × Row) (later : List (OutPoint × Row)) (more : IndexValue)
    → (it : Coming rows all (one ∷ later) index) → Holds (with_row one it.now) more → Coming rows all later more
come-one one later more it has = record { now = with_row one it.now; has = has; free = (free-parts one later it.now it.free).1; same = it.same }

pub come-all : {rows : OutPoint → Option Row} {all : List (OutPoint × Row)} {index : IndexValue} → Coming rows all [] index → Holds (with_rows all rows) index
come-all {index = index} it = subst (λ (f : OutPoint → Option Row). Holds f index) it.same it.has

-- ---- Rows that go

-- What an index has with the first of them gone and the others to go.
pub record Going (rows : OutPoint → Option Row) (all left : List (OutPoint × Row)) (index : IndexValue) : Type 0 where
  pub now : OutPoint → Option Row
  pub has : Holds now index
  pub there : AreThere left now
  pub same : without_all left now ≡ without_all all rows

pub go-one : {rows : OutPoint → Option Row} {all : List (OutPoint × Row)} {index : IndexValue} (one : OutPoint × Row) (later : List (OutPoint × Row)) (fewer : IndexValue)
    → (it : Going rows all (one ∷ later) index) → Holds (without one.0 it.now) fewer → Going rows all later fewer
go-one one later fewer it has = record { now = without one.0 it.now; has = has; there = it.there.1; same = it.same }

pub go-all : {rows : OutPoint → Option Row} {all : List (OutPoint × Row)} {index : IndexValue} → Going rows all [] index → Holds (without_all all rows) index
go-all {index = index} it = subst (λ (f : OutPoint → Option Row). Holds f index) it.same it.has
