-- On lists of rows that go and come, at one out-point.
use Rattle.std.proofs.Common.{◌≡◌, suc, ⊎_elim, Bool, true, false, List, [], ◌∷◌, Option, Some, None, is_some, if◌then◌else◌, refl, sym, ap, ◌∙◌, subst, arith}
use Rattle.std.specs.Prelude.{◌↔◌, ◌||◌, IsSome}
use Rattle.std.specs.List.{AllPairs, Contains, list_any}
use Rattle.chain_defs.specs.Schema.{OutPoint}
use Rattle.chain_defs.specs.Events.{same_out_point}
use Rattle.chain_defs.specs.Row.{Row}
use Rattle.chain_defs.specs.Undo.{without, with_row, with_rows, first_live}
use Rattle.chain_defs.specs.ByLock.{of_lock}
use Rattle.chain_defs.proofs.ByLockLaws.{here, there, cons-of, IsApart}
use Rattle.chain_defs.proofs.EventLemmas.{out_points-same}
use Rattle.chain_defs.proofs.NamingLemmas.{out_point-self}
use Rattle.chain_defs.proofs.PutLemmas.{put_at, with_rows-at}
use Rattle.cell_index.specs.Index.{without_all, AreThere}

-- whether a row is that of an out-point
abbrev pub is_of : OutPoint → OutPoint × Row → Bool
is_of o one = same_out_point one.0 o

-- ---- Apart

pub head-apart : (one : OutPoint × Row) (later : List (OutPoint × Row)) (o : OutPoint) (row : Row) → AllPairs IsApart (one ∷ later) → Contains later (o, row)
    → same_out_point one.0 o ≡ false
head-apart one later o row apart (k, lt, is) =
    subst (λ (x : OutPoint × Row). IsApart one x) is (apart 0 (suc k) (o, row) (omega arith) (omega (arith, lt)))

pub tail-apart : (one : OutPoint × Row) (later : List (OutPoint × Row)) → AllPairs IsApart (one ∷ later) → AllPairs IsApart later
tail-apart one later apart i j d before within = apart (suc i) (suc j) d (omega (arith, before)) (omega (arith, within))

-- ---- Whether one is of an out-point

pub any-of : (list : List (OutPoint × Row)) (o : OutPoint) (row : Row) → Contains list (o, row) → list_any (is_of o) list ≡ true
any-of [] o row (k, lt, is) = absurd (omega (arith, lt))
any-of (one ∷ later) o row has = ⊎_elim
    (λ same. ap (λ (b : Bool). b || list_any (is_of o) later) (ap (λ (x : OutPoint × Row). same_out_point x.0 o) same ∙ out_point-self o))
    (λ behind. or-right (same_out_point one.0 o) (list_any (is_of o) later) (any-of later o row behind))
    (cons-of one later (o, row) has)
  where
    or-right : (b c : Bool) → c ≡ true → (b || c) ≡ true
    or-right true c is = refl
    or-right false c is = is

pub of-any : (list : List (OutPoint × Row)) (o : OutPoint) → list_any (is_of o) list ≡ true → (row : Row) × Contains list (o, row)
of-any [] o is = absurd (cc)
of-any (one ∷ later) o is = by_test (same_out_point one.0 o) refl is (of-any later o)
  where
    by_test : (b : Bool) → same_out_point one.0 o ≡ b → (b || list_any (is_of o) later) ≡ true → (list_any (is_of o) later ≡ true → (row : Row) × Contains later (o, row))
        → (row : Row) × Contains (one ∷ later) (o, row)
    by_test true same any rest =
        (one.1, subst (λ (p : OutPoint). Contains (one ∷ later) (p, one.1)) (out_points-same one.0 o same) (here one later))
    by_test false apart any rest = let behind = rest any in (behind.0, there one later (o, behind.0) behind.1)

-- just the rows that a function has
abbrev pub Covers : (OutPoint → Option Row) → List (OutPoint × Row) → Type 0
Covers rows list = (o : OutPoint) (row : Row) → Contains list (o, row) ↔ (rows o ≡ Some row)

pub any-where-some : (rows : OutPoint → Option Row) (list : List (OutPoint × Row)) (o : OutPoint) → Covers rows list → list_any (is_of o) list ≡ is_some (rows o)
any-where-some rows list o covers = by_row (rows o) refl (list_any (is_of o) list) refl
  where
    by_row : (found : Option Row) → rows o ≡ found → (b : Bool) → list_any (is_of o) list ≡ b → b ≡ is_some found
    by_row None is true any = let it = of-any list o any in absurd (no it.0 (sym is ∙ (covers o it.0).0 it.1))
      where
        no : (row : Row) → ◌≡◌ {A = Option Row} None (Some row) → ⊥
        no row same = cc
    by_row None is false any = refl
    by_row (Some row) is b any = sym any ∙ any-of list o row ((covers o row).1 is)

-- ---- Without all of a list

pub without_all-at : (list : List (OutPoint × Row)) (rows : OutPoint → Option Row) (o : OutPoint) → without_all list rows o ≡ (if list_any (is_of o) list then None else rows o)
without_all-at [] rows o = refl
without_all-at (one ∷ later) rows o = without_all-at later (without one.0 rows) o ∙ by_test (list_any (is_of o) later) (same_out_point one.0 o)
  where
    by_test : (rest one_is : Bool) → (if rest then None else (if one_is then None else rows o)) ≡ (if one_is || rest then None else rows o)
    by_test true true = refl
    by_test true false = refl
    by_test false true = refl
    by_test false false = refl

-- Each is there when it is its turn, where all are and no out-point comes twice.
pub are-there : (list : List (OutPoint × Row)) (rows : OutPoint → Option Row) → AllPairs IsApart list
    → ((o : OutPoint) (row : Row) → Contains list (o, row) → IsSome (of_lock row.lock_hash (rows o))) → AreThere list rows
are-there [] rows apart each = tt
are-there (one ∷ later) rows apart each = (
  each one.0 one.1 (here one later),
  are-there later (without one.0 rows) (tail-apart one later apart)
      (λ o row has. subst (λ (b : Bool). IsSome (of_lock row.lock_hash (if b then None else rows o))) (sym (head-apart one later o row apart has))
      (each o row (there one later (o, row) has))),
)

-- ---- With all of a list

-- What a list puts at an out-point of which all that it has is one row.
pub put-one : (list : List (OutPoint × Row)) (o : OutPoint) (row : Row) (found : Option Row) → ((other : Row) → Contains list (o, other) → other ≡ row)
    → put_at list o found ≡ (if list_any (is_of o) list then Some row else found)
put-one [] o row found all = refl
put-one (one ∷ later) o row found all =
    put-one later o row (if same_out_point one.0 o then Some one.1 else found) (λ other has. all other (there one later (o, other) has))
    ∙ by_test (same_out_point one.0 o) refl (list_any (is_of o) later)
  where
    by_test : (b : Bool) → same_out_point one.0 o ≡ b → (rest : Bool)
        → (if rest then Some row else (if b then Some one.1 else found)) ≡ (if b || rest then Some row else found)
    by_test true same true = refl
    by_test true same false =
        ap (λ (r : Row). Some r) (all one.1 (subst (λ (p : OutPoint). Contains (one ∷ later) (p, one.1)) (out_points-same one.0 o same) (here one later)))
    by_test false apart true = refl
    by_test false apart false = refl

-- Rows that are put where none is are just these.
pub rows-put : (rows : OutPoint → Option Row) (list : List (OutPoint × Row)) (o : OutPoint) → Covers rows list → with_rows list (λ _. None) o ≡ rows o
rows-put rows list o covers = with_rows-at list (λ _. None) o ∙ by_row (rows o) refl
  where
    empty : Row
    empty = record { block = 0; transaction = 0; capacity = 0; occupied = 0; lock_hash = []; type_hash = None; data_hash = []; data_len = 0 }

    no : (row : Row) → ◌≡◌ {A = Option Row} None (Some row) → ⊥
    no row same = cc

    one_row : (row other : Row) → Some other ≡ Some row → other ≡ row
    one_row row other same = cc

    by_row : (found : Option Row) → rows o ≡ found → put_at list o None ≡ found
    by_row None is =
        put-one list o empty None (λ other has. absurd (no other (sym is ∙ (covers o other).0 has)))
        ∙ ap (λ (b : Bool). if b then Some empty else None) (any-where-some rows list o covers ∙ ap is_some is)
    by_row (Some row) is =
        put-one list o row None (λ other has. one_row row other (sym ((covers o other).0 has) ∙ is))
        ∙ ap (λ (b : Bool). if b then Some row else None) (any-where-some rows list o covers ∙ ap is_some is)

-- None that comes is live by then, where none is before and no out-point comes twice.
pub none-live : (list : List (OutPoint × Row)) (rows : OutPoint → Option Row) → AllPairs IsApart list
    → ((o : OutPoint) (row : Row) → Contains list (o, row) → rows o ≡ None) → first_live list rows ≡ None
none-live [] rows apart each = refl
none-live (one ∷ later) rows apart each =
    ap (λ (found : Option Row). if is_some found then Some one.0 else first_live later (with_row one rows)) (each one.0 one.1 (here one later))
    ∙ none-live later (with_row one rows) (tail-apart one later apart)
    (λ o row has. ap (λ (b : Bool). if b then Some one.1 else rows o) (head-apart one later o row apart has) ∙ each o row (there one later (o, row) has))

-- The same over the same rows.
pub live-same : (list : List (OutPoint × Row)) (f g : OutPoint → Option Row) → ((o : OutPoint) → f o ≡ g o) → first_live list f ≡ first_live list g
live-same [] f g same = refl
live-same (one ∷ later) f g same =
    ap (λ (found : Option Row). if is_some found then Some one.0 else first_live later (with_row one f)) (same one.0)
    ∙ ap (λ (rest : Option OutPoint). if is_some (g one.0) then Some one.0 else rest)
    (live-same later (with_row one f) (with_row one g) (λ o. ap (λ (found : Option Row). if same_out_point one.0 o then Some one.1 else found) (same o)))
