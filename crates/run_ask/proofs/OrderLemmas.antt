-- The rows of a branch stand in its order: the numbers of its blocks rise.
use Rattle.std.proofs.Common.{◌≡◌, ℕ, zero, suc, ◌+◌, ◌<◌, ◌≤◌, List, [], ◌∷◌, ◌++◌, map, length, refl, sym, ap, ◌∙◌, subst, arith}
use Rattle.std.specs.Prelude.{Option, Some, IfSome}
use Rattle.std.specs.List.{AllByRecursion}
use Rattle.std.specs.List.Sorted.{IsStrictlySortedBy}
use Rattle.std.specs.Ordering.{nat_cmp, ordering_then}
use Rattle.std.specs.declared.cmp.Ordering.{Ordering}
use Rattle.std.specs.declared.cmp.Ordering.TheVariants.{Less, Equal}
use Rattle.std.specs.Cmp.{nat_cmp_is}
use Rattle.chain_defs.specs.Schema.{Block}
use Rattle.chain_defs.specs.Hashes.{transaction_hash}
use Rattle.chain_defs.specs.Kept.{block_at}
use Rattle.transaction_index.specs.declared.row.Row.{Row}
use Rattle.transaction_index.specs.Rows.{rows_from, rows_in, rows_of, by_place, AreInOrder}

-- ---- One row before another

by-number : (one other : Row) → one.number < other.number → by_place one other ≡ Less
by-number one other less = ap (λ (o : Ordering). ordering_then o (nat_cmp one.place other.place)) (sym (nat_cmp_is one.number other.number Less less))

in-block : (one other : Row) → one.number ≡ other.number → one.place < other.place → by_place one other ≡ Less
in-block one other same less =
    ap (λ (o : Ordering). ordering_then o (nat_cmp one.place other.place)) (sym (nat_cmp_is one.number other.number Equal same))
    ∙ sym (nat_cmp_is one.place other.place Less less)

-- ---- Each row

each : {P Q : Row → Type 0} → ((row : Row) → P row → Q row) → (rows : List Row) → AllByRecursion P rows → AllByRecursion Q rows
each take [] all = tt
each take (row ∷ rows) all = (take row all.0, each take rows all.1)

each-append : (P : Row → Type 0) (rows more : List Row) → AllByRecursion P rows → AllByRecursion P more → AllByRecursion P (rows ++ more)
each-append P [] more all rest = rest
each-append P (row ∷ rows) more all rest = (all.0, each-append P rows more all.1 rest)

-- rows of one block before those of later ones
order-append : (number : ℕ) (rows more : List Row) → AreInOrder rows → AllByRecursion (λ (row : Row). row.number ≡ number) rows → AreInOrder more
    → AllByRecursion (λ (row : Row). number < row.number) more → AreInOrder (rows ++ more)
unfolding IsStrictlySortedBy
order-append number [] more up all upper above = upper
order-append number (row ∷ rows) more up all upper above = (
  each-append _ rows more up.0 (each (λ other less. by-number row other (omega (arith, all.0, less))) more above),
  order-append number rows more up.1 all.1 upper above,
)

-- ---- The rows of a block, and of blocks

-- rows of this number, from a place on
abbrev AreFrom : ℕ → ℕ → List Row → Type 0
AreFrom number place rows = AllByRecursion (λ (row : Row). (row.number ≡ number) × (place ≤ row.place)) rows

from-all : (number place : ℕ) (hashes : List (List ℕ)) → AreFrom number place (rows_from number place hashes)
from-all number place [] = tt
from-all number place (hash ∷ later) =
    ((refl, omega arith), each (λ row is. (is.0, omega (arith, is.1))) (rows_from number (suc place) later) (from-all number (suc place) later))

from-order : (number place : ℕ) (hashes : List (List ℕ)) → AreInOrder (rows_from number place hashes)
unfolding IsStrictlySortedBy
from-order number place [] = tt
from-order number place (hash ∷ later) = (
  each (λ row is. in-block (record { hash = hash; number = number; place = place }) row (sym is.0) (omega (arith, is.1))) (rows_from number (suc place) later)
      (from-all number (suc place) later),
  from-order number (suc place) later,
)

-- the numbers of blocks rise by one, from this on
abbrev pub CountFrom : ℕ → List Block → Type 0
CountFrom number blocks = (height : ℕ) (b : Block) → block_at blocks height ≡ Some b → b.header.number ≡ number + height

later-counts : (number : ℕ) (b : Block) (later : List Block) → CountFrom number (b ∷ later) → CountFrom (suc number) later
later-counts number b later counts height it there = let is = counts (suc height) it there in omega (arith, is)

above-all : (number : ℕ) (blocks : List Block) → CountFrom number blocks → AllByRecursion (λ (row : Row). number ≤ row.number) (rows_of blocks)
above-all number [] counts = tt
above-all number (b ∷ later) counts =
    let first : b.header.number ≡ number + 0 = counts 0 b refl in
    each-append _ (rows_in b) (rows_of later)
    (each (λ row is. omega (arith, is.0, first)) (rows_in b) (from-all b.header.number 0 (map transaction_hash b.transactions)))
    (each (λ row is. omega (arith, is)) (rows_of later) (above-all (suc number) later (later-counts number b later counts)))

none-order : AreInOrder []
unfolding IsStrictlySortedBy
none-order = tt

pub rows-order : (number : ℕ) (blocks : List Block) → CountFrom number blocks → AreInOrder (rows_of blocks)
rows-order number [] counts = none-order
rows-order number (b ∷ later) counts =
    let first : b.header.number ≡ number + 0 = counts 0 b refl in
    order-append b.header.number (rows_in b) (rows_of later) (from-order b.header.number 0 (map transaction_hash b.transactions))
    (each (λ row is. is.0) (rows_in b) (from-all b.header.number 0 (map transaction_hash b.transactions)))
    (rows-order (suc number) later (later-counts number b later counts))
    (each (λ row is. omega (arith, is, first)) (rows_of later) (above-all (suc number) later (later-counts number b later counts)))
