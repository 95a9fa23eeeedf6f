-- The cellbase: the only input, the first transaction, and the live cells.
use Rattle.std.proofs.Common.{◌≡◌, ℕ, ◌+◌, Bool, true, false, List, [], ◌∷◌, length, map, drop, Option, Some, refl, sym, ap, ◌∙◌, arith}
use Rattle.std.specs.Prelude.{◌&&◌, ◌||◌, ◌==◌, not, is_some, slice_get}
use Rattle.std.specs.List.{list_any}
use Rattle.std.proofs.lemmas.Bool.{or_left}
use Rattle.std.proofs.lemmas.Option.{same_Some}
use Rattle.chain_defs.specs.Schema.{OutPoint, CellOutput, Transaction, Block}
use Rattle.chain_defs.specs.Hashes.{transaction_hash, are_distinct}
use Rattle.chain_defs.specs.Cell.{Cell}
use Rattle.chain_defs.proofs.WalkLemmas.{drop-there}
use Rattle.rule_defs.specs.Cellbase.{is_cellbase, begins_with_cellbase, has_cellbase, is_well_formed_cellbase, is_first_well_formed, forms_cellbase}

-- what is asked of each output and of each data
abbrev pub is_untyped : CellOutput → Bool
is_untyped output = not (is_some output.type_script)

abbrev pub is_empty : List ℕ → Bool
is_empty content = length content == 0

-- ---- The only input

-- ---- The first transaction

pub any-here : (test : Transaction → Bool) (txs : List Transaction) (i : ℕ) (tx : Transaction) → slice_get txs i ≡ Some tx → test tx ≡ true
    → list_any test (drop i txs) ≡ true
any-here test txs i tx there passes = ap (list_any test) (drop-there txs i tx there) ∙ or_left (test tx) (list_any test (drop (i + 1) txs)) passes

pub any-after_cellbase : (test : Transaction → Bool) (txs : List Transaction) (i : ℕ) (tx : Transaction) → slice_get txs i ≡ Some tx → test tx ≡ false
    → list_any test (drop i txs) ≡ list_any test (drop (i + 1) txs)
any-after_cellbase test txs i tx there fails =
    ap (list_any test) (drop-there txs i tx there) ∙ ap (λ (t : Bool). t || list_any test (drop (i + 1) txs)) fails

-- the first is a cellbase and no later one is
pub begins : (txs : List Transaction) (first : Transaction) → slice_get txs 0 ≡ Some first
    → begins_with_cellbase txs ≡ (is_cellbase first && not (list_any is_cellbase (drop 1 txs)))
begins [] first there = absurd (cc)
begins (tx ∷ later) first there = ap (λ (t : Transaction). is_cellbase t && not (list_any is_cellbase later)) (same_Some tx first there)

pub begins-not : (txs : List Transaction) → length txs ≡ 0 → begins_with_cellbase txs ≡ false
begins-not [] none = refl
begins-not (tx ∷ later) none = absurd (omega (arith, none))

pub no-cellbase : (b : Block) → begins_with_cellbase b.transactions ≡ false → false ≡ has_cellbase b
unfolding has_cellbase
no-cellbase b is = sym (ap (λ (t : Bool). t && are_distinct (map transaction_hash b.transactions)) is)

pub one-cellbase : (b : Block) → begins_with_cellbase b.transactions ≡ true → are_distinct (map transaction_hash b.transactions) ≡ has_cellbase b
unfolding has_cellbase
one-cellbase b is = sym (ap (λ (t : Bool). t && are_distinct (map transaction_hash b.transactions)) is)

-- ---- The live cells

pub any-same : (p q : OutPoint → Bool) → ((o : OutPoint) → p o ≡ q o) → (os : List OutPoint) → list_any p os ≡ list_any q os
any-same p q same [] = refl
any-same p q same (o ∷ os) = ap (λ (t : Bool). t || list_any p os) (same o) ∙ ap (λ (rest : Bool). q o || rest) (any-same p q same os)

-- ---- The form

pub no-first : (live : OutPoint → Option Cell) (b : Block) → length b.transactions ≡ 0 → false ≡ forms_cellbase live b
unfolding forms_cellbase
no-first live b none = on b.transactions none
  where
    on : (txs : List Transaction) → length txs ≡ 0 → false ≡ is_first_well_formed live b.header.number txs
    on [] none = refl
    on (tx ∷ later) none = absurd (omega (arith, none))

pub first-formed : (live : OutPoint → Option Cell) (b : Block) (first : Transaction) → slice_get b.transactions 0 ≡ Some first
    → is_well_formed_cellbase live b.header.number first ≡ forms_cellbase live b
unfolding forms_cellbase
first-formed live b first there = on b.transactions there
  where
    on : (txs : List Transaction) → slice_get txs 0 ≡ Some first
        → is_well_formed_cellbase live b.header.number first ≡ is_first_well_formed live b.header.number txs
    on [] there = absurd (cc)
    on (tx ∷ later) there = ap (is_well_formed_cellbase live b.header.number) (sym (same_Some tx first there))
