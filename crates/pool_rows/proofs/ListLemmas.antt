-- The vectors of a block, made one after another.
use Rattle.std.proofs.Common.{◌≡◌, ℕ, ◌+◌, ◌*◌, ◌^◌, ◌<◌, ◌≤◌, List, [], ◌∷◌, ◌++◌, length, map, drop, Vec, Global, Result, Ok, Err, refl, sym, ap, ◌∙◌, subst, append_assoc, append-nil, arith}
use Rattle.std.specs.Prelude.{IsTrue, IfOk, sum_by}
use Rattle.std.specs.Int.{w32, to_le_bytes}
use Rattle.std.specs.List.{concat}
use Rattle.std.proofs.lemmas.Bool.{and_from, lt-ltb}
use Rattle.std.proofs.lemmas.List.{drop_all}
use Rattle.chain_defs.specs.Molecule as molecule
use Rattle.chain_defs.specs.Molecule.{IsDynvec}
use Rattle.chain_defs.proofs.MoleculeLaws.{length-dynvec}
use Rattle.chain_defs.specs.Shape.{IsEncoding, encoded, parts, all_fit, fixvec}
use Rattle.chain_defs.specs.Schema.{Transaction, transaction, proposal_short_id}

-- ---- The transactions

abbrev pub with_offset : Transaction → ℕ
with_offset t = 4 + length (encoded transaction t)

-- What is written of transactions, and what is left of them from a place on, are all.
pub record AreListed (ts : List Transaction) (place : ℕ) (items : List (List ℕ)) : Type 0 where
  pub items_are : items ++ parts (map transaction.encoding (drop place ts)) ≡ parts (map transaction.encoding ts)
  pub fit : IsTrue (all_fit (map transaction.encoding (drop place ts))) → IsTrue (all_fit (map transaction.encoding ts))
  pub size : molecule.full_size items + sum_by with_offset (drop place ts) ≡ 4 + sum_by with_offset ts

size-listed : (ts : List Transaction) (place : ℕ) (items : List (List ℕ)) → AreListed ts place items → length ts ≤ place
    → molecule.full_size items ≡ 4 + sum_by with_offset ts
size-listed ts place items so_far past =
    let none = ap (sum_by with_offset) (drop_all place ts past) in
    omega (arith, none, so_far.size)

pub length-listed : {E : Type 0} (ts : List Transaction) (place : ℕ) (items : List (List ℕ)) (result : Result (Vec ℕ Global) E) → AreListed ts place items
    → length ts ≤ place → IfOk result (λ bytes. IsDynvec bytes.items items) → IfOk result (λ bytes. length bytes.items ≡ 4 + sum_by with_offset ts)
length-listed ts place items (Ok bytes) so_far past is = ap length is.encoding ∙ length-dynvec items ∙ size-listed ts place items so_far past
length-listed ts place items (Err stop) so_far past is = tt

-- ---- The proposal ids

-- What is written of ids after their count, and what is left of them from a place on, are all.
pub record AreWritten (ids : List (List ℕ)) (place : ℕ) (bytes : List ℕ) : Type 0 where
  pub bytes_are : bytes ++ concat (drop place ids) ≡ to_le_bytes w32 (length ids) ++ concat ids
  pub fit : IsTrue (all_fit (map proposal_short_id.encoding (drop place ids))) → IsTrue (all_fit (map proposal_short_id.encoding ids))
  pub size : length bytes + 10 * length (drop place ids) ≡ 4 + 10 * length ids

pub one-written : (ids : List (List ℕ)) (place : ℕ) (bytes more id : List ℕ) → AreWritten ids place bytes → drop place ids ≡ id ∷ drop (place + 1) ids
    → IsEncoding proposal_short_id id id → more ≡ bytes ++ id → length more ≡ length bytes + 10 → AreWritten ids (place + 1) more
one-written ids place bytes more id so_far left is grown long = record {
  bytes_are = ap (λ (list : List ℕ). list ++ concat (drop (place + 1) ids)) grown
      ∙ append_assoc bytes id (concat (drop (place + 1) ids))
      ∙ ap (λ (list : List (List ℕ)). bytes ++ concat list) (sym left)
      ∙ so_far.bytes_are;
  fit = λ later. so_far.fit (subst (λ (list : List (List ℕ)). IsTrue (all_fit (map proposal_short_id.encoding list))) (sym left)
      (and_from _ _ is.fits later));
  size =
      let before = so_far.size in
      let first = ap (λ (list : List (List ℕ)). length list) left in
      omega (arith, before, first, long);
}

same-parts : (ids : List (List ℕ)) → parts (map proposal_short_id.encoding ids) ≡ ids
same-parts [] = refl
same-parts (id ∷ ids) = ap (λ (list : List (List ℕ)). id ∷ list) (same-parts ids)

encoding-of : (ids : List (List ℕ)) → encoded (fixvec 10 proposal_short_id) ids ≡ to_le_bytes w32 (length ids) ++ concat ids
unfolding molecule.fixvec
encoding-of ids = ap (λ (list : List (List ℕ)). to_le_bytes w32 (length list) ++ concat list) (same-parts ids)

pub all-written : (ids : List (List ℕ)) (place : ℕ) (bytes : List ℕ) → AreWritten ids place bytes → length ids ≤ place → length ids < 2 ^ 32
    → IsEncoding (fixvec 10 proposal_short_id) bytes ids
all-written ids place bytes so_far past few =
    let none = drop_all place ids past in
    record {
      fits = and_from _ _ (lt-ltb _ _ few)
          (so_far.fit (subst (λ (list : List (List ℕ)). IsTrue (all_fit (map proposal_short_id.encoding list))) (sym none) refl));
      encoding = sym (append-nil bytes) ∙ ap (λ (list : List (List ℕ)). bytes ++ concat list) (sym none) ∙ so_far.bytes_are ∙ sym (encoding-of ids);
    }
