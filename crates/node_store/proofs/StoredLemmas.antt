-- What a body says, and what a disk tells of the entries of a tree.
use Rattle.std.proofs.Common.{◌≡◌, ℕ, zero, suc, ◌+◌, ◌-◌, ◌<◌, ◌≤◌, Bool, true, false, cond, leb, List, [], ◌∷◌, length, map, take, drop, Option, Some, None, Result, Err, refl, sym, ap, subst, ◌∙◌, arith, inl, inr}
use Rattle.std.specs.Prelude.{◌&&◌, slice_get, IfSome, is_some, IsSome, IsSomeAnd}
use Rattle.std.specs.Option.{option_map, option_and_then}
use Rattle.std.proofs.lemmas.Bool.{and_parts, leb-true}
use Rattle.std.proofs.lemmas.List.{length-take-le, length-drop}
use Rattle.chain_defs.specs.Shape.{decoded}
use Rattle.chain_defs.specs.Schema.{Transaction, Block, block}
use Rattle.chain_defs.specs.Hashes.{transaction_hash, proposal_id}
use Rattle.cell_state.specs.ListBlocks.{IsCanonical}
use Rattle.cell_state.proofs.ListBlockLemmas.{decoding-is}
use Rattle.chain_defs.specs.Ext.{count_at, is_ext}
use Rattle.outside.specs.Image.{Image}
use Rattle.outside.specs.declared.disk.Area.TheVariants.{Log}
use Rattle.outside.specs.declared.disk.Damage.{Damage}
use Rattle.outside.specs.declared.disk.ReadStop.{ReadStop}
use Rattle.chain_defs.proofs.KeptLaws.{slice_get-below}
use Rattle.disk_defs.specs.Log.{parts_of_body}
use Rattle.chain_tree.specs.Told.{Stored}
use Rattle.chain_tree.specs.declared.entry.Entry.{Entry}
use Rattle.chain_tree.specs.Entries.{entry_at}
use Rattle.node_store.specs.Stored.{with_ext, parts_in, beside, stored_in, stored_of, stored_at, put_first, all_stored, all_stored-length, known_by}
use Rattle.node_store.specs.Held.{held_at, Holds, NothingNew, OnlyAdds, IsKept}
use Rattle.node_store.proofs.HeldLemmas.{found-held}

-- ---- Proposal ids by hashes

images : (transactions : List Transaction) → map (take 10) (map transaction_hash transactions) ≡ map proposal_id transactions
images [] = refl
images (t ∷ later) = ap (λ (l : List (List ℕ)). proposal_id t ∷ l) (images later)

pub ids-by : (transactions : List Transaction) → map (take 10) (drop 1 (map transaction_hash transactions)) ≡ map proposal_id (drop 1 transactions)
ids-by [] = refl
ids-by (t ∷ later) = images later

-- ---- The parts of a body

chosen : {T : Type 0} (test : Bool) (v w : T) → cond test (Some v) None ≡ Some w → (test ≡ true) × (v ≡ w)
chosen true v w is = (refl, cc)
chosen false v w is = absurd cc

-- where they lie
pub record PartsLie (body item ext : List ℕ) : Type 0 where
  pub fits : 4 + length item ≤ length body
  pub block : item ≡ take (4 + length item - 4) (drop 4 body)
  pub rest : ext ≡ drop (4 + length item) body

pub parts-lie : (body item ext : List ℕ) → parts_of_body body ≡ Some (item, ext) → PartsLie body item ext
unfolding parts_of_body
parts-lie body item ext is =
    let size : ℕ = count_at body 0 in
    let both = chosen (leb 4 (length body) && leb (4 + size) (length body)) (take size (drop 4 body), drop (4 + size) body) (item, ext) is in
    let tests = and_parts (leb 4 (length body)) (leb (4 + size) (length body)) both.0 in
    let reach : 4 + size ≤ length body = leb-true (4 + size) (length body) tests.1 in
    let first : take size (drop 4 body) ≡ item = ap (λ p. p.0) both.1 in
    let second : drop (4 + size) body ≡ ext = ap (λ p. p.1) both.1 in
    let left : length (drop 4 body) ≡ length body - 4 = length-drop 4 body in
    let long : length item ≡ size = ap length (sym first) ∙ length-take-le size (drop 4 body) (omega (arith, reach, left)) in
    record {
      fits = omega (arith, reach, long);
      block = sym first ∙ ap (λ (n : ℕ). take n (drop 4 body)) (omega (arith, long));
      rest = sym second ∙ ap (λ (n : ℕ). drop n body) (omega (arith, long));
    }

-- the parts of a body after the genesis
pub later-parts : (place : ℕ) (body item ext : List ℕ) → (place ≡ 0 → ⊥) → parts_of_body body ≡ Some (item, ext) → is_ext ext ≡ true
    → parts_in place body ≡ Some (item, ext)
later-parts zero body item ext later is form = absurd (later refl)
later-parts (suc place) body item ext later is form = ap (option_and_then with_ext) is ∙ rw form refl

-- the kept block in a body, of its parts
pub body-read : (place : ℕ) (body item ext : List ℕ) (b : Block) → Some (item, ext) ≡ parts_in place body → decoded block item ≡ Some b
    → Some (beside ext (block.decoding item)) ≡ stored_in place body
body-read place body item ext b parts is =
    ap (λ (it : Block). Some (beside ext it)) (decoding-is item b is) ∙ sym (ap (option_map (beside ext)) is)
    ∙ ap (option_and_then (λ them. option_map (beside them.1) (decoded block them.0))) parts

pub is-canonical : (item : List ℕ) (b : Block) → decoded block item ≡ Some b → IsCanonical item
is-canonical item b is = ap is_some is

-- ---- What a disk tells

pub put_first-at : (first : Option Stored) (later : Option (List Stored)) (stored : List Stored) → put_first first later ≡ Some stored
    → (it : Stored) × (rest : List Stored) × (first ≡ Some it) × (later ≡ Some rest) × (it ∷ rest ≡ stored)
put_first-at None later stored is = absurd cc
put_first-at (Some it) None stored is = absurd cc
put_first-at (Some it) (Some rest) stored is = (it, rest, refl, refl, cc)

-- what is known for a place is what LOG has for the entry there
pub all_stored-at : (image : Image) (place e : ℕ) (entries : List Entry) (stored : List Stored) → all_stored image place entries ≡ Some stored
    → option_and_then (stored_of image (place + e)) (entry_at entries e) ≡ slice_get stored e
all_stored-at image place e [] [] is = refl
all_stored-at image place e [] (first ∷ rest) is = absurd cc
all_stored-at image place zero (entry ∷ entries) stored is =
    let put = put_first-at (stored_of image place entry) (all_stored image (suc place) entries) stored is in
    ap (λ (n : ℕ). stored_of image n entry) (omega arith) ∙ put.2 ∙ ap (λ (l : List Stored). slice_get l 0) put.4
all_stored-at image place (suc e) (entry ∷ entries) stored is =
    let put = put_first-at (stored_of image place entry) (all_stored image (suc place) entries) stored is in
    ap (λ (n : ℕ). option_and_then (stored_of image n) (entry_at entries e)) (omega arith)
    ∙ all_stored-at image (suc place) e entries put.1 put.3 ∙ ap (λ (l : List Stored). slice_get l (suc e)) put.4

pub stored-at : (image : Image) (entries : List Entry) (stored : List Stored) (e : ℕ) → all_stored image 0 entries ≡ Some stored
    → stored_at image entries e ≡ slice_get stored e
stored-at image entries stored e is =
    ap (λ (n : ℕ). option_and_then (stored_of image n) (entry_at entries e)) (omega arith) ∙ all_stored-at image 0 e entries stored is

told-at : (image : Image) (entries : List Entry) (e : ℕ) (it : Stored) (P : Stored → Type 0) (told : Option (List Stored)) → all_stored image 0 entries ≡ told
    → stored_at image entries e ≡ Some it → P it → IfSome told (λ stored. IfSome (slice_get stored e) P)
told-at image entries e it P None is there holds = tt
told-at image entries e it P (Some stored) is there holds = at_place (slice_get stored e) refl
  where
    at_place : (found : Option Stored) → slice_get stored e ≡ found → IfSome found P
    at_place None none = tt
    at_place (Some other) found =
        let same : Some it ≡ Some other = sym there ∙ stored-at image entries stored e is ∙ found in
        subst P (same_one same) holds
      where
        same_one : Some it ≡ Some other → it ≡ other
        same_one same = cc

-- what is held for an entry is what is known of it
pub held-told : (reads : Option Image) (entries : List Entry) (held : List (ℕ × Stored)) (hand : Option ℕ) (e : ℕ) (it : Stored) (P : Stored → Type 0)
    → IfSome reads (IsKept entries held) → hand ≡ Some e → Holds held e it → P it
    → IfSome (known_by reads entries) (λ stored. IfSome hand (λ place. IfSome (slice_get stored place) P))
held-told None entries held hand e it P kept is holds so = tt
held-told (Some image) entries held hand e it P kept is holds so =
    subst (λ (o : Option ℕ). IfSome (all_stored image 0 entries) (λ stored. IfSome o (λ place. IfSome (slice_get stored place) P))) (sym is)
    (told-at image entries e it P (all_stored image 0 entries) refl (kept e it holds) so)

-- what is so of what is held for the current entry is so of what is known of it
pub hand-told : (reads : Option Image) (entries : List Entry) (held : List (ℕ × Stored)) (hand : Option ℕ) (e : ℕ) (P : Stored → Type 0)
    → IfSome reads (IsKept entries held) → hand ≡ Some e → IsSome (held_at held e) → IfSome (held_at held e) P
    → IfSome (known_by reads entries) (λ stored. IfSome hand (λ place. IfSome (slice_get stored place) P))
hand-told reads entries held hand e P kept is there so = by_held (held_at held e) refl there so
  where
    by_held : (found : Option Stored) → held_at held e ≡ found → IsSome found → IfSome found P
        → IfSome (known_by reads entries) (λ stored. IfSome hand (λ place. IfSome (slice_get stored place) P))
    by_held None none is_some holds = absurd cc
    by_held (Some it) found is_some holds = held-told reads entries held hand e it P kept is (found-held held e it found) holds

-- ---- What is held stays what LOG has

pub kept-promoted : (reads after : Option Image) (entries : List Entry) (old new : List (ℕ × Stored)) → after ≡ reads → NothingNew old new
    → IfSome reads (IsKept entries old) → IfSome after (IsKept entries new)
kept-promoted None after entries old new same nothing kept = subst (λ (o : Option Image). IfSome o (IsKept entries new)) (sym same) tt
kept-promoted (Some image) after entries old new same nothing kept =
    subst (λ (o : Option Image). IfSome o (IsKept entries new)) (sym same) (λ e it there. kept e it (nothing e it there))

pub kept-put : (reads after : Option Image) (entries : List Entry) (old new : List (ℕ × Stored)) (e : ℕ) (it : Stored) (entry : Entry) → after ≡ reads
    → entry_at entries e ≡ Some entry → IfSome reads (λ image. stored_of image e entry ≡ Some it) → OnlyAdds e it old new
    → IfSome reads (IsKept entries old) → IfSome after (IsKept entries new)
kept-put None after entries old new e it entry same there read adds kept = subst (λ (o : Option Image). IfSome o (IsKept entries new)) (sym same) tt
kept-put (Some image) after entries old new e it entry same there read adds kept =
    subst (λ (o : Option Image). IfSome o (IsKept entries new)) (sym same) (λ other found held. elim (adds other found held) [
      | inl before ↦ kept other found before
      | inr put ↦ subst (λ (k : ℕ). stored_at image entries k ≡ Some found) (sym put.0)
          (ap (option_and_then (stored_of image e)) there ∙ read ∙ ap (λ (one : Stored). Some one) (sym put.1))
    ])

pub kept-counted : (reads : Option Image) (entries : List Entry) (old new : List (ℕ × Stored)) → new ≡ old
    → IfSome reads (IsKept entries old) → IfSome reads (IsKept entries new)
kept-counted reads entries old new same kept = subst (λ (held : List (ℕ × Stored)). IfSome reads (IsKept entries held)) (sym same) kept

-- where all is known, LOG has a block for each entry
pub told-there : (reads : Option Image) (entries : List Entry) (e : ℕ) → e < length entries → IsSome (known_by reads entries)
    → IfSome reads (λ image. stored_at image entries e ≡ None) → ⊥
told-there None entries e within told missing = absurd cc
told-there (Some image) entries e within told missing = by_told (all_stored image 0 entries) refl told
  where
    by_told : (all : Option (List Stored)) → all_stored image 0 entries ≡ all → IsSome all → ⊥
    by_told None is some = absurd cc
    by_told (Some stored) is some =
        let as_many : length stored ≡ length entries = subst (λ (o : Option (List Stored)). IfSome o (λ them. length them ≡ length entries)) is (all_stored-length image 0 entries) in
        let found = slice_get-below stored e (omega (arith, within, as_many)) in
        let there = stored-at image entries stored e is ∙ found.1 in
        none_some (sym missing ∙ there)
      where
        none_some : {it : Stored} → None ≡ Some it → ⊥
        none_some is = cc

pub of_damage : (reads : Option Image) (Found : Damage → Type 0) (P : Image → Type 0) (damage : Damage) → IfSome reads (λ image. (one : Damage) → Found one → P image)
    → Found damage → IfSome reads P
of_damage None Found P damage each found = tt
of_damage (Some image) Found P damage each found = each damage found

-- ---- Why a call was stopped

pub in_log : (found : Option Entry) (damage : Damage) → IsSomeAnd found (λ entry. damage ≡ record { area = Log; at = entry.at }) → damage.area ≡ Log
in_log None damage none = absurd none
in_log (Some entry) damage is = ap (λ (d : Damage). d.area) is

abbrev pub failed : (T : Type 0) → ReadStop → Result T ReadStop
failed T stop = Err stop

pub stopped : (T : Type 0) (one other : ReadStop) → failed T one ≡ failed T other → Some one ≡ Some other
stopped T one other is = cc

pub stopped-back : (T : Type 0) (one other : ReadStop) → Some one ≡ Some other → failed T one ≡ failed T other
stopped-back T one other is = cc

pub stop-is : (one other : ReadStop) → failed Unit one ≡ failed Unit other → one ≡ other
stop-is one other is = cc
