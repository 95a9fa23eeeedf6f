-- The text of objects row by row, and of lists item by item.
use Rattle.std.proofs.Common.{◌≡◌, ℕ, zero, suc, ◌+◌, ◌<◌, ◌≤◌, Bool, true, false, List, [], ◌∷◌, ◌++◌, length, map, drop, refl, sym, ap, subst, ◌∙◌, arith, append_assoc, add-one, drop-cons, lt-ltb}
use Rattle.std.specs.Prelude.{Some, slice_get, nat_lt}
use Rattle.std.proofs.lemmas.Option.{slice_get_within, get_or_from_slice_get}
use Rattle.std.proofs.lemmas.List.{drop_all}
use Rattle.serde_json.specs.Data.{Data, array, object, item, Members, no_members, member}
use Rattle.serde_json.specs.Written.{compact_text, members_text, items_text, comma_if}
use Rattle.json_defs.specs.Form.{items}
use Rattle.json_blocks.specs.declared.text.Text.{Text}
use Rattle.json_blocks.specs.Text.{key_text, Puts, PutsTree, PutsRow}
use Rattle.json_blocks.proofs.Plain.{puts_more, puts_same}

-- the members after another one, with the end of their object
pub record PutsFurther (old new : Text) (ms : Members) : Type 0 where
  pub is : Puts old new (members_text true ms)

-- the first row of an object, and all after it
pub first_row : {a b c : Text} {key : List ℕ} {d : Data} {ms : Members}
    → PutsRow a b 123 key d → PutsFurther b c ms → PutsTree a c (object (member key d ms))
first_row here behind = record { is = puts_same (simp append_assoc) (puts_more here.is behind.is) }

-- a further row, and all after it
pub next_row : {a b c : Text} {key : List ℕ} {d : Data} {ms : Members}
    → PutsRow a b 44 key d → PutsFurther b c ms → PutsFurther a c (member key d ms)
next_row here behind = record { is = puts_same (simp append_assoc) (puts_more here.is behind.is) }

-- the end of an object
pub no_row : {a b : Text} → Puts a b (125 ∷ []) → PutsFurther a b no_members
no_row end = record { is = end }

-- a key, and then its value
pub keyed : {a b c : Text} {d : Data} (mark : ℕ) (key : List ℕ)
    → Puts a b (key_text mark key) → PutsTree b c d → PutsRow a c mark key d
keyed mark key first then = record { is = puts_more first then.is }

-- the same of an equal tree
pub same_row : {a b : Text} {mark : ℕ} {key : List ℕ} {d e : Data} → d ≡ e → PutsRow a b mark key d → PutsRow a b mark key e
same_row {a} {b} {mark} {key} is put = subst (λ (t : Data). PutsRow a b mark key t) is put

-- ---- lists

-- the text up to an item, before that of the items which are left
pub record Lists (start now : Text) (later : Bool) (ds left : List Data) : Type 0 where
  pub is : now.short ≡ false → (start.short ≡ false) × (now.bytes.items ++ items_text later (items (λ d. d) left) ≡ start.bytes.items ++ compact_text (array (items (λ d. d) ds)))

pub list_begins : {a b : Text} (ds : List Data) → Puts a b (91 ∷ []) → Lists a b false ds ds
list_begins {a} {b} ds put = record {
  is = λ long. (
      let here = put.is long in
      (here.0, ap (λ (l : List ℕ). l ++ items_text false (items (λ d. d) ds)) here.1 ∙ append_assoc a.bytes.items (91 ∷ []) (items_text false (items (λ d. d) ds))));
}

-- an item more
pub list_goes_on : {a b c e : Text} (ds : List Data) (i : ℕ) (d : Data) → slice_get ds i ≡ Some d
    → Lists a b (nat_lt 0 i) ds (drop i ds) → Puts b c (comma_if (nat_lt 0 i)) → PutsTree c e d → Lists a e (nat_lt 0 (i + 1)) ds (drop (i + 1) ds)
list_goes_on {a} {b} {c} {e} ds i d at before comma then =
    let within : i < length ds = slice_get_within ds i d at in
    let rest : drop i ds ≡ d ∷ drop (suc i) ds = drop-cons ds i d within ∙ ap (λ (w : Data). w ∷ drop (suc i) ds) (get_or_from_slice_get ds i d d at) in
    let later : nat_lt 0 (suc i) ≡ true = lt-ltb 0 (suc i) (omega arith) in
    let others = items_text true (items (λ d. d) (drop (suc i) ds)) in
    let both = puts_more comma then.is in
    rw (add-one, later) (record {
      is = λ long. (
          let here = both.is long in
          let first = before.is here.0 in
          let tidy : (b.bytes.items ++ (comma_if (nat_lt 0 i) ++ compact_text d)) ++ others ≡ b.bytes.items ++ (comma_if (nat_lt 0 i) ++ (compact_text d ++ others)) = simp append_assoc in (
            first.0,
            ap (λ (l : List ℕ). l ++ others) here.1 ∙ tidy
                ∙ ap (λ (l : List Data). b.bytes.items ++ items_text (nat_lt 0 i) (items (λ d. d) l)) (sym rest) ∙ first.1,
          ));
    })

-- after the last item
pub list_ends : {a b c : Text} (ds : List Data) (later : Bool) (i : ℕ) → length ds ≤ i → Lists a b later ds (drop i ds) → Puts b c (93 ∷ [])
    → PutsTree a c (array (items (λ d. d) ds))
list_ends {a} {b} {c} ds later i end before put = record {
  is = record {
    is = λ long. (
        let here = put.is long in
        let first = before.is here.0 in
        (first.0, here.1 ∙ ap (λ (l : List Data). b.bytes.items ++ items_text later (items (λ d. d) l)) (sym (drop_all i ds end)) ∙ first.1));
  };
}

-- ---- a list by the trees of its items

pub item_at : (ds : List Data) (i : ℕ) → i < length ds → (d : Data) × (slice_get ds i ≡ Some d)
item_at [] i below = absurd (omega arith)
item_at (d ∷ ds) zero below = (d, refl)
item_at (d ∷ ds) (suc i) below = item_at ds i (omega arith)

items-map : {V : Type 0} (tree : V → Data) (vs : List V) → items (λ d. d) (map tree vs) ≡ items tree vs
items-map tree [] = refl
items-map tree (v ∷ vs) = ap (item (tree v)) (items-map tree vs)

slice_get-map : {V : Type 0} (tree : V → Data) (vs : List V) (i : ℕ) (v : V) → slice_get vs i ≡ Some v → slice_get (map tree vs) i ≡ Some (tree v)
slice_get-map tree [] i v at = absurd (cc)
slice_get-map tree (w ∷ vs) zero v at = (let same : w ≡ v = cc in ap (λ x. Some (tree x)) same)
slice_get-map tree (w ∷ vs) (suc i) v at = slice_get-map tree vs i v at

-- the tree of an item is what stands in its place
pub item_put : {V : Type 0} {a b : Text} (tree : V → Data) (vs : List V) (i : ℕ) (v : V) → slice_get vs i ≡ Some v → PutsTree a b (tree v)
    → (d : Data) → slice_get (map tree vs) i ≡ Some d → PutsTree a b d
item_put {V} {a} {b} tree vs i v at put d there = (let same : Some (tree v) ≡ Some d = sym (slice_get-map tree vs i v at) ∙ there in let equal : tree v ≡ d = cc in subst (λ (t : Data). PutsTree a b t) equal put)

-- a row that is a list of these values
pub listed : {V : Type 0} {a b : Text} {mark : ℕ} {key : List ℕ} (tree : V → Data) (vs : List V)
    → PutsRow a b mark key (array (items (λ d. d) (map tree vs))) → PutsRow a b mark key (array (items tree vs))
listed tree vs put = same_row (ap array (items-map tree vs)) put
