-- Fields that are put one after another, and the lists of items.
use Rattle.std.proofs.Common.{◌≡◌, ℕ, zero, suc, ◌+◌, ◌^◌, ◌<◌, ◌≤◌, Bool, true, false, List, [], ◌∷◌, ◌++◌, length, map, drop, slice_index, Option, Some, None, option_map, Vec, Global, refl, sym, ap, ◌∙◌, arith, append_assoc, append-nil, lt-ltb, ltb-true, ltb-false}
use Rattle.std.specs.Prelude.{if◌then◌else◌, nat_lt, slice_index_or}
use Rattle.std.specs.Int.{w32, to_le_bytes}
use Rattle.std.specs.List.{concat}
use Rattle.std.proofs.lemmas.List.{drop_all, drop_more, length-append}
use Rattle.chain_defs.specs.Molecule as molecule
use Rattle.chain_defs.proofs.MoleculeLaws.{concat-append, length-dynvec}
use Rattle.serde_json.specs.Data.{Data, Items}
use Rattle.serde_json.specs.View.{view, items_view}
use Rattle.serde_json.specs.declared.value.Value.{Value}
use Rattle.json_blocks.specs.declared.stop.JsonStop.{JsonStop}
use Rattle.json_blocks.specs.declared.stop.JsonStop.TheVariants as stops
use Rattle.json_blocks.specs.Reading.{◌>>=◌, Fails, pushed, at_place, placed, table_from, array_items, items_at, fixvec_at, dynvec_at}

not_below : (n m : ℕ) → m ≤ n → nat_lt n m ≡ false
not_below n m more = by (nat_lt n m) refl
  where
    by : (b : Bool) → nat_lt n m ≡ b → b ≡ false
    by true is = absurd (let less : n < m = ltb-true n m is in omega (arith, less, more))
    by false is = refl

at_least : (n m : ℕ) → nat_lt n m ≡ false → m ≤ n
at_least n m is = ltb-false n m is

-- what fails where a part fails
pub fails_so : {A B : Type 0} (stop : JsonStop) (o : Option A) (whole : Option B) → Fails stop o → (o ≡ None → whole ≡ None) → Fails stop whole
fails_so stops.Bad o whole fails so = so fails
fails_so stops.NoMemory o whole fails so = tt

-- ---- sizes

size-more : (done rest : List (List ℕ)) (field : List ℕ) → molecule.full_size done + 4 + length field ≤ molecule.full_size (done ++ field ∷ rest)
unfolding molecule.full_size molecule.header_size
size-more done rest field =
    omega (arith, length-append done (field ∷ rest), ap length (concat-append done (field ∷ rest)), length-append (concat done) (concat (field ∷ rest)), length-append field (concat rest))

test_none : {X : Type 0} (t : Bool) (x : X) → (if t then Some x else None) ≡ None → t ≡ false
test_none true x h = absurd (cc)
test_none false x h = refl

test_some : {X : Type 0} (t : Bool) (x y : X) → (if t then Some x else None) ≡ Some y → (t ≡ true) × (x ≡ y)
test_some true x y h = (refl, cc)
test_some false x y h = absurd (cc)

-- a field too many: no table
pub too_long : (done rest : List (List ℕ)) (field : List ℕ) (all : List (List ℕ)) → pushed done field ≡ None → done ++ field ∷ rest ≡ all → table_from all ≡ None
unfolding pushed table_from
too_long done rest field all none is =
    let more : 2 ^ 32 ≤ molecule.full_size done + 4 + length field = at_least _ _ (test_none _ _ none) in
    let size : molecule.full_size (done ++ field ∷ rest) ≡ molecule.full_size all = ap molecule.full_size is in
    ap (λ (b : Bool). if b then Some (molecule.dynvec all) else None) (not_below (molecule.full_size all) (2 ^ 32) (omega (arith, more, size, size-more done rest field)))

pub pushed_is : (done new : List (List ℕ)) (field : List ℕ) → pushed done field ≡ Some new → new ≡ done ++ field ∷ []
unfolding pushed
pushed_is done new field some = sym (test_some _ _ _ some).1

-- the table of all fields
pub table_is : (fields all : List (List ℕ)) (bytes : List ℕ) → molecule.IsDynvec bytes fields → fields ≡ all → table_from all ≡ Some bytes
unfolding table_from
table_is fields all bytes is same =
    let size : molecule.full_size all < 2 ^ 32 = (let h = is.size in omega (arith, h, ap length is.encoding, length-dynvec fields, ap molecule.full_size same)) in
    ap (λ (b : Bool). if b then Some (molecule.dynvec all) else None) (lt-ltb _ _ size) ∙ ap Some (sym (is.encoding ∙ ap molecule.dynvec same))

-- ---- the fields at places, one after another

-- a field more, of those that are left
pub next_placed : (done all fields : List (List ℕ)) (f : List ℕ) (places : List ℕ) (i : ℕ) → i < length places → f ≡ at_place fields (slice_index places i)
    → done ++ placed (drop i places) fields ≡ all → done ++ f ∷ placed (drop (i + 1) places) fields ≡ all
next_placed done all fields f places i within is before =
    ap (λ (x : List ℕ). done ++ x ∷ placed (drop (i + 1) places) fields) is
    ∙ ap (λ (l : List ℕ). done ++ placed l fields) (sym (drop_more places i 0 within))
    ∙ before

pub one_more : (done new all fields : List (List ℕ)) (f : List ℕ) (places : List ℕ) (i : ℕ) → i < length places → f ≡ at_place fields (slice_index places i)
    → new ≡ done ++ f ∷ [] → done ++ placed (drop i places) fields ≡ all → new ++ placed (drop (i + 1) places) fields ≡ all
one_more done new all fields f places i within is put before =
    ap (λ (l : List (List ℕ)). l ++ placed (drop (i + 1) places) fields) put
    ∙ append_assoc done (f ∷ []) (placed (drop (i + 1) places) fields)
    ∙ next_placed done all fields f places i within is before

-- the same of all bytes side by side
pub joined_more : (done new all f : List ℕ) (fields : List (List ℕ)) (places : List ℕ) (i : ℕ) → i < length places → f ≡ at_place fields (slice_index places i)
    → new ≡ done ++ f → done ++ concat (placed (drop i places) fields) ≡ all → new ++ concat (placed (drop (i + 1) places) fields) ≡ all
joined_more done new all f fields places i within is put before =
    ap (λ (l : List ℕ). l ++ concat (placed (drop (i + 1) places) fields)) put
    ∙ append_assoc done f (concat (placed (drop (i + 1) places) fields))
    ∙ ap (λ (x : List ℕ). done ++ (x ++ concat (placed (drop (i + 1) places) fields))) is
    ∙ ap (λ (l : List ℕ). done ++ concat (placed l fields)) (sym (drop_more places i 0 within))
    ∙ before

-- the field at a place, of what holds the fields
pub place_is : (fields : List (Vec ℕ Global)) (place : ℕ) (f : Vec ℕ Global) → place < length fields → f ≡ slice_index_or fields place f
    → f.items ≡ at_place (map (λ v. v.items) fields) place
place_is [] place f within is = absurd (omega (arith, within))
place_is (v ∷ fields) zero f within is = ap (λ (x : Vec ℕ Global). x.items) is
place_is (v ∷ fields) (suc place) f within is = place_is fields place f (omega (arith, within)) is

pub no_place : (fields : List (Vec ℕ Global)) (place : ℕ) → length fields ≤ place → [] ≡ at_place (map (λ v. v.items) fields) place
no_place [] place past = refl
no_place (v ∷ fields) zero past = absurd (omega (arith, past))
no_place (v ∷ fields) (suc place) past = no_place fields place (omega (arith, past))

-- ---- lists of items

-- the encodings so far, before those of what is left
abbrev pub onto : List (List ℕ) → Option (List (List ℕ)) → Option (List (List ℕ))
onto done o = option_map (λ (bs : List (List ℕ)). done ++ bs) o

-- an item that reads
pub items_go_on : (read : Data → Option (List ℕ)) (done new : List (List ℕ)) (vs : List Value) (v : Value) (b : List ℕ) (i : ℕ) (whole : Option (List (List ℕ)))
    → drop i vs ≡ v ∷ drop (i + 1) vs → read (view v) ≡ Some b → new ≡ done ++ b ∷ []
    → onto done (items_at read (items_view (drop i vs))) ≡ whole → onto new (items_at read (items_view (drop (i + 1) vs))) ≡ whole
unfolding items_at
items_go_on read done new vs v b i whole rest is put before =
    ap (λ (l : List (List ℕ)). onto l (items_at read (items_view (drop (i + 1) vs)))) put
    ∙ more (items_at read (items_view (drop (i + 1) vs)))
    ∙ ap (λ (o : Option (List ℕ)). onto done (first o (items_at read (items_view (drop (i + 1) vs))))) (sym is)
    ∙ ap (λ (l : List Value). onto done (items_at read (items_view l))) (sym rest)
    ∙ before
  where
    first : Option (List ℕ) → Option (List (List ℕ)) → Option (List (List ℕ))
    first o others = o >>= (λ c. others >>= (λ bs. Some (c ∷ bs)))

    more : (o : Option (List (List ℕ))) → onto (done ++ b ∷ []) o ≡ onto done (first (Some b) o)
    more None = refl
    more (Some bs) = ap Some (append_assoc done (b ∷ []) bs)

-- an item that does not read
pub item_fails : (read : Data → Option (List ℕ)) (vs : List Value) (v : Value) (i : ℕ) → drop i vs ≡ v ∷ drop (i + 1) vs → read (view v) ≡ None
    → items_at read (items_view (drop i vs)) ≡ None
unfolding items_at
item_fails read vs v i rest is =
    ap (λ (l : List Value). items_at read (items_view l)) rest
    ∙ ap (λ (o : Option (List ℕ)). o >>= (λ c. items_at read (items_view (drop (i + 1) vs)) >>= (λ bs. Some (c ∷ bs)))) is

-- an item that reads, and those after it
item_reads : (read : Data → Option (List ℕ)) (vs : List Value) (v : Value) (b : List ℕ) (i : ℕ) → drop i vs ≡ v ∷ drop (i + 1) vs → read (view v) ≡ Some b
    → items_at read (items_view (drop i vs)) ≡ (items_at read (items_view (drop (i + 1) vs)) >>= (λ bs. Some (b ∷ bs)))
unfolding items_at
item_reads read vs v b i rest is =
    ap (λ (l : List Value). items_at read (items_view l)) rest
    ∙ ap (λ (o : Option (List ℕ)). o >>= (λ c. items_at read (items_view (drop (i + 1) vs)) >>= (λ bs. Some (c ∷ bs)))) is

no_item_left : (read : Data → Option (List ℕ)) (vs : List Value) (i : ℕ) → length vs ≤ i → items_at read (items_view (drop i vs)) ≡ Some []
unfolding items_at
no_item_left read vs i end = ap (λ (l : List Value). items_at read (items_view l)) (drop_all i vs end)

-- ---- a dynvec

dynvec_of : (read : Data → Option (List ℕ)) (t : Data) (ds : Items) (o : Option (List (List ℕ))) → array_items t ≡ Some ds → items_at read ds ≡ o
    → dynvec_at read t ≡ (o >>= table_from)
unfolding dynvec_at
dynvec_of read t ds o is items =
    ap (λ (a : Option Items). a >>= (λ ds. items_at read ds >>= table_from)) is ∙ ap (λ (a : Option (List (List ℕ))). a >>= table_from) items

pub dynvec_fails : (read : Data → Option (List ℕ)) (t : Data) (vs : List Value) (v : Value) (done : List (List ℕ)) (i : ℕ)
    → array_items t ≡ Some (items_view vs) → onto done (items_at read (items_view (drop i vs))) ≡ items_at read (items_view vs)
    → drop i vs ≡ v ∷ drop (i + 1) vs → read (view v) ≡ None → dynvec_at read t ≡ None
dynvec_fails read t vs v done i is before rest fails =
    dynvec_of read t (items_view vs) None is (sym before ∙ ap (onto done) (item_fails read vs v i rest fails))

pub dynvec_too_long : (read : Data → Option (List ℕ)) (t : Data) (vs : List Value) (v : Value) (b : List ℕ) (done : List (List ℕ)) (i : ℕ)
    → array_items t ≡ Some (items_view vs) → onto done (items_at read (items_view (drop i vs))) ≡ items_at read (items_view vs)
    → drop i vs ≡ v ∷ drop (i + 1) vs → read (view v) ≡ Some b → pushed done b ≡ None → dynvec_at read t ≡ None
dynvec_too_long read t vs v b done i is before rest reads long =
    by (items_at read (items_view (drop (i + 1) vs))) (ap (onto done) (sym (item_reads read vs v b i rest reads)) ∙ before)
  where
    by : (o : Option (List (List ℕ))) → onto done (o >>= (λ bs. Some (b ∷ bs))) ≡ items_at read (items_view vs) → dynvec_at read t ≡ None
    by None whole = dynvec_of read t (items_view vs) None is (sym whole)
    by (Some bs) whole = dynvec_of read t (items_view vs) (Some (done ++ b ∷ bs)) is (sym whole) ∙ too_long done bs b (done ++ b ∷ bs) long refl

pub dynvec_is : (read : Data → Option (List ℕ)) (t : Data) (vs : List Value) (done : List (List ℕ)) (i : ℕ) (bytes : List ℕ)
    → array_items t ≡ Some (items_view vs) → onto done (items_at read (items_view (drop i vs))) ≡ items_at read (items_view vs)
    → length vs ≤ i → molecule.IsDynvec bytes done → dynvec_at read t ≡ Some bytes
dynvec_is read t vs done i bytes is before end made =
    dynvec_of read t (items_view vs) (Some (done ++ [])) is (sym before ∙ ap (onto done) (no_item_left read vs i end))
    ∙ table_is done (done ++ []) bytes made (sym (append-nil done))

-- ---- a fixvec

-- the bytes so far, before the encodings of what is left
abbrev pub flat : List ℕ → Option (List (List ℕ)) → Option (List ℕ)
flat front o = option_map (λ (bs : List (List ℕ)). front ++ concat bs) o

pub flat_goes_on : (read : Data → Option (List ℕ)) (front new : List ℕ) (vs : List Value) (v : Value) (b : List ℕ) (i : ℕ) (whole : Option (List ℕ))
    → drop i vs ≡ v ∷ drop (i + 1) vs → read (view v) ≡ Some b → new ≡ front ++ b
    → flat front (items_at read (items_view (drop i vs))) ≡ whole → flat new (items_at read (items_view (drop (i + 1) vs))) ≡ whole
flat_goes_on read front new vs v b i whole rest is put before =
    ap (λ (l : List ℕ). flat l (items_at read (items_view (drop (i + 1) vs)))) put
    ∙ more (items_at read (items_view (drop (i + 1) vs)))
    ∙ ap (flat front) (sym (item_reads read vs v b i rest is))
    ∙ before
  where
    more : (o : Option (List (List ℕ))) → flat (front ++ b) o ≡ flat front (o >>= (λ bs. Some (b ∷ bs)))
    more None = refl
    more (Some bs) = ap Some (append_assoc front b (concat bs))

-- as many encodings as items
items-length : (read : Data → Option (List ℕ)) (vs : List Value) (bs : List (List ℕ)) → items_at read (items_view vs) ≡ Some bs → length bs ≡ length vs
unfolding items_at
items-length read [] [] is = refl
items-length read [] (b ∷ bs) is = absurd (cc)
items-length read (v ∷ vs) bs is = by (read (view v)) (items_at read (items_view vs)) (λ l e. items-length read vs l e) is
  where
    by : (o : Option (List ℕ)) (others : Option (List (List ℕ))) → ((l : List (List ℕ)) → others ≡ Some l → length l ≡ length vs)
        → (o >>= (λ c. others >>= (λ l. Some (c ∷ l)))) ≡ Some bs → length bs ≡ suc (length vs)
    by None others each h = absurd (cc)
    by (Some c) None each h = absurd (cc)
    by (Some c) (Some l) each h = (let same : c ∷ l ≡ bs = cc in ap length (sym same) ∙ ap suc (each l refl))

fixvec_of : (read : Data → Option (List ℕ)) (t : Data) (ds : Items) (o : Option (List (List ℕ))) → array_items t ≡ Some ds → items_at read ds ≡ o
    → fixvec_at read t ≡ (o >>= (λ bs. if nat_lt (length bs) (2 ^ 32) then Some (molecule.fixvec bs) else None))
unfolding fixvec_at
fixvec_of read t ds o is items =
    ap (λ (a : Option Items). a >>= (λ ds. items_at read ds >>= (λ bs. if nat_lt (length bs) (2 ^ 32) then Some (molecule.fixvec bs) else None))) is
    ∙ ap (λ (a : Option (List (List ℕ))). a >>= (λ bs. if nat_lt (length bs) (2 ^ 32) then Some (molecule.fixvec bs) else None)) items

pub fixvec_too_long : (read : Data → Option (List ℕ)) (t : Data) (vs : List Value) → array_items t ≡ Some (items_view vs) → 2 ^ 32 ≤ length vs → fixvec_at read t ≡ None
fixvec_too_long read t vs is long = by (items_at read (items_view vs)) refl
  where
    by : (o : Option (List (List ℕ))) → items_at read (items_view vs) ≡ o → fixvec_at read t ≡ None
    by None e = fixvec_of read t (items_view vs) None is e
    by (Some bs) e =
        fixvec_of read t (items_view vs) (Some bs) is e
        ∙ ap (λ (b : Bool). if b then Some (molecule.fixvec bs) else None) (not_below (length bs) (2 ^ 32) (omega (arith, long, items-length read vs bs e)))

pub fixvec_fails : (read : Data → Option (List ℕ)) (t : Data) (vs : List Value) (v : Value) (front first : List ℕ) (i : ℕ)
    → array_items t ≡ Some (items_view vs) → flat front (items_at read (items_view (drop i vs))) ≡ flat first (items_at read (items_view vs))
    → drop i vs ≡ v ∷ drop (i + 1) vs → read (view v) ≡ None → fixvec_at read t ≡ None
fixvec_fails read t vs v front first i is before rest fails =
    by (items_at read (items_view vs)) refl (ap (flat front) (sym (item_fails read vs v i rest fails)) ∙ before)
  where
    by : (o : Option (List (List ℕ))) → items_at read (items_view vs) ≡ o → None ≡ flat first o → fixvec_at read t ≡ None
    by None e h = fixvec_of read t (items_view vs) None is e
    by (Some bs) e h = absurd (cc)

pub fixvec_is : (read : Data → Option (List ℕ)) (t : Data) (vs : List Value) (front first : List ℕ) (i : ℕ)
    → array_items t ≡ Some (items_view vs) → flat front (items_at read (items_view (drop i vs))) ≡ flat first (items_at read (items_view vs))
    → length vs ≤ i → length vs < 2 ^ 32 → first ≡ to_le_bytes w32 (length vs) → fixvec_at read t ≡ Some front
unfolding molecule.fixvec
fixvec_is read t vs front first i is before end short count =
    by (items_at read (items_view vs)) refl (ap (flat front) (sym (no_item_left read vs i end)) ∙ before)
  where
    by : (o : Option (List (List ℕ))) → items_at read (items_view vs) ≡ o → Some (front ++ []) ≡ flat first o → fixvec_at read t ≡ Some front
    by None e h = absurd (cc)
    by (Some bs) e h =
        let many : length bs ≡ length vs = items-length read vs bs e in
        let whole : front ++ [] ≡ first ++ concat bs = cc in
        let begins : first ≡ to_le_bytes w32 (length bs) = count ∙ ap (to_le_bytes w32) (sym many) in
        fixvec_of read t (items_view vs) (Some bs) is e
        ∙ ap (λ (b : Bool). if b then Some (molecule.fixvec bs) else None) (lt-ltb (length bs) (2 ^ 32) (omega (arith, short, many)))
        ∙ ap Some (sym (sym (append-nil front) ∙ whole ∙ ap (λ (l : List ℕ). l ++ concat bs) begins))
