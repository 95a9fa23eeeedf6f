-- Reading by keys: how the members of an object are begun, and how the reading goes on after each row.
use Rattle.std.proofs.Common.{◌≡◌, ℕ, Bool, true, false, List, [], ◌∷◌, ◌++◌, map, Vec, Global, Option, Some, None, inl, inr, refl, sym, ap, subst, ◌∙◌}
use Rattle.std.specs.Prelude.{is_some, IfSome, Result, Ok, Err}
use Rattle.serde_json.specs.Data.{Data, Members}
use Rattle.json_blocks.specs.declared.stop.JsonStop.{JsonStop}
use Rattle.json_blocks.specs.declared.stop.JsonStop.TheVariants as stops
use Rattle.json_blocks.specs.Reading.{◌>>=◌, Fails, take_at, end_at, array_at, hash_at, Field, value_at, hash_if, fields_at}
use Rattle.json_blocks.specs.ByKeys.{Comes, Stands, Reads, Ends, IsPut}

-- ---- the members of an object

pub begins : (stop : Option JsonStop) (left : Members) (fields : List (List ℕ)) (o : Option Members) (rows : List Field) (made : List (List ℕ) → Option (List ℕ))
    → stop ≡ None → fields ≡ [] → o ≡ Some left → Stands stop left fields rows made (o >>= (λ ms. fields_at rows made ms []))
begins None left [] o rows made fresh none is = record { is = ap (λ p. p >>= (λ ms. fields_at rows made ms [])) is }
begins None left (f ∷ fields) o rows made fresh none is = absurd (cc)
begins (Some s) left fields o rows made fresh none is = absurd (cc)

-- ---- one row

pub stuck : (stop : Option JsonStop) (ms : Members) (fields : List (List ℕ)) (row : Field) → is_some stop ≡ true → Reads stop ms fields stop ms fields row
stuck None ms fields row is = absurd (cc)
stuck (Some s) ms fields row is = record { step = λ rows made whole before. record { is = before.is } }

-- a field is put, and the reading goes on
put_step : (after : Option JsonStop) (left : Members) (done fields : List (List ℕ)) (bytes : List ℕ) (rows : List Field) (made : List (List ℕ) → Option (List ℕ)) (whole : Option (List ℕ))
    → IsPut None done after fields bytes → whole ≡ fields_at rows made left (done ++ bytes ∷ []) → Stands after left fields rows made whole
put_step after left done fields bytes rows made whole (inl none) is = subst (λ (s : Option JsonStop). Stands s left fields rows made whole) (sym none) (record { is = tt })
put_step after left done fields bytes rows made whole (inr put) is =
    subst (λ (s : Option JsonStop). Stands s left fields rows made whole) (sym put.0) (record { is = is ∙ ap (λ fs. fields_at rows made left fs) (sym put.1) })

pub went : (stop after : Option JsonStop) (ms left here : Members) (done fields : List (List ℕ)) (key : List ℕ) (read : Data → Option (List ℕ)) (d : Data) (bytes : List ℕ)
    → is_some stop ≡ false → take_at key ms ≡ Some (d, left) → read d ≡ Some bytes → IsPut stop done after fields bytes → here ≡ left → Reads stop ms done after here fields (value_at key read)
went (Some s) after ms left here done fields key read d bytes fresh taken is put same = absurd (cc)
went None after ms left here done fields key read d bytes fresh taken is put same = record {
  step = λ rows made whole before. subst (λ (l : Members). Stands after l fields rows made whole) (sym same) (put_step after left done fields bytes rows made whole put
      (before.is ∙ ap (λ o. o >>= (λ a. read a.0 >>= (λ b. fields_at rows made a.1 (done ++ b ∷ [])))) taken ∙ ap (λ o. o >>= (λ b. fields_at rows made left (done ++ b ∷ []))) is));
}

-- a value that is not read
pub unread : (stop : Option JsonStop) (ms left after : Members) (done fields : List (List ℕ)) (key : List ℕ) (read : Data → Option (List ℕ)) (d : Data) (s : JsonStop) → is_some stop ≡ false
    → take_at key ms ≡ Some (d, left) → Fails s (read d) → Reads stop ms done (Some s) after fields (value_at key read)
unread (Some r) ms left after done fields key read d s fresh taken is = absurd (cc)
unread None ms left after done fields key read d stops.Bad fresh taken is = record {
  step = λ rows made whole before. record {
    is = before.is ∙ ap (λ o. o >>= (λ a. read a.0 >>= (λ b. fields_at rows made a.1 (done ++ b ∷ [])))) taken ∙ ap (λ o. o >>= (λ b. fields_at rows made left (done ++ b ∷ []))) is;
  };
}
unread None ms left after done fields key read d stops.NoMemory fresh taken is = record { step = λ rows made whole before. record { is = tt } }

-- a member that is not there
pub untaken : (stop : Option JsonStop) (ms after : Members) (done fields : List (List ℕ)) (key : List ℕ) (read : Data → Option (List ℕ)) (s : JsonStop) → is_some stop ≡ false
    → Fails s (take_at key ms) → Reads stop ms done (Some s) after fields (value_at key read)
untaken (Some r) ms after done fields key read s fresh is = absurd (cc)
untaken None ms after done fields key read stops.Bad fresh is = record {
  step = λ rows made whole before. record { is = before.is ∙ ap (λ o. o >>= (λ a. read a.0 >>= (λ b. fields_at rows made a.1 (done ++ b ∷ [])))) is };
}
untaken None ms after done fields key read stops.NoMemory fresh is = record { step = λ rows made whole before. record { is = tt } }

-- ---- a hash of 32 bytes, where it is to stand here

pub hash-bound : (key : List ℕ) (ms : Members) (K : List ℕ × Members → Option (List ℕ))
    → (take_at key ms >>= (λ a. array_at 32 a.0 >>= (λ b. K (b, a.1)))) ≡ (hash_at true key ms >>= (λ u. K u))
hash-bound key ms K = by (take_at key ms)
  where
    inner : (a : Data × Members) (o : Option (List ℕ)) → (o >>= (λ b. K (b, a.1))) ≡ ((o >>= (λ hash. Some (hash, a.1))) >>= (λ u. K u))
    inner a None = refl
    inner a (Some b) = refl

    by : (o : Option (Data × Members)) → (o >>= (λ a. array_at 32 a.0 >>= (λ b. K (b, a.1)))) ≡ ((o >>= (λ h. array_at 32 h.0 >>= (λ hash. Some (hash, h.1)))) >>= (λ u. K u))
    by None = refl
    by (Some a) = inner a (array_at 32 a.0)

pub here : (before after : Option JsonStop) (ms left : Members) (done fields : List (List ℕ)) (is_here : Bool) (key : List ℕ) → is_here ≡ true
    → Reads before ms done after left fields (value_at key (array_at 32)) → Reads before ms done after left fields (hash_if is_here key)
here before after ms left done fields false key is reads = absurd (cc)
here before after ms left done fields true key is reads = record {
  step = λ rows made whole h. reads.step rows made whole
      (record { is = subst (λ o. Comes before o whole) (sym (hash-bound key ms (λ u. fields_at rows made u.1 (done ++ u.0 ∷ [])))) h.is });
}

pub not_here : (before after : Option JsonStop) (ms left : Members) (done fields : List (List ℕ)) (is_here : Bool) (key bytes : List ℕ) → is_here ≡ false → bytes ≡ []
    → IsPut before done after fields bytes → left ≡ ms → Reads before ms done after left fields (hash_if is_here key)
not_here before after ms left done fields true key bytes is empty put same = absurd (cc)
not_here None after ms left done fields false key bytes is empty put same = record {
  step = λ rows made whole h. subst (λ (l : Members). Stands after l fields rows made whole) (sym same)
      (put_step after ms done fields bytes rows made whole put (h.is ∙ ap (λ (f : List ℕ). fields_at rows made ms (done ++ f ∷ [])) (sym empty)));
}
not_here (Some s) after ms left done fields false key bytes is empty (inl none) same = record {
  step = λ rows made whole h. subst (λ (t : Option JsonStop). Stands t left fields rows made whole) (sym none) (record { is = tt });
}
not_here (Some s) after ms left done fields false key bytes is empty (inr put) same = record {
  step = λ rows made whole h. subst (λ (t : Option JsonStop). Stands t left fields rows made whole) (sym put.0) (record { is = h.is });
}

-- ---- the end

pub ended : {U : Type 0} (u : U) (stop : Option JsonStop) (ms : Members) (read fields : List (Vec ℕ Global)) (made : List (List ℕ) → Option (List ℕ)) (gives : Option (List ℕ) → Type 0)
    → (stop ≡ None → end_at ms ≡ Some tt) → IfSome stop (λ t. ◌≡◌ {A = Result U JsonStop} (Ok u) (Err t)) → read ≡ fields → gives (made (map (λ v. v.items) read)) → Ends stop ms (map (λ v. v.items) fields) made gives
ended u (Some s) ms read fields made gives none some same given = absurd (cc)
ended u None ms read fields made gives none some same given = record {
  whole = λ whole before.
      subst gives (ap (λ (l : List (Vec ℕ Global)). made (map (λ v. v.items) l)) same ∙ sym (before.is ∙ ap (λ o. o >>= (λ last. made (map (λ v. v.items) fields))) (none refl))) given;
}

pub not_ended : (U : Type 0) (stop : Option JsonStop) (ms : Members) (fields : List (List ℕ)) (made : List (List ℕ) → Option (List ℕ)) (s : JsonStop)
    → (stop ≡ None → Fails s (end_at ms)) → IfSome stop (λ t. ◌≡◌ {A = Result U JsonStop} (Err s) (Err t)) → Ends stop ms fields made (Fails s)
not_ended U (Some t) ms fields made s none some = (let same : t ≡ s = cc in record { whole = λ whole before. subst (λ (u : JsonStop). Fails u whole) same before.is })
not_ended U None ms fields made stops.Bad none some = record { whole = λ whole before. before.is ∙ ap (λ o. o >>= (λ last. made fields)) (none refl) }
not_ended U None ms fields made stops.NoMemory none some = record { whole = λ whole before. tt }

-- ---- a field is put

pub all_put : (old new : List (Vec ℕ Global)) (f : Vec ℕ Global) → new ≡ old ++ f ∷ [] → map (λ v. v.items) new ≡ map (λ v. v.items) old ++ f.items ∷ []
all_put old new f is = ap (λ (l : List (Vec ℕ Global)). map (λ v. v.items) l) is ∙ by old
  where
    by : (l : List (Vec ℕ Global)) → map (λ v. v.items) (l ++ f ∷ []) ≡ map (λ v. v.items) l ++ f.items ∷ []
    by [] = refl
    by (v ∷ l) = ap (λ (r : List (List ℕ)). v.items ∷ r) (by l)
