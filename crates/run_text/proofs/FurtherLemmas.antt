-- How far an input was read where its reading ended, or was stopped.
use Rattle.std.proofs.Common.{◌≡◌, ◌⊎◌, inl, inr, ℕ, List, [], ◌++◌, length, ap, sym, ◌∙◌, subst, arith, append-nil}
use Rattle.std.specs.Prelude.{Option, Some, None}
use Rattle.std.specs.List.{concat}
use Rattle.std.proofs.lemmas.Bool.Decides.{nat_tests}
use Rattle.report_defs.specs.declared.end.End.TheVariants.{AtEnd, Extra}
use Rattle.report_defs.specs.Items.{Limits, Split, IsItem, AreItems, IsWithin, end_at, split_of, ReadsNoFurther, EndsTheReading, bytes_at_end}
use Rattle.report_defs.proofs.ItemLemmas.{split_of-is, end_at-nothing}
use Rattle.run_text.specs.Items.{IsPartial, IsItemAt}

byte_is_extra : (input : Option ℕ) (offset : ℕ) (byte : List ℕ) → length byte ≡ 1 → end_at None input offset byte ≡ Some Extra
unfolding end_at
byte_is_extra input offset byte one = grind (arith, nat_tests)

module _ (limits : Limits) (items : List (List ℕ)) (all : AreItems limits 0 items) (within : IsWithin limits.input (length (concat items))) where
  -- items alone
  pub items_no_further : (whole : List ℕ) → whole ≡ concat items → ReadsNoFurther limits whole
  items_no_further whole whole_is = subst (λ (s : Split). EndsTheReading limits s) (sym split) (λ at. absurd at)
    where
      split : split_of limits whole ≡ record { items = items; rest = []; end = AtEnd }
      split = split_of-is limits whole (record { items = items; rest = []; end = AtEnd }) (record {
        whole = whole_is ∙ sym (append-nil (concat items));
        items = all;
        within = within;
        ends = end_at-nothing (limits.item (length items)) limits.input (length (concat items));
      })

  -- bytes after them that hold no whole item
  pub partial_no_further : (limit offset : ℕ) (given whole : List ℕ) → whole ≡ concat items ++ given → limits.item (length items) ≡ Some limit
      → offset ≡ length (concat items) → IsPartial limit limits.input offset given → ReadsNoFurther limits whole
  partial_no_further limit offset given whole whole_is limit_is offset_is partial =
      subst (λ (s : Split). EndsTheReading limits s) (sym split) (λ at. partial.word at ∙ sym (ap bytes_at_end limit_is))
    where
      split : split_of limits whole ≡ record { items = items; rest = given; end = partial.end }
      split = split_of-is limits whole (record { items = items; rest = given; end = partial.end }) (record {
        whole = whole_is;
        items = all;
        within = within;
        ends = ap (λ (l : Option ℕ). end_at l limits.input (length (concat items)) given) limit_is
            ∙ ap (λ (n : ℕ). end_at (Some limit) limits.input n given) (sym offset_is) ∙ partial.ends;
      })

  -- the reading was stopped inside the item after them, or at its end
  pub stopped_no_further : (limit offset : ℕ) (given whole : List ℕ) → whole ≡ concat items ++ given → limits.item (length items) ≡ Some limit
      → offset ≡ length (concat items) → (IsItem limit given → ReadsNoFurther limits whole)
      → IsPartial limit limits.input offset given ⊎ IsItemAt limit limits.input offset given given → ReadsNoFurther limits whole
  stopped_no_further limit offset given whole whole_is limit_is offset_is all_of_it (inl partial) =
      partial_no_further limit offset given whole whole_is limit_is offset_is partial
  stopped_no_further limit offset given whole whole_is limit_is offset_is all_of_it (inr item) = all_of_it item.is_item

  -- a byte after them where no item is taken
  pub byte_no_further : (byte whole : List ℕ) → whole ≡ concat items ++ byte → limits.item (length items) ≡ None → length byte ≡ 1 → ReadsNoFurther limits whole
  byte_no_further byte whole whole_is none_is one =
      subst (λ (s : Split). EndsTheReading limits s) (sym split) (λ at. one ∙ sym (ap bytes_at_end none_is))
    where
      split : split_of limits whole ≡ record { items = items; rest = byte; end = Extra }
      split = split_of-is limits whole (record { items = items; rest = byte; end = Extra }) (record {
        whole = whole_is;
        items = all;
        within = within;
        ends = ap (λ (l : Option ℕ). end_at l limits.input (length (concat items)) byte) none_is ∙ byte_is_extra limits.input (length (concat items)) byte one;
      })
