-- What was given where the reading of an item stopped.
use Rattle.std.proofs.Common.{◌≡◌, ℕ, ◌+◌, ◌≤◌, ◌<◌, ◌⊎◌, inl, inr, true, false, List, [], ◌∷◌, ◌++◌, length, take, drop, refl, ap, sym, ◌∙◌, arith, append-nil, length-append, length-drop, length-take-le, take-append-drop}
use Rattle.std.specs.Prelude.{Option, Some, None}
use Rattle.std.proofs.lemmas.Bool.Decides.{nat_tests, leb_tells}
use Rattle.std.proofs.lemmas.Grind.{common_steps}
use Rattle.std.specs.Int.{w32, from_le_bytes}
use Rattle.std.specs.Io.KnownBytes.{IsAtEnd}
use Rattle.report_defs.specs.Items.{IsWithin, is_past, size_word, end_at}
use Rattle.report_defs.specs.declared.end.End.TheVariants.{AtEnd, Cut, BadSize, Extra}
use Rattle.report_defs.proofs.ItemLemmas.{size_word-append, end_at-nothing, end_at-few, end_at-bad_size, end_at-extra}
use Rattle.run_text.specs.Items.{IsPartial, IsItemAt, EndsAt}

pub take_whole : (n : ℕ) (xs : List ℕ) → length xs ≡ n → take n xs ≡ xs
take_whole n xs e = grind (arith, common_steps)

-- the size word of four bytes
pub size_of_word : (word : List ℕ) → length word ≡ 4 → size_word word ≡ from_le_bytes w32 word
unfolding size_word
size_of_word word four =
    let whole : take 4 word ≡ word = take_whole 4 word four in rw whole refl

-- ---- Where the reading ends, under any limit of the input

end_at-past : (limit : ℕ) (input : Option ℕ) (offset : ℕ) (bytes : List ℕ) → 4 ≤ length bytes → 4 ≤ size_word bytes → size_word bytes ≤ limit
    → is_past input (offset + size_word bytes) ≡ true → end_at (Some limit) input offset bytes ≡ Some Extra
end_at-past limit None offset bytes long least most past = absurd (cc)
end_at-past limit (Some bound) offset bytes long least most past = end_at-extra limit bound offset bytes long least most (grind (arith, nat_tests))

end_at-short : (limit : ℕ) (input : Option ℕ) (offset : ℕ) (bytes : List ℕ) → 4 ≤ length bytes → 4 ≤ size_word bytes → size_word bytes ≤ limit
    → is_past input (offset + size_word bytes) ≡ false → length bytes < size_word bytes → end_at (Some limit) input offset bytes ≡ Some Cut
unfolding end_at
end_at-short limit None offset bytes long least most within short = grind (arith, nat_tests)
end_at-short limit (Some bound) offset bytes long least most within short = grind (arith, nat_tests)

is_within : (input : Option ℕ) (offset : ℕ) → is_past input offset ≡ false → IsWithin input offset
is_within None offset within = tt
is_within (Some bound) offset within = grind (arith, nat_tests)

-- ---- Bytes that hold no whole item

-- a few bytes
pub few_partial : (limit : ℕ) (input : Option ℕ) (offset : ℕ) (given : List ℕ) → length given < 4 → IsPartial limit input offset given
few_partial limit input offset [] few = record {
  end = AtEnd;
  ends = end_at-nothing (Some limit) input offset;
  word = λ at. absurd at;
}
few_partial limit input offset (b ∷ bs) few = record {
  end = Cut;
  ends = end_at-few limit input offset (b ∷ bs) (omega arith) few;
  word = λ at. absurd at;
}

-- a size word alone that is outside its limits
bad_word_partial : (limit : ℕ) (input : Option ℕ) (offset : ℕ) (word : List ℕ) → length word ≡ 4
    → (size_word word < 4) ⊎ (limit < size_word word) → IsPartial limit input offset word
bad_word_partial limit input offset word four bad = record {
  end = BadSize;
  ends = end_at-bad_size limit input offset word (omega (arith, four)) bad;
  word = λ at. four;
}

past_partial : (limit : ℕ) (input : Option ℕ) (offset : ℕ) (word : List ℕ) → length word ≡ 4 → 4 ≤ size_word word → size_word word ≤ limit
    → is_past input (offset + size_word word) ≡ true → IsPartial limit input offset word
past_partial limit input offset word four least most past = record {
  end = Extra;
  ends = end_at-past limit input offset word (omega (arith, four)) least most past;
  word = λ at. four;
}

-- the start of an item
front_partial : (limit : ℕ) (input : Option ℕ) (offset : ℕ) (given : List ℕ) → 4 ≤ length given → 4 ≤ size_word given → size_word given ≤ limit
    → is_past input (offset + size_word given) ≡ false → length given < size_word given → IsPartial limit input offset given
front_partial limit input offset given long least most within short = record {
  end = Cut;
  ends = end_at-short limit input offset given long least most within short;
  word = λ at. absurd at;
}

-- a size word alone, which an item of four bytes is
pub word_alone : (limit : ℕ) (input : Option ℕ) (offset : ℕ) (word : List ℕ) → length word ≡ 4 → 4 ≤ size_word word → size_word word ≤ limit
    → is_past input (offset + size_word word) ≡ false → IsPartial limit input offset word ⊎ IsItemAt limit input offset word word
word_alone limit input offset word four least most within = elim (leb_tells (size_word word) 4) [
  | inl all ↦
      let whole : size_word word ≡ length word = omega (arith, all.1, four, least) in
      inr (record {
        same = refl;
        is_item = record { size = whole; least = omega (arith, four); most = omega (arith, whole, most) };
        within = rw whole at (is_within input (offset + size_word word) within);
      })
  | inr longer ↦ inl (front_partial limit input offset word (omega (arith, four)) least most within (omega (arith, longer.1, four)))
]

-- ---- The ends

-- nothing is left
pub left_nothing : (left : Option (List ℕ)) (more : List ℕ) → IsAtEnd left → left ≡ Some more → more ≡ []
left_nothing None more at_end is = absurd (cc)
left_nothing (Some xs) more at_end is = let same : xs ≡ more = cc in sym same ∙ at_end

pub ends_at_end : (limit input : Option ℕ) (offset : ℕ) (left : Option (List ℕ)) → IsAtEnd left → EndsAt limit input offset left AtEnd []
ends_at_end limit input offset left at_end = record {
  ends = λ more is. rw (left_nothing left more at_end is) (end_at-nothing limit input offset);
  nothing = λ _. refl;
  to_end = λ _. at_end;
}

-- what was given, where nothing is left
all_given : (given : List ℕ) (left : Option (List ℕ)) (more : List ℕ) → IsAtEnd left → left ≡ Some more → given ++ more ≡ given
all_given given left more at_end is = ap (λ xs. given ++ xs) (left_nothing left more at_end is) ∙ append-nil given

pub ends_few : (limit : ℕ) (input : Option ℕ) (offset : ℕ) (given : List ℕ) (left : Option (List ℕ)) → 0 < length given → length given < 4 → IsAtEnd left
    → EndsAt (Some limit) input offset left Cut given
ends_few limit input offset given left some few at_end = record {
  ends = λ more is. rw (all_given given left more at_end is) (end_at-few limit input offset given some few);
  nothing = λ e. cc;
  to_end = λ _. at_end;
}

-- a size word alone
pub ends_bad_size : (limit : ℕ) (input : Option ℕ) (offset : ℕ) (word : List ℕ) (left : Option (List ℕ)) → length word ≡ 4
    → (size_word word < 4) ⊎ (limit < size_word word) → EndsAt (Some limit) input offset left BadSize word × IsPartial limit input offset word
ends_bad_size limit input offset word left four bad = (
  record {
    ends = λ more is.
        let size : size_word (word ++ more) ≡ size_word word = size_word-append word more (omega arith) in
        end_at-bad_size limit input offset (word ++ more) (omega (arith, length-append word more)) (rw size bad);
    nothing = λ e. cc;
    to_end = λ e. cc;
  },
  bad_word_partial limit input offset word four bad,
)

pub ends_extra : (limit : ℕ) (input : Option ℕ) (offset : ℕ) (word : List ℕ) (left : Option (List ℕ)) → length word ≡ 4
    → 4 ≤ size_word word → size_word word ≤ limit → is_past input (offset + size_word word) ≡ true
    → EndsAt (Some limit) input offset left Extra word × IsPartial limit input offset word
ends_extra limit input offset word left four least most past = (
  record {
    ends = λ more is.
        let size : size_word (word ++ more) ≡ size_word word = size_word-append word more (omega arith) in
        end_at-past limit input offset (word ++ more) (omega (arith, length-append word more)) (rw size least) (rw size most) (rw size past);
    nothing = λ e. cc;
    to_end = λ e. cc;
  },
  past_partial limit input offset word four least most past,
)

ends_front : (limit : ℕ) (input : Option ℕ) (offset : ℕ) (given : List ℕ) (left : Option (List ℕ)) → 4 ≤ length given
    → 4 ≤ size_word given → size_word given ≤ limit → is_past input (offset + size_word given) ≡ false
    → length given < size_word given → IsAtEnd left → EndsAt (Some limit) input offset left Cut given × IsPartial limit input offset given
ends_front limit input offset given left long least most within short at_end = (
  record {
    ends = λ more is. rw (all_given given left more at_end is) (end_at-short limit input offset given long least most within short);
    nothing = λ e. cc;
    to_end = λ _. at_end;
  },
  front_partial limit input offset given long least most within short,
)

-- where no item is taken, a byte is too many
pub ends_at_byte : (offset : ℕ) (given : List ℕ) (left : Option (List ℕ)) → length given ≡ 1 → EndsAt None None offset left Extra given
unfolding end_at
ends_at_byte offset given left one = record {
  ends = λ more is. let some : 0 < length (given ++ more) = omega (arith, one, length-append given more) in grind (arith, nat_tests);
  nothing = λ e. cc;
  to_end = λ e. cc;
}

-- ---- An item after its size word

-- the size that a word at the start says
front_word : (word given : List ℕ) → length word ≡ 4 → size_word (word ++ given) ≡ from_le_bytes w32 word
front_word word given four = size_word-append word given (omega arith) ∙ size_of_word word four

-- what was given where the reading stopped inside the item
pub stopped_in_item : (limit : ℕ) (input : Option ℕ) (offset size : ℕ) (word given : List ℕ) → length word ≡ 4 → from_le_bytes w32 word ≡ size → 4 ≤ size → size ≤ limit
    → is_past input (offset + size) ≡ false → length given + 4 < size → IsPartial limit input offset (word ++ given)
stopped_in_item limit input offset size word given four is least most within short =
    let says : size_word (word ++ given) ≡ size = front_word word given four ∙ is in
    let long : length (word ++ given) ≡ 4 + length given = omega (arith, four, length-append word given) in
    front_partial limit input offset (word ++ given) (omega (arith, long)) (rw says least) (rw says most) (rw says within) (rw says (omega (arith, long, short)))

-- the bytes after the word: the first n of what was read into the item
length_read : (n : ℕ) (item : List ℕ) → n + 4 ≤ length item → length (take n (drop 4 item)) ≡ n
length_read n item fits = length-take-le n (drop 4 item) (omega (arith, length-drop 4 item))

pub ends_in_item : (limit : ℕ) (input : Option ℕ) (offset size n : ℕ) (word item : List ℕ) (left : Option (List ℕ)) → length word ≡ 4 → from_le_bytes w32 word ≡ size
    → 4 ≤ size → size ≤ limit → is_past input (offset + size) ≡ false → length item ≡ size → n + 4 < size → IsAtEnd left
    → EndsAt (Some limit) input offset left Cut (word ++ take n (drop 4 item)) × IsPartial limit input offset (word ++ take n (drop 4 item))
ends_in_item limit input offset size n word item left four is least most within long short at_end =
    let given = word ++ take n (drop 4 item) in
    let says : size_word given ≡ size = front_word word (take n (drop 4 item)) four ∙ is in
    let read : length given ≡ 4 + n = omega (arith, four, length-append word (take n (drop 4 item)), length_read n item (omega arith)) in
    ends_front limit input offset given left (omega arith) (rw says least) (rw says most) (rw says within) (rw says (omega arith)) at_end

word_of_front : (item word : List ℕ) → take 4 item ≡ word → size_word item ≡ from_le_bytes w32 word
unfolding size_word
word_of_front item word front = ap (from_le_bytes w32) front

pub read_whole : (limit : ℕ) (input : Option ℕ) (offset size n : ℕ) (word item : List ℕ) → length word ≡ 4 → from_le_bytes w32 word ≡ size
    → 4 ≤ size → size ≤ limit → is_past input (offset + size) ≡ false → length item ≡ size → take 4 item ≡ word → n + 4 ≡ size
    → IsItemAt limit input offset item (word ++ take n (drop 4 item))
read_whole limit input offset size n word item four is least most within long front all =
    let rest : take n (drop 4 item) ≡ drop 4 item = take_whole n (drop 4 item) (omega (arith, length-drop 4 item)) in
    record {
      same = ap (λ xs. word ++ xs) rest ∙ ap (λ xs. xs ++ drop 4 item) (sym front) ∙ take-append-drop 4 item;
      is_item = record {
        size =
            let whole : size_word item ≡ from_le_bytes w32 word = word_of_front item word front in
            whole ∙ is ∙ sym long;
        least = rw long least;
        most = rw long most;
      };
      within = rw long (is_within input (offset + size) within);
    }

-- what a `Vec` holds after a write of its whole length
pub written_whole : (n : ℕ) (new old : List ℕ) → length new ≡ n → take n (new ++ drop (length new) old) ≡ new
written_whole n new old e = grind (arith, common_steps)
