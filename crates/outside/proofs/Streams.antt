-- Reads and writes, one after another.
use Rattle.std.proofs.Common.{◌≡◌, ℕ, ◌+◌, ◌-◌, ◌≤◌, min, List, [], ◌++◌, Option, None, Some, length, take, drop, refl, sym, subst, ◌∙◌, ap, append_assoc, append-nil, take-append-drop, length-append, length-drop, arith}
use Rattle.std.proofs.Math.Seq.{take-add, take-append-add, take-append_seam}
use Rattle.std.proofs.lemmas.List.{take-append-le, length-take-le, take_rest, drop-drop}
use borrow.Rule.Slice.PartMut.{put_mid, post_of}
use Rattle.std.specs.Io.KnownBytes.{prepend_known, append_known}
use Rattle.std.proofs.KnownBytes.{prepend_known-nil}
use Rattle.outside.specs.Streams.{Gives, Takes}

-- nothing was read
pub gives_none : (left : Option (List ℕ)) → Gives left left []
gives_none left = sym (prepend_known-nil left)

-- what two reads gave, one after the other
pub gives_more : (a b c : Option (List ℕ)) (xs ys : List ℕ) → Gives a b xs → Gives b c ys → Gives a c (xs ++ ys)
gives_more a b None xs ys first second = first ∙ ap (prepend_known xs) second
gives_more a b (Some left) xs ys first second = first ∙ ap (prepend_known xs) second ∙ ap Some (sym (append_assoc xs ys left))

-- nothing was written
pub takes_none : (taken : Option (List ℕ)) → Takes taken taken []
takes_none None = refl
takes_none (Some taken) = ap Some (sym (append-nil taken))

-- what two writes took, one after the other
pub takes_more : (a b c : Option (List ℕ)) (xs ys : List ℕ) → Takes a b xs → Takes b c ys → Takes a c (xs ++ ys)
takes_more None b c xs ys first second = second ∙ ap (λ known. append_known known ys) first
takes_more (Some taken) b c xs ys first second = second ∙ ap (λ known. append_known known ys) first ∙ ap Some (append_assoc taken xs ys)

-- what a loop of reads keeps: the first n bytes of `into` were given, and the count of faults is unchanged
pub record HasGiven (left_old left_new : Option (List ℕ)) (faults_old faults_new n : ℕ) (into : List ℕ) : Type 0 where
  pub within : n ≤ length into
  pub gives : Gives left_old left_new (take n into)
  pub unchanged : faults_new ≡ faults_old

-- what a loop of writes keeps: the first n bytes were taken, and the count of faults is unchanged
pub record HasTaken (taken_old taken_new : Option (List ℕ)) (faults_old faults_new n : ℕ) (bytes : List ℕ) : Type 0 where
  pub within : n ≤ length bytes
  pub takes : Takes taken_old taken_new (take n bytes)
  pub unchanged : faults_new ≡ faults_old

take_beyond : (front rest : List ℕ) (n m : ℕ) → length front ≡ n → take (n + m) (front ++ rest) ≡ front ++ take m rest
take_beyond front rest n m size = ap (λ k. take (k + m) (front ++ rest)) (sym size) ∙ take-append-add front rest m

-- one read more, which wrote into the part of `into` after what was given
pub given_further : (a b c : Option (List ℕ)) (before now later n m : ℕ) (into part : List ℕ) → HasGiven a b before now n into → length part ≡ length into - n
    → m ≤ length part → Gives b c (take m part) → later ≡ now → HasGiven a c before later (n + m) (put_mid n (length into - n) into part)
given_further a b c before now later n m into part so_far size fits gives unchanged = record {
  within = omega (arith, so_far.within, size, fits, whole, length-append part (post_of n (length into - n) into));
  gives = subst (Gives a c) (sym front) (gives_more a b c (take n into) (take m part) so_far.gives gives);
  unchanged = unchanged ∙ so_far.unchanged;
}
  where
    tail : List ℕ
    tail = part ++ post_of n (length into - n) into

    first : length (take n into) ≡ n
    first = length-take-le n into so_far.within

    whole : length (put_mid n (length into - n) into part) ≡ n + length tail
    whole = length-append (take n into) tail ∙ ap (λ k. k + length tail) first

    front : take (n + m) (put_mid n (length into - n) into part) ≡ take n into ++ take m part
    front = take_beyond (take n into) tail n m first ∙ ap (λ l. take n into ++ l) (take-append-le m part (post_of n (length into - n) into) fits)

-- one write more, of the start of the piece after what was taken
pub taken_further : (a b c : Option (List ℕ)) (before now later n m : ℕ) (bytes piece : List ℕ) → HasTaken a b before now n bytes → piece ≡ drop n bytes
    → m ≤ length piece → Takes b c (take m piece) → later ≡ now → HasTaken a c before later (n + m) bytes
taken_further a b c before now later n m bytes piece so_far is fits takes unchanged = record {
  within = omega (arith, so_far.within, fits, ap length is, length-drop n bytes);
  takes =
      let both = takes_more a b c (take n bytes) (take m piece) so_far.takes takes in
      subst (Takes a c) (ap (λ l. take n bytes ++ take m l) is ∙ sym (take-add n m bytes)) both;
  unchanged = unchanged ∙ so_far.unchanged;
}

-- what was copied to the start, and then what is left, is what was left before
pub given_prefix : (bytes slice copied rest : List ℕ) (given n room : ℕ) → slice ≡ bytes → copied ≡ take n (take (length slice - given) (drop given slice))
    → n ≡ min (length (take (length slice - given) (drop given slice))) room → drop given bytes ≡ take n (copied ++ rest) ++ drop (given + n) bytes
given_prefix bytes slice copied rest given n room same is fits =
    let left : take (length slice - given) (drop given slice) ≡ drop given bytes = take_rest slice given ∙ ap (drop given) same in
    let within : n ≤ length (drop given bytes) = omega (arith, fits, ap length left) in
    let front : copied ≡ take n (drop given bytes) = is ∙ ap (take n) left in
    let size : length copied ≡ n = ap length front ∙ length-take-le n (drop given bytes) within in
    let kept : take n (copied ++ rest) ≡ take n (drop given bytes) = ap (λ k. take k (copied ++ rest)) (sym size) ∙ take-append_seam copied rest ∙ front in
    sym (take-append-drop n (drop given bytes)) ∙ ap (λ l. l ++ drop n (drop given bytes)) (sym kept) ∙ ap (λ l. take n (copied ++ rest) ++ l) (drop-drop n given bytes)
