-- Reads and writes of a file, one after another.
use Rattle.std.proofs.Common.{⊎_elim, ◌≡◌, ℕ, ◌+◌, ◌-◌, ◌<◌, ◌≤◌, min, max, List, ◌++◌, Option, None, Some, Result, Ok, Err, length, take, drop, refl, sym, subst, ◌∙◌, ap, append_assoc, take-append-drop, length-append, length-drop, arith}
use Rattle.std.specs.Prelude.{IfSome, IfOk, OnErr, IsErr}
use Rattle.std.proofs.Math.Seq.{take-add, take-append-add}
use Rattle.std.proofs.lemmas.List.{take_at, drop_at, take_all, drop_all, take-append-le, take-take, length-take, length-take-le, drop-drop}
use Rattle.std.proofs.lemmas.Bool.{cases_lt}
use borrow.Rule.Slice.PartMut.{put_mid, post_of}
use Rattle.outside.specs.Causes.{Rose, HasCause}
use Rattle.outside.specs.Disk.{written, Torn}
use Rattle.outside.proofs.Torn.{torn_same, cut_same}
use Rattle.outside_os.specs.Files.{Held, Becomes, Changes, Writes, Tears, CutsInPart, WrittenInPart, WritesInPart}

-- ---- A read made again

pub record IsRead {E : Type 0} (old new : Held) (before now at last : ℕ) (answer : Result ℕ E) (into : List ℕ) : Type 0 where
  pub fits : IfOk answer (λ n. n ≤ length into)
  pub given : IfOk answer (λ n. IfSome old.reads_as (λ bytes. take n into ≡ take n (drop at bytes)))
  pub some : IfOk answer (λ n. n ≡ 0 → 0 < length into → IfSome old.reads_as (λ bytes. length bytes ≤ at))
  pub within_word : IfSome old.reads_as (λ bytes. length bytes ≤ last)
  pub same : new ≡ old
  pub later : before ≤ now
  pub rose : OnErr answer (Rose before now)

-- ---- Reads, one after the other

-- what a loop of reads keeps: the first n bytes of `into` are those from `at` on
pub record ReadSoFar (old new : Held) (before now at n : ℕ) (into : List ℕ) : Type 0 where
  pub within : n ≤ length into
  pub given : IfSome old.reads_as (λ bytes. take n into ≡ take n (drop at bytes))
  pub same : new ≡ old
  pub later : before ≤ now

take_beyond : (front rest : List ℕ) (n m : ℕ) → length front ≡ n → take (n + m) (front ++ rest) ≡ front ++ take m rest
take_beyond front rest n m size = ap (λ k. take (k + m) (front ++ rest)) (sym size) ∙ take-append-add front rest m

-- after the last place that a word tells there is nothing, so that the place may stop there
place_as : (place at n last : ℕ) (bytes : List ℕ) → place ≡ min (at + n) last → length bytes ≤ last → drop place bytes ≡ drop (at + n) bytes
place_as place at n last bytes is short = ⊎_elim
    (λ (beyond : last < at + n). drop_all place bytes (omega (arith, is, short, beyond)) ∙ sym (drop_all (at + n) bytes (omega (arith, short, beyond))))
    (λ (within : at + n ≤ last). ap (λ (k : ℕ). drop k bytes) (omega (arith, is, within)))
    (cases_lt last (at + n))

given_beyond : (at n m place last : ℕ) (bytes into part tail : List ℕ) → n ≤ length into → m ≤ length part → take n into ≡ take n (drop at bytes)
    → place ≡ min (at + n) last → length bytes ≤ last → take m part ≡ take m (drop place bytes)
    → take (n + m) (take n into ++ (part ++ tail)) ≡ take (n + m) (drop at bytes)
given_beyond at n m place last bytes into part tail within fits so_far is short gives =
    let first : length (take n into) ≡ n = length-take-le n into within in
    let behind : drop place bytes ≡ drop n (drop at bytes) = place_as place at n last bytes is short ∙ sym (drop-drop n at bytes) in
    take_beyond (take n into) (part ++ tail) n m first
    ∙ ap (λ (l : List ℕ). take n into ++ l) (take-append-le m part tail fits ∙ gives ∙ ap (take m) behind)
    ∙ ap (λ (l : List ℕ). l ++ take m (drop n (drop at bytes))) so_far
    ∙ sym (take-add n m (drop at bytes))

-- one read more, which wrote into the part of `into` after what was given
pub read_further : (a b c : Held) (before now later at place last n m : ℕ) (into part : List ℕ) → ReadSoFar a b before now at n into
    → length part ≡ length into - n → m ≤ length part → place ≡ min (at + n) last → IfSome b.reads_as (λ bytes. length bytes ≤ last)
    → IfSome b.reads_as (λ bytes. take m part ≡ take m (drop place bytes)) → c ≡ b → now ≤ later
    → ReadSoFar a c before later at (n + m) (put_mid n (length into - n) into part)
read_further a b c before now later at place last n m into part so_far size fits is short gives same rises = record {
  within = omega (arith, so_far.within, size, fits, whole, length-append part (post_of n (length into - n) into));
  given = both a.reads_as so_far.given (subst (λ (held : Held). IfSome held.reads_as (λ bytes. length bytes ≤ last)) so_far.same short) (subst (λ (held : Held). IfSome held.reads_as (λ bytes. take m part ≡ take m (drop place bytes))) so_far.same gives);
  same = same ∙ so_far.same;
  later = omega (arith, so_far.later, rises);
}
  where
    tail : List ℕ
    tail = part ++ post_of n (length into - n) into

    first : length (take n into) ≡ n
    first = length-take-le n into so_far.within

    whole : length (put_mid n (length into - n) into part) ≡ n + length tail
    whole = length-append (take n into) tail ∙ ap (λ k. k + length tail) first

    both : (reads : Option (List ℕ)) → IfSome reads (λ bytes. take n into ≡ take n (drop at bytes)) → IfSome reads (λ bytes. length bytes ≤ last)
        → IfSome reads (λ bytes. take m part ≡ take m (drop place bytes))
        → IfSome reads (λ bytes. take (n + m) (put_mid n (length into - n) into part) ≡ take (n + m) (drop at bytes))
    both None earlier bound one = tt
    both (Some bytes) earlier bound one = given_beyond at n m place last bytes into part (post_of n (length into - n) into) so_far.within fits earlier is bound one

-- ---- Steps of a file, one after the other

pub becomes_then : (first second both : List ℕ → List ℕ → Type 0) → ((a b c : List ℕ) → first a b → second b c → both a c)
    → (x y z : Option (List ℕ)) → Becomes first x y → Becomes second y z → Becomes both x z
becomes_then first second both joined None y z one two = tt
becomes_then first second both joined (Some a) y z (b, is, one) two =
    let behind : Becomes second (Some b) z = subst (λ (reads : Option (List ℕ)). Becomes second reads z) is two in
    (behind.0, behind.1, joined a b behind.0 one behind.2)

pub changes_then : (first second both : List ℕ → List ℕ → Type 0) → ((a b c : List ℕ) → first a b → second b c → both a c)
    → (x y z : Held) → Changes first x y → Changes second y z → Changes both x z
changes_then first second both joined x y z one two = record {
  bytes = becomes_then first second both joined x.reads_as y.reads_as z.reads_as one.bytes two.bytes;
  synced = two.synced ∙ one.synced;
}

pub changes_none : (step : List ℕ → List ℕ → Type 0) → ((a : List ℕ) → step a a) → (x : Held) → Changes step x x
changes_none step same x = record { bytes = rests x.reads_as; synced = refl }
  where
    rests : (reads : Option (List ℕ)) → Becomes step reads reads
    rests None = tt
    rests (Some a) = (a, refl, same a)

-- ---- Writes, one after the other

written_prefix : (at : ℕ) (piece bytes : List ℕ) → at ≤ length bytes → take at (written at piece bytes) ≡ take at bytes
written_prefix at piece bytes within =
    ap (take at) (append_assoc (take at bytes) piece (drop (at + length piece) bytes)) ∙ take_at (take at bytes) (piece ++ drop (at + length piece) bytes) at (length-take-le at bytes within)

written_length : (at : ℕ) (piece bytes : List ℕ) → at ≤ length bytes → length (written at piece bytes) ≡ max (length bytes) (at + length piece)
written_length at piece bytes within = omega (
  arith,
  length-append (take at bytes ++ piece) (drop (at + length piece) bytes),
  length-append (take at bytes) piece,
  length-take-le at bytes within,
  length-drop (at + length piece) bytes,
)

piece_end : (at : ℕ) (piece bytes : List ℕ) → at ≤ length bytes → length (take at bytes ++ piece) ≡ at + length piece
piece_end at piece bytes within = omega (arith, length-append (take at bytes) piece, length-take-le at bytes within)

written_piece : (at : ℕ) (piece bytes : List ℕ) → at ≤ length bytes → take (at + length piece) (written at piece bytes) ≡ take at bytes ++ piece
written_piece at piece bytes within = take_at (take at bytes ++ piece) (drop (at + length piece) bytes) (at + length piece) (piece_end at piece bytes within)

written_behind : (at far : ℕ) (piece bytes : List ℕ) → at ≤ length bytes → at + length piece ≤ far → drop far (written at piece bytes) ≡ drop far bytes
written_behind at far piece bytes within beyond =
    let lost : ℕ = far - (at + length piece) in
    let rest : drop (at + length piece) (written at piece bytes) ≡ drop (at + length piece) bytes =
    drop_at (take at bytes ++ piece) (drop (at + length piece) bytes) (at + length piece) (piece_end at piece bytes within) in
    let sum : far ≡ at + length piece + lost = omega (arith, beyond) in
    ap (λ (k : ℕ). drop k (written at piece bytes)) sum ∙ sym (drop-drop lost (at + length piece) (written at piece bytes)) ∙ ap (drop lost) rest
    ∙ drop-drop lost (at + length piece) bytes ∙ ap (λ (k : ℕ). drop k bytes) (sym sum)

-- a prefix of the piece over what an earlier try left torn
torn_written : (at n : ℕ) (piece a b c : List ℕ) → n ≤ length piece → Tears at (length piece) a b → Writes at (take n piece) b c → WritesInPart at piece n a c
torn_written at n piece a b c fits tears writes start =
    let torn : Torn at (length piece) a b = tears start in
    let within : at ≤ length b = omega (arith, start, torn.no_shorter) in
    let is : c ≡ written at (take n piece) b = writes within in
    let size : length (take n piece) ≡ n = length-take-le n piece fits in
    let far : at + length (take n piece) ≤ at + length piece = omega (arith, size, fits) in
    let long : length c ≡ max (length b) (at + length (take n piece)) = ap length is ∙ written_length at (take n piece) b within in
    record {
      torn = record {
        before = ap (take at) is ∙ written_prefix at (take n piece) b within ∙ torn.before;
        after = ap (drop (at + length piece)) is ∙ written_behind at (at + length piece) (take n piece) b within far ∙ torn.after;
        no_shorter = omega (arith, long, torn.no_shorter);
        no_longer = omega (arith, long, size, fits, torn.no_longer);
      };
      prefix = ap (λ (k : ℕ). take (at + k) c) (sym size) ∙ ap (take (at + length (take n piece))) is ∙ written_piece at (take n piece) b within
          ∙ ap (λ (l : List ℕ). l ++ take n piece) torn.before;
    }

-- a part of the range torn, after a prefix that was written
torn_behind : (at done : ℕ) (piece a b c : List ℕ) → done ≤ length piece → at ≤ length a → Torn at (length piece) a b
    → Torn (at + done) (length (drop done piece)) b c → Torn at (length piece) a c
torn_behind at done piece a b c fits start first second =
    let rest : length (drop done piece) ≡ length piece - done = length-drop done piece in
    let end : at + length piece ≡ at + done + length (drop done piece) = omega (arith, rest, fits) in
    record {
      before = sym (take-take at (at + done) c (omega arith)) ∙ ap (take at) second.before ∙ take-take at (at + done) b (omega arith) ∙ first.before;
      after = ap (λ (k : ℕ). drop k c) end ∙ second.after ∙ ap (λ (k : ℕ). drop k b) (sym end) ∙ first.after;
      no_shorter = omega (arith, first.no_shorter, second.no_shorter);
      no_longer = omega (arith, first.no_longer, second.no_longer, end);
    }

front_within : (at done : ℕ) (piece a b : List ℕ) → done ≤ length piece → at ≤ length a → WrittenInPart at piece done a b → at + done ≤ length b
front_within at done piece a b fits start part =
    omega (arith, ap length part.prefix, length-append (take at a) (take done piece), length-take-le at a start, length-take-le done piece fits, length-take (at + done) b)

written_further : (at done n : ℕ) (piece a b c : List ℕ) → done ≤ length piece → WritesInPart at piece done a b
    → WritesInPart (at + done) (drop done piece) n b c → WritesInPart at piece (done + n) a c
written_further at done n piece a b c fits one more start =
    let first : WrittenInPart at piece done a b = one start in
    let second : WrittenInPart (at + done) (drop done piece) n b c = more (front_within at done piece a b fits start first) in
    let sum : at + (done + n) ≡ at + done + n = omega arith in
    record {
      torn = torn_behind at done piece a b c fits start first.torn second.torn;
      prefix = ap (λ (k : ℕ). take k c) sum ∙ second.prefix ∙ ap (λ (l : List ℕ). l ++ take n (drop done piece)) first.prefix
          ∙ append_assoc (take at a) (take done piece) (take n (drop done piece)) ∙ ap (λ (l : List ℕ). take at a ++ l) (sym (take-add done n piece));
    }

torn_further : (at done : ℕ) (piece a b c : List ℕ) → done ≤ length piece → WritesInPart at piece done a b
    → Tears (at + done) (length (drop done piece)) b c → Tears at (length piece) a c
torn_further at done piece a b c fits one more start =
    let first : WrittenInPart at piece done a b = one start in
    torn_behind at done piece a b c fits start first.torn (more (front_within at done piece a b fits start first))

written_whole : (at done : ℕ) (piece a b : List ℕ) → done ≡ length piece → WritesInPart at piece done a b → Writes at piece a b
written_whole at done piece a b is part start =
    let whole : WrittenInPart at piece done a b = part start in
    let front : take (at + length piece) b ≡ take at a ++ piece =
    ap (λ (k : ℕ). take (at + k) b) (sym is) ∙ whole.prefix ∙ ap (λ (l : List ℕ). take at a ++ l) (take_all done piece (omega (arith, is))) in
    sym (take-append-drop (at + length piece) b) ∙ ap (λ (l : List ℕ). l ++ drop (at + length piece) b) front ∙ ap (λ (l : List ℕ). take at a ++ piece ++ l) whole.torn.after

torn_twice : (at size : ℕ) (a b c : List ℕ) → Tears at size a b → Tears at size b c → Tears at size a c
torn_twice at size a b c one two start =
    let first : Torn at size a b = one start in
    let second : Torn at size b c = two (omega (arith, start, first.no_shorter)) in
    record {
      before = second.before ∙ first.before;
      after = second.after ∙ first.after;
      no_shorter = omega (arith, first.no_shorter, second.no_shorter);
      no_longer = omega (arith, first.no_longer, second.no_longer);
    }

-- ---- A write made again

pub record IsWritten {E : Type 0} (old new : Held) (before now at : ℕ) (answer : Result ℕ E) (piece : List ℕ) : Type 0 where
  pub fits : IfOk answer (λ n. n ≤ length piece)
  pub some : IfOk answer (λ n. 0 < length piece → 1 ≤ n)
  pub written : IfOk answer (λ n. Changes (WritesInPart at piece n) old new)
  pub torn : OnErr answer (Changes (Tears at (length piece)) old new)
  pub later : before ≤ now
  pub rose : OnErr answer (Rose before now)

pub torn_so_far : {E : Type 0} (old new : Held) (before now at : ℕ) (answer : Result ℕ E) (piece : List ℕ) → IsErr answer
    → IsWritten old new before now at answer piece → Changes (Tears at (length piece)) old new
torn_so_far old new before now at (Ok n) piece fails so_far = absurd (cc)
torn_so_far old new before now at (Err _) piece fails so_far = so_far.torn

pub nothing_torn : (at size : ℕ) (held : Held) → Changes (Tears at size) held held
nothing_torn at size held = changes_none (Tears at size) (λ a start. torn_same at size a) held

pub write_again : {E : Type 0} (old mid new : Held) (before now later at : ℕ) (answer : Result ℕ E) (piece : List ℕ)
    → Changes (Tears at (length piece)) old mid → before ≤ now → IfOk answer (λ n. n ≤ length piece) → IfOk answer (λ n. 0 < length piece → 1 ≤ n)
    → IfOk answer (λ n. Changes (Writes at (take n piece)) mid new) → OnErr answer (Changes (Tears at (length piece)) mid new)
    → HasCause now later answer → IsWritten old new before later at answer piece
write_again old mid new before now later at (Ok n) piece so_far rises fits some written torn cause = record {
  fits = fits;
  some = some;
  written = changes_then (Tears at (length piece)) (Writes at (take n piece)) (WritesInPart at piece n) (λ a b c. torn_written at n piece a b c fits) old mid new so_far written;
  torn = tt;
  later = omega (arith, rises, cause.later);
  rose = tt;
}
write_again old mid new before now later at (Err _) piece so_far rises fits some written torn cause = record {
  fits = tt;
  some = tt;
  written = tt;
  torn = changes_then (Tears at (length piece)) (Tears at (length piece)) (Tears at (length piece)) (torn_twice at (length piece)) old mid new so_far torn;
  later = omega (arith, rises, cause.later);
  rose = rose_behind before now later rises (cause.failed refl);
}
  where
    rose_behind : (before now later : ℕ) → before ≤ now → Rose now later → Rose before later
    rose_behind before now later rises rose = omega (arith, rises, rose)

-- ---- A piece written whole

-- what a loop of writes keeps
pub record WrittenSoFar (old new : Held) (before now at done : ℕ) (piece : List ℕ) : Type 0 where
  pub within : done ≤ length piece
  pub written : Changes (WritesInPart at piece done) old new
  pub later : before ≤ now

pub goes_on_writing : (old mid new : Held) (before now later at done n : ℕ) (piece part : List ℕ) → WrittenSoFar old mid before now at done piece
    → part ≡ drop done piece → n ≤ length part → Changes (WritesInPart (at + done) part n) mid new → now ≤ later → WrittenSoFar old new before later at (done + n) piece
goes_on_writing old mid new before now later at done n piece part so_far is fits written rises = record {
  within = omega (arith, so_far.within, fits, ap length is, length-drop done piece);
  written = changes_then (WritesInPart at piece done) (WritesInPart (at + done) (drop done piece) n) (WritesInPart at piece (done + n))
      (λ a b c. written_further at done n piece a b c so_far.within) old mid new so_far.written
      (subst (λ (l : List ℕ). Changes (WritesInPart (at + done) l n) mid new) is written);
  later = omega (arith, so_far.later, rises);
}

pub stops_writing : (old mid new : Held) (before now at done : ℕ) (piece part : List ℕ) → WrittenSoFar old mid before now at done piece
    → part ≡ drop done piece → Changes (Tears (at + done) (length part)) mid new → Changes (Tears at (length piece)) old new
stops_writing old mid new before now at done piece part so_far is torn =
    changes_then (WritesInPart at piece done) (Tears (at + done) (length (drop done piece))) (Tears at (length piece))
    (λ a b c. torn_further at done piece a b c so_far.within) old mid new so_far.written
    (subst (λ (l : List ℕ). Changes (Tears (at + done) (length l)) mid new) is torn)

pub nothing_cut : (len : ℕ) (held : Held) → Changes (CutsInPart len) held held
nothing_cut len held = changes_none (CutsInPart len) (λ a within. cut_same len a) held
