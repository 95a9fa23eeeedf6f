-- Four parts of eight bytes.
use Rattle.std.proofs.Common.{◌≡◌, ℕ, ◌≤◌, List, ◌++◌, length, take, drop, ap, ◌∙◌, arith, append_assoc, lit≤}
use borrow.Rule.Slice.PartMut.{put_mid}
use Rattle.std.proofs.lemmas.Slice.{take-put_mid}
use Rattle.std.proofs.lemmas.List.{take_all, length-append, length-take, length-drop}
use Rattle.std.proofs.Math.Seq.{take-append_seam}
use Rattle.std.proofs.lemmas.List.Folds.{drop_split}
use Rattle.std.specs.Int.{w64, to_le_bytes}
use Rattle.std.specs.List.{slice_range}

-- the parts of 32 bytes, one after another
pub four-parts : (whole a b c d : List ℕ) → length whole ≡ 32 →
    a ≡ slice_range whole 0 8 → b ≡ slice_range whole 8 16 → c ≡ slice_range whole 16 24 → d ≡ slice_range whole 24 32 →
    a ++ b ++ c ++ d ≡ whole
four-parts whole a b c d len a_is b_is c_is d_is =
    let one : whole ≡ slice_range whole 0 8 ++ drop 8 whole = drop_split whole 0 8 (omega arith) in
    let two : drop 8 whole ≡ slice_range whole 8 16 ++ drop 16 whole = drop_split whole 8 16 (omega arith) in
    let three : drop 16 whole ≡ slice_range whole 16 24 ++ drop 24 whole = drop_split whole 16 24 (omega arith) in
    let short : length (drop 24 whole) ≤ 8 = omega (arith, length-drop 24 whole) in
    let four : slice_range whole 24 32 ≡ drop 24 whole = take_all 8 (drop 24 whole) short in
    let apart : a ++ b ++ c ++ d ≡ a ++ (b ++ (c ++ d)) = simp append_assoc in
    apart ∙ cc

put_mid-length : (at : ℕ) (whole part : List ℕ) → length whole ≡ 32 → length part ≡ 8 → at ≤ 24 → length (put_mid at 8 whole part) ≡ 32
put_mid-length at whole part len part_len within = simp (length-append, length-take, length-drop) (omega arith)

take-append-first : (a rest : List ℕ) → length a ≡ 8 → take 8 (a ++ rest) ≡ a
take-append-first a rest len = rw (← len) (take-append_seam a rest)

-- 32 bytes after four writes
pub four-written : (a b c d rest : List ℕ) → length a ≡ 8 → length b ≡ 8 → length c ≡ 8 → length d ≡ 8 → length rest ≡ 24 →
    put_mid 24 8 (put_mid 16 8 (put_mid 8 8 (a ++ rest) b) c) d ≡ a ++ b ++ c ++ d
four-written a b c d rest a_len b_len c_len d_len rest_len =
    let first : List ℕ = a ++ rest in
    let second : List ℕ = put_mid 8 8 first b in
    let third : List ℕ = put_mid 16 8 second c in
    let first_len : length first ≡ 32 = omega (arith, length-append a rest) in
    let second_len : length second ≡ 32 = put_mid-length 8 first b first_len b_len (lit≤ tt) in
    let third_len : length third ≡ 32 = put_mid-length 16 second c second_len c_len (lit≤ tt) in
    let one : take 8 first ≡ a = take-append-first a rest a_len in
    let two : take 16 second ≡ take 8 first ++ b = take-put_mid 8 8 first b 16 (omega arith) (omega arith) in
    let three : take 24 third ≡ take 16 second ++ c = take-put_mid 16 8 second c 24 (omega arith) (omega arith) in
    let fourth_len : length (put_mid 24 8 third d) ≡ 32 = put_mid-length 24 third d third_len d_len (lit≤ tt) in
    let four : take 32 (put_mid 24 8 third d) ≡ take 24 third ++ d = take-put_mid 24 8 third d 32 (omega arith) (omega arith) in
    let whole : take 32 (put_mid 24 8 third d) ≡ put_mid 24 8 third d = take_all 32 (put_mid 24 8 third d) (omega arith) in
    cc

same-parts : (a b c d a' b' c' d' : List ℕ) → a ≡ a' → b ≡ b' → c ≡ c' → d ≡ d' → a ++ b ++ c ++ d ≡ a' ++ b' ++ c' ++ d'
same-parts a b c d a' b' c' d' a_is b_is c_is d_is = cc

-- the same, where the parts are numbers of 64 bits
pub four-numbers : (a b c d rest : List ℕ) (x y z w : ℕ) →
    a ≡ to_le_bytes w64 x → b ≡ to_le_bytes w64 y → c ≡ to_le_bytes w64 z → d ≡ to_le_bytes w64 w → length rest ≡ 24 →
    put_mid 24 8 (put_mid 16 8 (put_mid 8 8 (a ++ rest) b) c) d ≡ to_le_bytes w64 x ++ to_le_bytes w64 y ++ to_le_bytes w64 z ++ to_le_bytes w64 w
four-numbers a b c d rest x y z w a_is b_is c_is d_is rest_len =
    four-written a b c d rest (ap length a_is) (ap length b_is) (ap length c_is) (ap length d_is) rest_len
    ∙ same-parts a b c d _ _ _ _ a_is b_is c_is d_is
