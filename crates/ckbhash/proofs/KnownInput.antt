-- How the bytes that a reader is known to have go over to a hasher.
use Rattle.std.proofs.Common.{◌≡◌, ℕ, List, [], ◌++◌, sym, ap, refl, subst, ◌∙◌}
use Rattle.std.proofs.lemmas.List.{append_assoc, append-nil}
use Rattle.std.specs.Prelude.{Option, None, Some, Result, Ok, Err, IfSome, OnOk}
use Rattle.std.specs.Io.KnownBytes.{Appends, Consumes, IsAtEnd}
use Rattle.chain_defs.specs.CkbHash.{ckbhash}
use Rattle.ckbhash.specs.Checksum.{checksum_line, digest_line}
use Rattle.blake2b_ckb.specs.Hasher.{Absorbed, Holds}

-- the hasher holds what the reader gave since it had `old`
abbrev pub HoldsGiven : Option (List ℕ) → Option (List ℕ) → Absorbed → Type 0
HoldsGiven old new hasher = (given : List ℕ) × (Holds hasher given × Consumes old new given)

pub Consumes_none : (known : Option (List ℕ)) → Consumes known known []
Consumes_none None = tt
Consumes_none (Some xs) = refl

Consumes-append : (old mid new : Option (List ℕ)) (xs ys : List ℕ) → Consumes old mid xs → Consumes mid new ys → Consumes old new (xs ++ ys)
Consumes-append None mid new xs ys a b = tt
Consumes-append (Some o) None new xs ys a b = absurd a
Consumes-append (Some o) (Some m) None xs ys a b = absurd b
Consumes-append (Some o) (Some m) (Some n) xs ys a b = a ∙ ap (λ (t : List ℕ). xs ++ t) b ∙ sym (append_assoc xs ys n)

-- one more piece
pub HoldsGiven_next : (old mid new : Option (List ℕ)) (before after : Absorbed) (piece : List ℕ) → HoldsGiven old mid before
    → Consumes mid new piece → ((m : List ℕ) → Holds before m → Holds after (m ++ piece)) → HoldsGiven old new after
HoldsGiven_next old mid new before after piece held taken more =
    (held.0 ++ piece, (more held.0 held.1.0, Consumes-append old mid new held.0 piece held.1.1 taken))

whole : (old new : Option (List ℕ)) (digest given : List ℕ) → Consumes old new given → IsAtEnd new → digest ≡ ckbhash given
    → IfSome old (λ bytes. digest ≡ ckbhash bytes)
whole None new digest given a end e = tt
whole (Some xs) None digest given a end e = absurd a
whole (Some xs) (Some ys) digest given a end e = e ∙ ap ckbhash (sym (append-nil given) ∙ ap (λ (t : List ℕ). given ++ t) (sym end) ∙ sym a)

-- the end is reached
pub HoldsGiven_end : (old mid new : Option (List ℕ)) (hasher : Absorbed) (digest : List ℕ) → HoldsGiven old mid hasher
    → Consumes mid new [] → IsAtEnd new → ((m : List ℕ) → Holds hasher m → digest ≡ ckbhash m)
    → IfSome old (λ bytes. digest ≡ ckbhash bytes)
HoldsGiven_end old mid new hasher digest held none end is =
    whole old new digest (held.0 ++ []) (Consumes-append old mid new held.0 [] held.1.1 none) end (is held.0 held.1.0 ∙ ap ckbhash (sym (append-nil held.0)))

-- ---- what was written

Appends_line : (known old new : Option (List ℕ)) (digest line : List ℕ) → IfSome known (λ bytes. digest ≡ ckbhash bytes) → line ≡ digest_line digest
    → Appends old new line → IfSome known (λ bytes. Appends old new (checksum_line bytes))
Appends_line None old new digest line is el written = tt
Appends_line (Some bytes) old new digest line is el written = subst (λ (t : List ℕ). Appends old new t) (el ∙ ap digest_line is) written

pub OnOk_line : {E : Type 0} → (r : Result (Unit {0}) E) (known old new : Option (List ℕ)) (digest line : List ℕ) → IfSome known (λ bytes. digest ≡ ckbhash bytes)
    → line ≡ digest_line digest → OnOk r (Appends old new line) → OnOk r (IfSome known (λ bytes. Appends old new (checksum_line bytes)))
OnOk_line (Ok x) known old new digest line is el written = Appends_line known old new digest line is el written
OnOk_line (Err e) known old new digest line is el written = tt
