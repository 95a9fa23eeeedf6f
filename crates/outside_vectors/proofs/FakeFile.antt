-- What the calls on a file in memory leave of it.
use Rattle.std.proofs.Common.{◌≡◌, ℕ, ◌+◌, ◌-◌, ◌≤◌, List, Option, Some, Result, Err, length, take, refl, sym, subst, ◌∙◌, ap, arith}
use Rattle.std.proofs.lemmas.List.{length-take-le}
use Rattle.outside.specs.Causes.{up_to_last, counted, HasCause}
use Rattle.outside.specs.Disk.{written, Torn}
use Rattle.outside.proofs.Torn.{tears_to_the_written}
use Rattle.outside_os.specs.Files.{Changes, Tears}

pub fails_once : {T E : Type 0} (before now : ℕ) (error : E) → now ≡ counted before → HasCause {T = T} {E = E} (up_to_last before) (up_to_last now) (Err error)
fails_once before now error is = record {
  later = omega (arith, is);
  failed = λ fails. omega (arith, is);
  unchanged = λ done. absurd (cc);
}

-- a prefix of the piece was written, and no more
pub front_written : (at n : ℕ) (piece old new : List ℕ) (synced : Option (List ℕ)) → n ≤ length piece → new ≡ written at (take n piece) old
    → Changes (Tears at (length piece)) (record { reads_as = Some old; synced = synced }) (record { reads_as = Some new; synced = synced })
front_written at n piece old new synced fits is = record { bytes = (new, refl, tears); synced = refl }
  where
    tears : Tears at (length piece) old new
    tears within =
        let size : length (take n piece) ≡ n = length-take-le n piece fits in
        let whole : length (take n piece) + (length piece - n) ≡ length piece = omega (arith, size, fits) in
        subst (Torn at (length piece) old) (sym is)
        (subst (λ (k : ℕ). Torn at k old (written at (take n piece) old)) whole (tears_to_the_written at (length piece - n) (take n piece) old within))
