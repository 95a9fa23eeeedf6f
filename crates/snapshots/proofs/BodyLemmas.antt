-- The bytes of a snapshot, as they are written.
use Rattle.std.proofs.Common.{◌≡◌, ℕ, ◌+◌, ◌*◌, ◌<◌, ◌≤◌, ◌^◌, List, [], ◌++◌, length, take, get_or, sym, ap, ◌∙◌, subst, append_assoc, length-append, arith}
use Rattle.std.specs.List.{All}
use Rattle.std.specs.Int.{w32, w64, to_le_bytes}
use Rattle.std.proofs.lemmas.List.{take_more, take_all}
use Rattle.std.proofs.lemmas.List.Elements.{All-push, All-same}
use Rattle.chain_defs.specs.Schema.{OutPoint}
use Rattle.chain_defs.specs.Row.{Row}
use Rattle.chain_defs.specs.Fits.{FitsRow}
use Rattle.disk_defs.specs.Snapshot.{Snapshot, body_bytes}
use Rattle.disk_defs.proofs.Fields.{rows_bytes, rows-length}

-- one row more fits
pub one-more-fits : (rows : List (OutPoint × Row)) (i : ℕ) (it : OutPoint × Row) → i < length rows → it ≡ get_or rows i it → All FitsRow (take i rows) → FitsRow it
    → All FitsRow (take (i + 1) rows)
one-more-fits rows i it within is fits here =
    All-same FitsRow _ _ (take_more rows i it within) (All-push FitsRow (take i rows) (get_or rows i it) fits (subst FitsRow is here))

pub all-fit : (rows : List (OutPoint × Row)) (i : ℕ) → length rows ≤ i → All FitsRow (take i rows) → All FitsRow rows
all-fit rows i all fits = All-same FitsRow _ _ (sym (take_all i rows all)) fits

-- the head and the rows
pub body-of-parts : (old mid new : List ℕ) (s : Snapshot) → mid ≡ old ++ (to_le_bytes w32 s.number ++ to_le_bytes w32 s.tip ++ s.hash ++ to_le_bytes w64 (length s.rows))
    → new ≡ mid ++ rows_bytes s.rows → new ≡ old ++ body_bytes s
unfolding body_bytes
body-of-parts old mid new s first later =
    later ∙ ap (λ (l : List ℕ). l ++ rows_bytes s.rows) first
    ∙ append_assoc old (to_le_bytes w32 s.number ++ to_le_bytes w32 s.tip ++ s.hash ++ to_le_bytes w64 (length s.rows)) (rows_bytes s.rows)

body-length : (s : Snapshot) → length s.hash ≡ 32 → All FitsRow s.rows → length (body_bytes s) ≡ 48 + 161 * length s.rows
unfolding body_bytes
body-length s hash fits =
    omega (
      arith,
      length-append (to_le_bytes w32 s.number ++ to_le_bytes w32 s.tip ++ s.hash ++ to_le_bytes w64 (length s.rows)) (rows_bytes s.rows),
      length-append (to_le_bytes w32 s.number ++ to_le_bytes w32 s.tip ++ s.hash) (to_le_bytes w64 (length s.rows)),
      length-append (to_le_bytes w32 s.number ++ to_le_bytes w32 s.tip) s.hash,
      hash,
      rows-length s.rows fits,
    )

pub few-bytes : (s : Snapshot) (old body : List ℕ) (count : ℕ) → length s.hash ≡ 32 → All FitsRow s.rows → old ≡ [] → body ≡ old ++ body_bytes s → length s.rows ≡ count
    → count ≤ 2 ^ 50 → length body ≤ 2 ^ 58
few-bytes s old body count hash fits empty is many few =
    omega (arith, ap length is, length-append old (body_bytes s), ap length empty, body-length s hash fits, many, few)
