-- Where snapshots go, and sound areas.
use Rattle.std.proofs.Common.{◌≡◌, ℕ, ◌+◌, ◌≤◌, ◌%◌, Bool, true, false, List, ◌++◌, length, Option, Some, None, refl, sym, ap, ◌∙◌, subst, arith}
use Rattle.std.specs.Prelude.{◌==◌, if◌then◌else◌, IsSomeAnd}
use Rattle.std.proofs.lemmas.Bool.{eqb-true, eqb-false, eq-eqb, ne_eqb}
use Rattle.std.proofs.lemmas.List.{length-append}
use Rattle.chain_defs.specs.Schema.{Block}
use Rattle.chain_defs.specs.Kept.{block_hash}
use Rattle.chain_defs.specs.Row.{live_row}
use Rattle.outside.specs.declared.disk.Area.{Area}
use Rattle.outside.specs.declared.disk.Area.TheVariants.{Log, SnapA, SnapB}
use Rattle.disk_defs.specs.Snapshot.{Snapshot, snapshot_bytes, has_open_gate, Holds, area_of, IsOfBlocks, HoldsSound}
use Rattle.disk_defs.specs.SnapshotLaws.{GoesByParity, NoneInTheLog, AreasTakeTurns, ClosedIsSound, HeldIsSound, ItsBytesAreSound, SoundHoldsItsOwn, SoundHasItsNumber, IsOfItsTip, ListsItsRows}
use Rattle.disk_defs.proofs.Fields.{head_of, head-length, rows_bytes, in-parts}
use Rattle.disk_defs.proofs.SnapshotLaws.{bytes-tell-snapshots, opens-its-gate, finds-itself}

-- ---- Areas

abbrev area-by : Bool → Area
area-by odd = if odd then SnapA else SnapB

pub goes-by-parity : GoesByParity
goes-by-parity number = record {
  odd = λ one. ap area-by (eq-eqb (number % 2) 1 one);
  even = λ none. ap area-by (ne_eqb (number % 2) 1 (λ one. absurd (omega (arith, none, one))));
}

no-log : (odd : Bool) → area-by odd ≡ Log → ⊥
no-log true is = absurd (cc)
no-log false is = absurd (cc)

pub none-in-the-log : NoneInTheLog
none-in-the-log number is = no-log (number % 2 == 1) is

same-parity : (one other : Bool) → area-by one ≡ area-by other → one ≡ other
same-parity true true is = refl
same-parity false false is = refl
same-parity true false is = absurd (cc)
same-parity false true is = absurd (cc)

pub areas-take-turns : AreasTakeTurns
areas-take-turns number is = by ((number + 1) % 2 == 1) refl
  where
    same : ((number + 1) % 2 == 1) ≡ (number % 2 == 1)
    same = same-parity ((number + 1) % 2 == 1) (number % 2 == 1) is

    by : (odd : Bool) → ((number + 1) % 2 == 1) ≡ odd → ⊥
    by true next = omega (arith, eqb-true ((number + 1) % 2) 1 next, eqb-true (number % 2) 1 (sym same ∙ next))
    by false next = omega (arith, eqb-false ((number + 1) % 2) 1 next, eqb-false (number % 2) 1 (sym same ∙ next))

-- ---- Sound areas

not-both : (b : Bool) → b ≡ false → b ≡ true → ⊥
not-both false closed opens = absurd (cc)
not-both true closed opens = absurd (cc)

pub closed-is-sound : ClosedIsSound
closed-is-sound kept area bytes closed opens = absurd (not-both (has_open_gate bytes) closed opens)

pub held-is-sound : HeldIsSound
held-is-sound kept bytes s holds of_blocks opens = (s, record { holds = holds; here = refl; of_blocks = of_blocks })

pub its-bytes-are-sound : ItsBytesAreSound
its-bytes-are-sound kept s after form of_blocks = held-is-sound kept (snapshot_bytes s ++ after) s (finds-itself s after form) of_blocks

pub sound-holds-its-own : SoundHoldsItsOwn
sound-holds-its-own kept area bytes s sound holds =
    let it : (found : Snapshot) × HoldsSound kept area bytes found = sound (opens-its-gate bytes s holds).gate in
    let same : it.0 ≡ s = bytes-tell-snapshots bytes it.0 s it.1.holds holds in
    record {
      here = ap (λ (x : Snapshot). area_of x.number) (sym same) ∙ it.1.here;
      of_blocks = subst (IsOfBlocks kept) same it.1.of_blocks;
    }

-- bytes that hold a snapshot have what comes before its rows
long-enough : (bytes : List ℕ) (s : Snapshot) → Holds bytes s → 49 ≤ length bytes
long-enough bytes s holds =
    omega (
      arith,
      ap length (holds.parts ∙ in-parts s holds.after),
      head-length s.number s.tip s.hash (length s.rows) holds.form.hash,
      length-append (head_of s) (rows_bytes s.rows ++ holds.after),
    )

pub sound-has-its-number : SoundHasItsNumber
sound-has-its-number kept area bytes sound opens =
    let it : (found : Snapshot) × HoldsSound kept area bytes found = sound opens in
    (ap area_of (opens-its-gate bytes it.0 it.1.holds).number ∙ it.1.here, long-enough bytes it.0 it.1.holds)

pub is-of-its-tip : IsOfItsTip
is-of-its-tip kept s tip rows there hash same lists = record {
  tip = subst (λ (found : Option Block). IsSomeAnd found (λ b. block_hash b ≡ s.hash)) (sym there) hash;
  rows = record {
    rising = lists.rising;
    each = λ o row. (λ has. sym (same o) ∙ (lists.each o row).0 has, λ found. (lists.each o row).1 (same o ∙ found));
  };
}

-- of two that have the same values one is the other
same-values : {X : Type 0} (one other : Option X) → ((x : X) → one ≡ Some x → other ≡ Some x) → ((x : X) → other ≡ Some x → one ≡ Some x) → one ≡ other
same-values None None there back = refl
same-values None (Some x) there back = back x refl
same-values (Some x) other there back = sym (there x refl)

pub tells-its-rows : ListsItsRows
tells-its-rows kept s rows is lists o =
    same-values (rows o) (live_row kept s.tip o) (λ row has. (is.rows.each o row).0 ((lists.each o row).1 has))
    (λ row has. (lists.each o row).0 ((is.rows.each o row).1 has))
