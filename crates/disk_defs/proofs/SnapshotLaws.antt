-- The bytes of an area tell the snapshot that they hold.
use Rattle.std.proofs.Common.{◌≡◌, ℕ, ◌*◌, ◌<◌, ◌^◌, List, ◌++◌, length, refl, sym, ap, ◌∙◌, subst, arith}
use Rattle.std.proofs.lemmas.Bool.{lt-ltb}
use Rattle.std.proofs.lemmas.Nat.{from_le_bytes-to_le_bytes_4}
use Rattle.disk_defs.specs.Snapshot.{Snapshot, snapshot_bytes, body_bytes}
use Rattle.disk_defs.specs.SnapshotLaws.{BytesDetermineSnapshots, IsOpenWith, OpensItsGate, FindsItself}
use Rattle.disk_defs.proofs.Fields.{same-parts, same-rows, rows_bytes, rows-length, head-length, same-head, head_of, in-parts}

same-snapshot : (one other : Snapshot) → one.number ≡ other.number → one.tip ≡ other.tip → one.hash ≡ other.hash → one.rows ≡ other.rows → one ≡ other
same-snapshot one other number tip hash rows t = record { number = number t; tip = tip t; hash = hash t; rows = rows t }

pub bytes-tell-snapshots : BytesDetermineSnapshots
bytes-tell-snapshots bytes one other holds as_holds =
    let f = holds.form in
    let g = as_holds.form in
    let whole : head_of one ++ (rows_bytes one.rows ++ holds.after) ≡ head_of other ++ (rows_bytes other.rows ++ as_holds.after) =
    sym (in-parts one holds.after) ∙ sym holds.parts ∙ as_holds.parts ∙ in-parts other as_holds.after in
    let halves = same-parts (head_of one) (head_of other) _ _ 49 (head-length one.number one.tip one.hash (length one.rows) f.hash)
    (head-length other.number other.tip other.hash (length other.rows) g.hash) whole in
    let head = same-head one.number one.tip one.hash (length one.rows) other.number other.tip other.hash (length other.rows)
    f.number f.tip f.hash f.few g.number g.tip g.hash g.few halves.0 in
    let rows = same-parts (rows_bytes one.rows) (rows_bytes other.rows) _ _ (161 * length one.rows)
    (rows-length one.rows f.fits) (rows-length other.rows g.fits ∙ ap (λ (n : ℕ). 161 * n) (sym head.counts)) halves.1 in
    same-snapshot one other head.numbers head.tips head.hashes (same-rows one.rows other.rows head.counts f.fits g.fits rows.0)

open-with : (s : Snapshot) (after : List ℕ) → s.number < 2 ^ 32 → IsOpenWith (snapshot_bytes s ++ after) s
unfolding body_bytes
open-with s after fits = record {
  gate = lt-ltb 1 (length (snapshot_bytes s ++ after)) (omega arith);
  number = from_le_bytes-to_le_bytes_4 s.number fits;
}

pub opens-its-gate : OpensItsGate
opens-its-gate bytes s holds = subst (λ (b : List ℕ). IsOpenWith b s) (sym holds.parts) (open-with s holds.after holds.form.number)

pub finds-itself : FindsItself
finds-itself s after form = record { form = form; after = after; parts = refl }
