-- Bytes written one piece after another.
use Rattle.std.proofs.Common.{◌≡◌, ℕ, ◌+◌, ◌-◌, ◌≤◌, List, length, take, drop, slice_range, refl, sym, ◌∙◌, ap, subst, arith}
use Rattle.std.proofs.lemmas.List.{append-nil, length-take-le, take-append-drop}
use Rattle.std.proofs.Math.Seq.{take-add}
use Rattle.machine_defs.specs.Memory.{overwritten}
use Rattle.machine_defs.proofs.Overwritten.{overwritten-more, take-past}
use Rattle.vm_mem.specs.Pages.{Pages, written}

pub written-none : (old : Pages) (at : ℕ) (bytes : List ℕ) → old ≡ written old at (take 0 bytes)
written-none old at bytes =
    let place : at + 0 ≡ at = omega arith in
    sym (ap (λ b. record old { bytes = b }) (rw (place, append-nil (take at old.bytes)) (take-append-drop at old.bytes)))

pub written-more : (old now new : Pages) (at done size : ℕ) (bytes : List ℕ) → done + size ≤ length bytes
    → now ≡ written old at (take done bytes) → new ≡ written now (at + done) (slice_range bytes done (done + size))
    → new ≡ written old at (take (done + size) bytes)
written-more old now new at done size bytes h before after =
    let count : length (take done bytes) ≡ done = length-take-le done bytes (omega (arith, h)) in
    let some : done + size - done ≡ size = omega arith in
    let more = overwritten-more old.bytes at (take done bytes) (take size (drop done bytes)) in
    let joined : overwritten (overwritten old.bytes at (take done bytes)) (at + done) (take size (drop done bytes)) ≡ overwritten old.bytes at (take (done + size) bytes) =
    subst (λ n. overwritten (overwritten old.bytes at (take done bytes)) (at + n) (take size (drop done bytes)) ≡ overwritten old.bytes at (take (done + size) bytes)) count
    (more ∙ ap (overwritten old.bytes at) (sym (take-add done size bytes))) in
    rw (after, before, some) (ap (λ b. record old { bytes = b }) joined)

pub written-all : (old now : Pages) (at done : ℕ) (bytes : List ℕ) → length bytes ≤ done
    → now ≡ written old at (take done bytes) → now ≡ written old at bytes
written-all old now at done bytes h is = is ∙ rw (take-past bytes done h) refl
