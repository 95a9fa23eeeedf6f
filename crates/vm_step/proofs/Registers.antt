-- Registers that are written: those that are seen are the first 32, and the one after them is in the place of x0.
use Rattle.std.proofs.Common.{◌≡◌, ◌≢◌, ◌⊎◌, inl, inr, ℕ, ◌<◌, List, slice_index, slice_set, take, refl, ap, sym, ◌∙◌, arith, eq-eqb, get_or-set_other}
use Rattle.std.proofs.lemmas.Bool.{cases_lt}
use Rattle.std.proofs.lemmas.List.{get_or-take, take-set-le}
use Rattle.std.proofs.Math.Seq.{take-set-lt}
use Rattle.machine_defs.proofs.RowLaws.{not_equal}
use Rattle.machine_defs.specs.Step.{Machine, register, with_register}
use Rattle.vm_mem.specs.Kept.{target_of}
use Rattle.vm_step.specs.Running.{RunningMachine}

-- a target that stands for x0, or for the register of its own number
record IsDropped (rd : ℕ) : Type 0 where
  last : rd ≡ 32
  is : target_of rd ≡ 0

record IsWritten (rd : ℕ) : Type 0 where
  some : 0 < rd
  below : rd < 32
  is : target_of rd ≡ rd

cases-target : (rd : ℕ) → target_of rd < 32 → IsDropped rd ⊎ IsWritten rd
unfolding target_of
cases-target rd below =
    elim (cases_lt rd 1) [
      | inl none ↦ (
          let zero : rd ≡ 0 = omega (arith, none) in
          absurd (let never : 32 < 32 = rw (eq-eqb rd 0 zero) at below in omega (arith, never)))
      | inr some ↦ (
          let first = not_equal rd 0 (λ zero. absurd (omega (arith, some, zero))) in
          elim (cases_lt rd 32) [
            | inl less ↦ inr (record {
              some = omega (arith, some);
              below = less;
              is = rw (first, not_equal rd 32 (λ last. absurd (omega (arith, less, last)))) refl;
            })
            | inr more ↦ elim (cases_lt 32 rd) [
              | inl above ↦ absurd (
                  let never : rd < 32 = rw (first, not_equal rd 32 (λ last. absurd (omega (arith, above, last)))) at below in
                  omega (arith, never, above))
              | inr not-above ↦ (
                  let last : rd ≡ 32 = omega (arith, more, not-above) in
                  inl (record { last = last; is = rw (first, eq-eqb rd 32 last) refl }))
            ]
          ])
    ]

pub target-bound : (rd : ℕ) → target_of rd < 32 → rd < 33
target-bound rd below =
    elim (cases-target rd below) [
      | inl dropped ↦ let last = dropped.last in omega (arith, last)
      | inr written ↦ let less = written.below in omega (arith, less)
    ]

-- x0 stays 0
pub zero-stays : (registers : List ℕ) (rd value : ℕ) → target_of rd < 32 → slice_index registers 0 ≡ 0
    → slice_index (slice_set registers rd value) 0 ≡ 0
zero-stays registers rd value below zero =
    get_or-set_other registers rd 0 value 0 (elim (cases-target rd below) [
      | inl dropped ↦ let last = dropped.last in λ same. absurd (omega (arith, last, same))
      | inr written ↦ let some = written.some in λ same. absurd (omega (arith, some, same))
    ]) ∙ zero

-- what is seen of a write
set-seen : (machine : Machine) (registers : List ℕ) (i value : ℕ) → machine.registers ≡ take 32 registers → 0 < i → i < 32
    → record machine { registers = take 32 (slice_set registers i value) } ≡ with_register machine i value
unfolding with_register
set-seen machine registers i value seen some below =
    rw (not_equal i 0 (λ none. absurd (omega (arith, some, none))))
    (ap (λ (all : List ℕ). record machine { registers = all }) (take-set-lt 32 registers i value below ∙ ap (λ (all : List ℕ). slice_set all i value) (sym seen)))

dropped-seen : (machine : Machine) (registers : List ℕ) (value : ℕ) → machine.registers ≡ take 32 registers
    → record machine { registers = take 32 (slice_set registers 32 value) } ≡ with_register machine 0 value
unfolding with_register
dropped-seen machine registers value seen =
    ap (λ (all : List ℕ). record machine { registers = all }) (take-set-le 32 registers 32 value (omega arith) ∙ sym seen)

target-seen : (machine : Machine) (registers : List ℕ) (rd value : ℕ) → machine.registers ≡ take 32 registers → target_of rd < 32
    → record machine { registers = take 32 (slice_set registers rd value) } ≡ with_register machine (target_of rd) value
target-seen machine registers rd value seen below =
    elim (cases-target rd below) [
      | inl dropped ↦ rw (dropped.is, dropped.last) (dropped-seen machine registers value seen)
      | inr written ↦ rw written.is (set-seen machine registers rd value seen written.some written.below)
    ]

-- The same of a machine that runs, as the code sees it.
pub target-written : (old seen : RunningMachine) (registers : List ℕ) (rd value : ℕ) → seen ≡ old → seen.machine.registers ≡ take 32 registers
    → target_of rd < 32
    → record seen { machine = record seen.machine { registers = take 32 (slice_set registers rd value) } }
    ≡ record old { machine = with_register old.machine (target_of rd) value }
target-written old seen registers rd value same is below =
    ap (λ (machine : Machine). record seen { machine = machine }) (target-seen seen.machine registers rd value is below)
    ∙ ap (λ (running : RunningMachine). record running { machine = with_register running.machine (target_of rd) value }) same

pub register-written : (old seen : RunningMachine) (registers : List ℕ) (i value : ℕ) → seen ≡ old → seen.machine.registers ≡ take 32 registers
    → i ≢ 0 → i < 32
    → record seen { machine = record seen.machine { registers = take 32 (slice_set registers i value) } }
    ≡ record old { machine = with_register old.machine i value }
register-written old seen registers i value same is other below =
    ap (λ (machine : Machine). record seen { machine = machine }) (set-seen seen.machine registers i value is (omega (arith, other)) below)
    ∙ ap (λ (running : RunningMachine). record running { machine = with_register running.machine i value }) same

-- A register is read.
pub register-read : (machine : Machine) (registers : List ℕ) (i : ℕ) → machine.registers ≡ take 32 registers → i < 32 → slice_index registers 0 ≡ 0
    → slice_index registers i ≡ register machine i
unfolding register
register-read machine registers i seen below zero =
    elim (cases_lt i 1) [
      | inl none ↦ (
          let first : i ≡ 0 = omega (arith, none) in
          rw (eq-eqb i 0 first) (ap (slice_index registers) first ∙ zero))
      | inr some ↦ (
          rw (not_equal i 0 (λ first. absurd (omega (arith, some, first))))
          (sym (ap (λ (all : List ℕ). slice_index all i) seen ∙ get_or-take 32 registers i 0 below)))
    ]
