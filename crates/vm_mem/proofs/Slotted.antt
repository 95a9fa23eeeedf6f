-- Slots that are right for a memory, and stay right.
use Rattle.std.proofs.Common.{◌≡◌, ◌⊎◌, inl, inr, ℕ, ◌==◌, Bool, true, false, if◌then◌else◌, ◌%◌, ◌-◌, ◌+◌, ◌/◌, ◌^◌, ◌<◌, ◌≤◌, List, length, set, replicate, get_or, Option, Some, None, Result, Ok, Err, refl, sym, ap, ◌∙◌, subst, arith, length-set, OnOk, OnErr, IfSome}
use Rattle.std.proofs.lemmas.Bool.{cases_eq}
use Rattle.std.proofs.lemmas.Nat.{and_comm, and_mask}
use Rattle.std.proofs.lemmas.List.{get_or-replicate, get_or-set_other, get_or-set_same, length-replicate}
use Rattle.machine_defs.specs.declared.ins.Ins.{Ins}
use Rattle.machine_defs.specs.declared.memory.MemFault.{MemFault}
use Rattle.machine_defs.specs.Instruction.{HasRegisters}
use Rattle.machine_defs.specs.Decode.{decode, with_length}
use Rattle.machine_defs.specs.Table.{full_forms}
use Rattle.machine_defs.specs.Compressed.{compressed_forms}
use Rattle.machine_defs.specs.Row.{encoded_in}
use Rattle.std.specs.Option.{option_map}
use Rattle.machine_defs.proofs.DecodeLaws.{decode-registers}
use Rattle.machine_defs.specs.Memory.{Memory, memory_size, new_memory, fetch, store, set_code}
use Rattle.machine_defs.specs.Code.{IsWhole, decoded, instruction_at}
use Rattle.machine_defs.proofs.CodeLaws.{new-whole, store-whole, store-keeps-code, set_code-whole, set_code-keeps-code, instruction-kept, fetch-inside}
use Rattle.vm_mem.specs.declared.slot.Slot.{Slot}
use Rattle.vm_mem.specs.declared.stop.MemStop.{MemStop}
use Rattle.vm_mem.specs.declared.stop.MemStop.TheVariants.{Fault, NoMemory}
use Rattle.vm_mem.specs.Paged.{PagedMemory, Stores}
use Rattle.vm_mem.specs.Kept.{instruction_of}
use Rattle.vm_mem.specs.Slots.{Table, slot_of, AreEmpty, Holding, IsKept}

-- ---- a new memory

pub empty-holding : (memory : Memory) (table : Table) → IsWhole memory → AreEmpty table → Holding memory table
empty-holding memory table whole empty = record {
  whole = whole;
  held = record { count = empty.count; each = λ i other below same. absurd (empty.each i other below same) };
}

pub new-holding : (memory : Memory) (table : Table) → memory ≡ new_memory → AreEmpty table → Holding memory table
new-holding memory table new empty = empty-holding memory table (rw new new-whole) empty

-- the second of slots falls to itself where they are even in number
second-apart : (count : ℕ) → 1 ≤ count → count % 2 ≡ 0 → slot_of (count - 1) 2 ≡ 1
second-apart count some even =
    let odd : (count - 1) % 2 ≡ 1 = omega (arith, some, even) in
    and_comm 1 (count - 1) ∙ and_mask (count - 1) 1 ∙ odd

-- all the same, and the one that they all fall to is another
pub are-empty : (count : ℕ) (slots : List Slot) (empty first : Slot) → 1 ≤ count → count % 2 ≡ 0 → slots ≡ set (replicate count empty) 0 first
    → empty.at ≡ 0 → first.at ≡ 2 → AreEmpty (record { slots = slots; mask = count - 1 })
are-empty count slots empty first some even is at-0 at-2 =
    let size : length (replicate count empty) ≡ count = length-replicate count empty in
    let fits : count ≡ count - 1 + 1 = omega (arith, some) in
    record {
      count = ap length is ∙ length-set (replicate count empty) 0 first ∙ size ∙ fits;
      each = λ i other below. elim (cases_eq i 0) [
        | inl same ↦
            let at : get_or slots i other ≡ first =
            ap (λ xs. get_or xs i other) is ∙ ap (λ n. get_or (set (replicate count empty) 0 first) n other) same
            ∙ get_or-set_same (replicate count empty) 0 first other (rw size (omega (arith, some))) in
            λ falls. absurd (omega (arith, ap (slot_of (count - 1)) (ap (λ (s : Slot). s.at) at ∙ at-2), second-apart count some even, falls, same))
        | inr apart ↦
            let at : get_or slots i other ≡ empty =
            ap (λ xs. get_or xs i other) is
            ∙ get_or-set_other (replicate count empty) 0 i first other apart
            ∙ get_or-replicate count i empty other (omega (arith, below, some)) in
            λ falls. absurd (apart (sym falls ∙ ap (slot_of (count - 1)) (ap (λ (s : Slot). s.at) at ∙ at-0)))
      ];
    }

-- ---- a memory that changed

pub kept : (old new : Memory) (table : Table) → IsWhole new → ((at word : ℕ) → fetch old at ≡ Ok word → fetch new at ≡ Ok word)
    → Holding old table → Holding new table
kept old new table whole keeps holding = record {
  whole = whole;
  held = record {
    count = holding.held.count;
    each = λ i other below falls.
        let before = holding.held.each i other below falls in
        record {
          even = before.even;
          is = instruction-kept old new _ _ (λ word. keeps _ word) before.is;
          registers = before.registers;
          length = before.length;
        };
  };
}

stored : (old new : Memory) (at : ℕ) (bytes : List ℕ) (table : Table) → store old at bytes ≡ Ok new → Holding old table → Holding new table
stored old new at bytes table is holding =
    kept old new table (store-whole old new at bytes holding.whole is)
    (λ place word fetched. store-keeps-code old new place word at bytes holding.whole fetched is) holding

after-store : (expected : Result Memory MemFault) (old new : Memory) (at : ℕ) (bytes : List ℕ) (table : Table) (result : Result (Unit {0}) MemStop)
    → store old at bytes ≡ expected → Stores expected old new result → Holding old table → Holding new table
after-store (Ok changed) old new at bytes table (Ok done) is stores holding = stored old new at bytes table (is ∙ ap Ok (sym stores)) holding
after-store (Ok changed) old new at bytes table (Err NoMemory) is stores holding = rw stores holding
after-store (Ok changed) old new at bytes table (Err (Fault fault)) is stores holding = absurd stores
after-store (Err expected) old new at bytes table (Ok done) is stores holding = absurd stores
after-store (Err expected) old new at bytes table (Err NoMemory) is stores holding = absurd stores
after-store (Err expected) old new at bytes table (Err (Fault fault)) is stores holding = rw stores.1 holding

pub stores-holding : (old new : Memory) (at : ℕ) (bytes : List ℕ) (table : Table) (result : Result (Unit {0}) MemStop)
    → Stores (store old at bytes) old new result → Holding old table → Holding new table
stores-holding old new at bytes table result stores holding = after-store (store old at bytes) old new at bytes table result refl stores holding

pub changed-holding : (expected : Result Memory MemFault) (old new : PagedMemory) (table : Table) (result : Result (Unit {0}) MemFault)
    → OnOk result (Ok new.memory ≡ expected) → OnErr result (new ≡ old)
    → (expected ≡ Ok new.memory → Holding old.memory table → Holding new.memory table) → Holding old.memory table → Holding new.memory table
changed-holding expected old new table (Ok done) changed same keeps holding = keeps (sym changed) holding
changed-holding expected old new table (Err fault) changed same keeps holding = rw same holding

pub clear-holding : (old new : Memory) (at : ℕ) (bytes : List ℕ) (table : Table) → store old at bytes ≡ Ok new → Holding old table → Holding new table
clear-holding = stored

pub set_code-holding : (old new : Memory) (at pages : ℕ) (table : Table) → set_code old at pages ≡ Ok new → Holding old table → Holding new table
set_code-holding old new at pages table is holding =
    kept old new table (set_code-whole old new at pages holding.whole is)
    (λ place word fetched. set_code-keeps-code old new place word at pages holding.whole fetched is) holding

-- ---- what is decoded

pub fault-is : (memory : Memory) (at : ℕ) (fault : MemFault) (fetched : Result ℕ MemFault) → fetched ≡ fetch memory at → fetched ≡ Err fault
    → Err fault ≡ instruction_at memory at
unfolding instruction_at
fault-is memory at fault fetched is failed = sym (ap decoded (sym is ∙ failed))

pub instruction-is : (memory : Memory) (at word : ℕ) (found : Option (Ins × ℕ)) (fetched : Result ℕ MemFault) (result : Option (Ins × ℕ))
    → fetched ≡ fetch memory at → fetched ≡ Ok word → result ≡ decode word → result ≡ found
    → Ok found ≡ instruction_at memory at
unfolding instruction_at
instruction-is memory at word found fetched result is done decodes same =
    sym (ap decoded (sym is ∙ done) ∙ ap Ok (sym decodes ∙ same))

pub cast-fits : (memory : Memory) (at word : ℕ) (fetched : Result ℕ MemFault) → fetched ≡ fetch memory at → fetched ≡ Ok word → at < 2 ^ 32
unfolding memory_size
cast-fits memory at word fetched is done = let inside = fetch-inside memory at word (sym is ∙ done) in omega (arith, inside)

-- a slot that is filled with what is at its address
pub filled : (memory : Memory) (table : Table) (i : ℕ) (slot : Slot) → Holding memory table → IsKept memory slot
    → Holding memory (record table { slots = set table.slots i slot })
filled memory table i slot holding is-kept = record {
  whole = holding.whole;
  held = record {
    count = length-set table.slots i slot ∙ holding.held.count;
    each = λ k other below. elim (cases_eq k i) [
      | inl same ↦
          let here : get_or (set table.slots i slot) k other ≡ slot =
          ap (λ n. get_or (set table.slots i slot) n other) same
          ∙ get_or-set_same table.slots i slot other (omega (arith, holding.held.count, below, same)) in
          rw here (λ falls. is-kept)
      | inr apart ↦ rw (get_or-set_other table.slots i k slot other apart) (holding.held.each k other below)
    ];
  };
}

-- ---- what a slot holds

decoded-registers : (word : Result ℕ MemFault) (found : Ins × ℕ) → decoded word ≡ Ok (Some found) → HasRegisters found.0
decoded-registers (Ok word) found is =
    let decodes : decode word ≡ Some found = cc in
    subst (λ (o : Option (Ins × ℕ)). IfSome o (λ d. HasRegisters d.0)) decodes (decode-registers word)
decoded-registers (Err fault) found is = cc

instruction-registers : (memory : Memory) (at : ℕ) (found : Ins × ℕ) → instruction_at memory at ≡ Ok (Some found) → HasRegisters found.0
unfolding instruction_at
instruction-registers memory at found is = decoded-registers (fetch memory at) found is

-- ---- what a slot is filled with

chosen-length : (full : Bool) (one other : Option Ins) (found : Ins × ℕ)
    → (if full then option_map (with_length 4) one else option_map (with_length 2) other) ≡ Some found → (found.1 ≡ 2) ⊎ (found.1 ≡ 4)
chosen-length true (Some ins) other found is =
    let same : (ins, 4) ≡ found = cc in inr (sym (ap (λ (d : Ins × ℕ). d.1) same))
chosen-length true None other found is = cc
chosen-length false one (Some ins) found is =
    let same : (ins, 2) ≡ found = cc in inl (sym (ap (λ (d : Ins × ℕ). d.1) same))
chosen-length false one None found is = cc

decode-length : (word : ℕ) (found : Ins × ℕ) → decode word ≡ Some found → (found.1 ≡ 2) ⊎ (found.1 ≡ 4)
unfolding decode
decode-length word found is =
    chosen-length (word % 4 == 3) (encoded_in full_forms word) (encoded_in compressed_forms (word % 2 ^ 16)) found is

decoded-length : (word : Result ℕ MemFault) (found : Ins × ℕ) → decoded word ≡ Ok (Some found) → (found.1 ≡ 2) ⊎ (found.1 ≡ 4)
decoded-length (Ok word) found is = let decodes : decode word ≡ Some found = cc in decode-length word found decodes
decoded-length (Err fault) found is = cc

instruction-length : (memory : Memory) (at : ℕ) (found : Ins × ℕ) → instruction_at memory at ≡ Ok (Some found) → (found.1 ≡ 2) ⊎ (found.1 ≡ 4)
unfolding instruction_at
instruction-length memory at found is = decoded-length (fetch memory at) found is

-- the instruction that was decoded, in the form in which it is kept
pub is-kept : (memory : Memory) (at : ℕ) (decoded : Ins × ℕ) (slot : Slot) → at % 2 ≡ 0 → slot.at ≡ at → slot.length ≡ decoded.1
    → instruction_of slot.kept ≡ decoded.0 → Ok (Some decoded) ≡ instruction_at memory at → IsKept memory slot
is-kept memory at decoded slot even at-is length-is form right =
    let found : instruction_at memory slot.at ≡ Ok (Some (instruction_of slot.kept, slot.length)) = rw (at-is, length-is, form) (sym right) in
    record {
      even = rw at-is even;
      is = found;
      registers = instruction-registers memory slot.at _ found;
      length = instruction-length memory slot.at _ found;
    }
