use Rattle.std.proofs.Common.{◌-◌, ◌∙◌, ℕ, length, Err, ap}
use Rattle.machine_defs.specs.Memory.{store}
use Rattle.elf_load.proofs.Allocating.{allocates-one}
use Rattle.elf_load.proofs.InMemory.{length-inside, bytes-made, bytes-stored, contents-stored, done-ok, stored-unrefused, unrefused}
use Rattle.elf_load.proofs.placing.write_contents.Goals as goal

pub unreachable-requires : goal.unreachable-requires
unreachable-requires c =
    let memory = c.args.memory.now.memory in
    let ok = bytes-stored c.args.file.now memory c.args.segment.now c.address-address.result c.bytes_in_file.result.now
    c.requires.in_file c.requires.sizes c.requires.in_memory c.requires.no_code c.address-address.ensures c.bytes_in_file.ensures in
    stored-unrefused (store memory c.address-address.result c.bytes_in_file.result.now) _ memory c.copy_in.new.self.memory
    c.in-Err-Fault.field-0 c.in-Err-Fault.field-0-0 ok c.in-Err-Fault.field-0-is c.in-Err-Fault.ensures.stores

pub returns-in-Err-NoMemory-clause-needs_no_memory : goal.returns-in-Err-NoMemory-clause-needs_no_memory
returns-in-Err-NoMemory-clause-needs_no_memory c = λ all.
    let allocated = bytes-made c.args.memory.now.allocated c.args.file.now c.args.segment.now c.address-address.result c.bytes_in_file.result.now all
    c.requires.in_file c.requires.sizes c.requires.in_memory c.address-address.ensures c.bytes_in_file.ensures in
    absurd (c.copy_in.ensures.needs_no_memory allocated (c.in-Err-NoMemory.is ∙ ap Err c.in-Err-NoMemory.field-0-is))

pub unwrap-requires : goal.unwrap-requires
unwrap-requires c =
    let size = c.file_size-file_size.result in
    let ok = contents-stored c.args.file.now c.args.memory.now.memory c.copy_in.new.self.memory c.args.segment.now
    c.address-address.result size (c.memory_size.result - size) c.bytes_in_file.result.now
    c.requires.in_file c.requires.sizes c.requires.in_memory c.requires.no_code
    c.address-address.ensures c.file_size-file_size.ensures (ap (λ (n : ℕ). n - size) c.memory_size.ensures) c.bytes_in_file.ensures c.in-Ok.ensures.stores in
    unrefused c.clear.result _ _ c.clear.ensures.fault ok

pub returns-clause-written : goal.returns-clause-written
returns-clause-written c =
    let size = c.file_size-file_size.result in
    let ok = contents-stored c.args.file.now c.args.memory.now.memory c.copy_in.new.self.memory c.args.segment.now
    c.address-address.result size (c.memory_size.result - size) c.bytes_in_file.result.now
    c.requires.in_file c.requires.sizes c.requires.in_memory c.requires.no_code
    c.address-address.ensures c.file_size-file_size.ensures (ap (λ (n : ℕ). n - size) c.memory_size.ensures) c.bytes_in_file.ensures c.in-Ok.ensures.stores in
    done-ok c.clear.result _ _ c.clear.new.self.memory (unrefused c.clear.result _ _ c.clear.ensures.fault ok) c.clear.ensures.cleared ok

pub returns-clause-allocated : goal.returns-clause-allocated
returns-clause-allocated c =
    let s = c.args.segment.now in
    allocates-one c.args.memory.now.allocated c.copy_in.new.self.allocated c.clear.new.self.allocated s c.address-address.result
    (length c.bytes_in_file.result.now) c.address-address.ensures
    (ap length c.bytes_in_file.ensures ∙ length-inside c.args.file.now s.offset s.file_size c.requires.in_file)
    c.in-Ok.ensures.allocated c.copy_in.ensures.pages_kept c.copy_in.ensures.pages_added c.clear.ensures.allocated
