use Rattle.std.proofs.Common.{◌/◌, ap, arith, inl, refl, sym}
use Rattle.machine_defs.specs.Memory.{page_size}
use Rattle.vm_sys.proofs.Exits.{all-held, first-held, placed-first, placed-out, placed-rest, placed-written, rest-held}
use Rattle.vm_sys.proofs.loading.place_code.Goals.{then-size-gt-MEMORY_SIZE-via-then-size-gt-MEMORY_SIZE, then-size-gt-MEMORY_SIZE-via-else-size-gt-MEMORY_SIZE+then-at-size}
use Rattle.vm_sys.proofs.loading.place_code.Goals as goal

pub returns-then-size-gt-MEMORY_SIZE-clause-placed : goal.returns-then-size-gt-MEMORY_SIZE-clause-placed
returns-then-size-gt-MEMORY_SIZE-clause-placed c =
    placed-out c.args.memory.now.memory c.args.memory.now.memory c.args.at c.args.size _ c.args.content.now c.requires.fits
    (elim c.then-size-gt-MEMORY_SIZE.branch [
      | then-size-gt-MEMORY_SIZE-via-then-size-gt-MEMORY_SIZE w ↦ omega (arith, w.if-size-gt-MEMORY_SIZE.true)
      | then-size-gt-MEMORY_SIZE-via-else-size-gt-MEMORY_SIZE+then-at-size w ↦ omega (arith, w.if-size-gt-MEMORY_SIZE.false, w.if-at-size.true)
    ])

pub returns-in-Err-clause-placed : goal.returns-in-Err-clause-placed
returns-in-Err-clause-placed c =
    placed-first c.args.memory.now.memory c.copy_in.new.self.memory c.args.at c.args.size (c.args.size / page_size) c.args.content.now c.in-Err.stop c.requires.fits
    c.if-size-gt-MEMORY_SIZE.false c.if-at-size.false c.in-Err.ensures.stores

pub returns-in-Err-clear-clause-placed : goal.returns-in-Err-clear-clause-placed
returns-in-Err-clear-clause-placed c =
    placed-rest c.args.memory.now.memory c.copy_in.new.self.memory c.clear.new.self.memory c.args.at c.args.size (c.args.size / page_size) c.args.content.now
    c.in-Err-clear.fault c.requires.fits c.if-size-gt-MEMORY_SIZE.false c.if-at-size.false c.in-Ok.ensures.stores
    ((c.clear.ensures.fault c.in-Err-clear.fault).0 c.in-Err-clear.is)

pub returns-in-Ok-set_code-clause-placed : goal.returns-in-Ok-set_code-clause-placed
returns-in-Ok-set_code-clause-placed c =
    rw (placed-written c.args.memory.now.memory c.copy_in.new.self.memory c.clear.new.self.memory c.args.at c.args.size c.args.content.now
    c.requires.fits c.if-size-gt-MEMORY_SIZE.false c.if-at-size.false c.in-Ok.ensures.stores c.in-Ok-clear.ensures.cleared)
    (sym c.in-Ok-set_code.ensures.code)

pub returns-in-Err-set_code-clause-placed : goal.returns-in-Err-set_code-clause-placed
returns-in-Err-set_code-clause-placed c =
    rw (placed-written c.args.memory.now.memory c.copy_in.new.self.memory c.clear.new.self.memory c.args.at c.args.size c.args.content.now
    c.requires.fits c.if-size-gt-MEMORY_SIZE.false c.if-at-size.false c.in-Ok.ensures.stores c.in-Ok-clear.ensures.cleared)
    ((c.set_code.ensures.fault c.in-Err-set_code.fault).0 c.in-Err-set_code.is)

pub returns-then-size-gt-MEMORY_SIZE-clause-in_part : goal.returns-then-size-gt-MEMORY_SIZE-clause-in_part
returns-then-size-gt-MEMORY_SIZE-clause-in_part c = inl refl

pub returns-in-Err-clause-in_part : goal.returns-in-Err-clause-in_part
returns-in-Err-clause-in_part c =
    first-held c.args.memory.now.memory c.copy_in.new.self.memory c.args.at c.args.size c.args.content.now c.in-Err.stop c.in-Err.ensures.stores

pub returns-in-Err-clear-clause-in_part : goal.returns-in-Err-clear-clause-in_part
returns-in-Err-clear-clause-in_part c =
    rest-held c.args.memory.now.memory c.copy_in.new.self.memory c.clear.new.self.memory c.args.at c.args.size c.args.content.now c.requires.fits
    c.in-Ok.ensures.stores (ap (λ paged. paged.memory) c.in-Err-clear.ensures.kept)

pub returns-in-Err-set_code-clause-in_part : goal.returns-in-Err-set_code-clause-in_part
returns-in-Err-set_code-clause-in_part c =
    all-held c.args.memory.now.memory c.copy_in.new.self.memory c.clear.new.self.memory c.set_code.new.self.memory c.args.at c.args.size c.args.content.now
    c.requires.fits c.if-size-gt-MEMORY_SIZE.false c.if-at-size.false c.in-Ok.ensures.stores c.in-Ok-clear.ensures.cleared
    (ap (λ paged. paged.memory) c.in-Err-set_code.ensures.kept)
