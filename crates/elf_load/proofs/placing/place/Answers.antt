use Rattle.std.proofs.Common.{[], ◌∷◌, ap, subst, sym, ◌∙◌, arith}
use Rattle.elf_load.specs.Placing.{Allocates, with_code}
use Rattle.elf_load.proofs.InMemory.{no_code-part, segment-placed}
use Rattle.elf_load.proofs.placing.place.Goals as goal

pub make_code-requires-clause-no_code : goal.make_code-requires-clause-no_code
make_code-requires-clause-no_code c =
    let s = c.args.segment.now in
    no_code-part c.args.memory.now.memory c.write_contents.new.memory.memory s.address s.memory_size s.address s.memory_size
    (ap (λ memory. memory.kinds) c.in_ok-write_contents.ensures.written) (omega arith) (omega arith) c.requires.no_code

pub returns-clause-placed : goal.returns-clause-placed
returns-clause-placed c =
    c.make_code.ensures.code ∙ ap (λ memory. with_code memory c.args.segment.now) c.in_ok-write_contents.ensures.written
    ∙ segment-placed c.args.file.now c.args.memory.now.memory c.args.segment.now

pub returns-clause-allocated : goal.returns-clause-allocated
returns-clause-allocated c =
    subst (Allocates (c.args.segment.now ∷ []) c.args.memory.now.allocated) (sym c.make_code.ensures.allocated) c.in_ok-write_contents.ensures.allocated
