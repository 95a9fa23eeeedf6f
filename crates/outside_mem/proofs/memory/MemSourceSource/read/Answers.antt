use Rattle.std.proofs.Common.{◌∙◌, ap, sym}
use Rattle.outside.proofs.Streams.{given_prefix}
use Rattle.outside_mem.proofs.memory.MemSourceSource.read.Goals as goal

pub returns-clause-given : goal.returns-clause-given
returns-clause-given c =
    ap (λ v. v.left) (sym c.self.view_is) ∙ given_prefix _ _ _ _ _ _ _ c.deref.ensures.value c.copy_from_slice.ensures.after c.min-n.ensures
