use Rattle.vm_mem.proofs.LowBytes.{low-bytes}
use Rattle.vm_mem.proofs.paged.Paged.store_slow.Goals as goal

pub returns-clause-stores : goal.returns-clause-stores
returns-clause-stores c =
    rw (← low-bytes c.args.width c.args.value, ← c.size.ensures.count, ← c.to_le_bytes-bytes.ensures) c.copy_in.ensures.stores
