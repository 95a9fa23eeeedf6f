use Rattle.vm_mem.proofs.paged.Paged.store.Goals as goal

pub returns-then-not-is_ready : goal.returns-then-not-is_ready
returns-then-not-is_ready c = record {
  stores = c.store_slow.ensures.stores;
  needs_no_memory = c.store_slow.ensures.needs_no_memory;
  allocated = c.store_slow.ensures.allocated;
  pages_kept = c.store_slow.ensures.pages_kept;
  pages_added = c.store_slow.ensures.pages_added;
  refused = c.store_slow.ensures.refused;
}
