use Rattle.vm_sys.proofs.Exits.{stored-bound}
use Rattle.vm_sys.proofs.loading.store_bytes.Goals as goal

pub returns-clause-bound : goal.returns-clause-bound
returns-clause-bound c =
    stored-bound c.memory_mut.result.now.memory c.copy_in.new.self.memory c.args.at c.args.bytes.now c.copy_in.result c.copy_in.ensures.stores
