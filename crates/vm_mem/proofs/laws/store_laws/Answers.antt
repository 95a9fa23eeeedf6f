use Rattle.vm_mem.proofs.StoreLaws.{loads-what-was-stored, store-leaves-the-rest}
use Rattle.vm_mem.proofs.laws.store_laws.Goals as goal

pub returns-clause-same_place : goal.returns-clause-same_place
returns-clause-same_place c = loads-what-was-stored

pub returns-clause-elsewhere : goal.returns-clause-elsewhere
returns-clause-elsewhere c = store-leaves-the-rest
