use Rattle.machine_defs.proofs.CodeLaws.{set_code-keeps-code, store-keeps-code}
use Rattle.vm_mem.proofs.laws.code_laws.Goals as goal

pub returns-clause-after_store : goal.returns-clause-after_store
returns-clause-after_store c = store-keeps-code

pub returns-clause-after_set_code : goal.returns-clause-after_set_code
returns-clause-after_set_code c = set_code-keeps-code
