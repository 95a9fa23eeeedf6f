use Rattle.machine_defs.proofs.AloneLaws.{runs-alone}
use Rattle.machine_defs.proofs.AccountLaws.{syscalls-keep-account}
use Rattle.machine_defs.proofs.syscall.syscall_laws.Goals as goal

pub returns-clause-alone : goal.returns-clause-alone
returns-clause-alone c = runs-alone

pub returns-clause-account : goal.returns-clause-account
returns-clause-account c = syscalls-keep-account
