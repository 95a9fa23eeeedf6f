use Rattle.std.proofs.Common.{rules}
use Rattle.machine_defs.specs.Answer.{syscall}
use Rattle.vm_sys.proofs.syscall.handle.Goals as goal

pub returns-in-None-clause-some : goal.returns-in-None-clause-some
unfolding syscall
returns-in-None-clause-some g c = search rules

pub returns-in-None-clause-exact : goal.returns-in-None-clause-exact
unfolding syscall
returns-in-None-clause-exact g c = search rules

pub returns-in-Exits-clause-some : goal.returns-in-Exits-clause-some
unfolding syscall
returns-in-Exits-clause-some g c = search rules

pub returns-in-Exits-clause-exact : goal.returns-in-Exits-clause-exact
unfolding syscall
returns-in-Exits-clause-exact g c = search rules

pub returns-in-Debugs-clause-some : goal.returns-in-Debugs-clause-some
unfolding syscall
returns-in-Debugs-clause-some g c = search rules

pub returns-in-Debugs-clause-exact : goal.returns-in-Debugs-clause-exact
unfolding syscall
returns-in-Debugs-clause-exact g c = search rules

pub returns-in-Loads-clause-some : goal.returns-in-Loads-clause-some
unfolding syscall
returns-in-Loads-clause-some g c = search rules

pub returns-in-Loads-clause-exact : goal.returns-in-Loads-clause-exact
unfolding syscall
returns-in-Loads-clause-exact g c = search rules
