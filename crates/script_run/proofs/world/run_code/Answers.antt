use Rattle.std.proofs.Common.{◌≡◌, sym, ap, ◌∙◌, rules}
use Rattle.std.specs.Prelude.{Some, None, Err}
use Rattle.outside.specs.declared.disk.ReadStop.{ReadStop}
use Rattle.outside.specs.declared.disk.ReadStop.TheVariants.{Damaged, NoMemory}
use Rattle.chain_tree.proofs.ReadLemmas.{no_stop, no_memory_damage}
use Rattle.program_run.specs.declared.program.Stopped.TheVariants.{Loading, Running}
use Rattle.machine_defs.specs.Program.{execution}
use Rattle.machine_defs.specs.Answer.{syscall}
use Rattle.machine_defs.specs.World.{Items}
use Rattle.script_run.proofs.ReadLemmas.{found-through, loading-unread, no-error, running-stop, some-stop}
use Rattle.script_run.proofs.ShowingLemmas.{told-is}
use Rattle.script_run.proofs.SyscallLemmas.{same-items}
use Rattle.script_run.proofs.world.run_code.Goals as goal

pub returns-in-Ok-clause-came : goal.returns-in-Ok-clause-came
returns-in-Ok-clause-came g c = λ stored scene tells shown hash.
    c.in-Ok.ensures.came _ (told-is c.args.tx.now.second c.args.tx.now.epoch_length c.args.tx.now.it c.args.group.now (g.B.Blocks.told c.args.blocks.now) stored scene tells shown)
    ∙ ap (λ (items : Items). execution (syscall items) c.args.budget c.args.code.now) (same-items scene c.args.group.now hash)

pub returns-clause-read : goal.returns-clause-read
returns-clause-read g c =
    let stop = c.in-Err-Running.stop in
    let is : c.execute_in-came.result ≡ Err (Running stop) = search rules in
    record {
      told = search rules;
      count = search rules;
      loans = search rules;
      damage = λ damage same. c.execute_in-came.ensures.damage damage (is ∙ ap (λ (it : ReadStop). Err (Running it)) (some-stop _ _ same));
      cause = search rules;
      found = found-through g.B.Blocks.damages c.args.blocks.now _ c.execute_in-came.new.world.blocks.now (Some stop) (search rules)
          (λ damage same. is ∙ ap (λ (it : ReadStop). Err (Running it)) (some-stop _ _ same)) (λ damage same. running-stop stop _ (sym is ∙ same))
          c.execute_in-came.ensures.answered;
    }

pub returns-in-Ok-clause-read : goal.returns-in-Ok-clause-read
returns-in-Ok-clause-read g c = record {
  told = search rules;
  count = search rules;
  loans = search rules;
  damage = λ damage same. absurd (no_stop (Damaged damage) same);
  cause = search rules;
  found = found-through g.B.Blocks.damages c.args.blocks.now _ c.execute_in-came.new.world.blocks.now None (search rules)
      (λ damage same. absurd (no_stop (Damaged damage) same)) (λ damage same. absurd (no-error _ _ same)) c.in-Ok.ensures.answered;
}

pub returns-in-Err-Loading-clause-read : goal.returns-in-Err-Loading-clause-read
returns-in-Err-Loading-clause-read g c =
    let is : c.execute_in-came.result ≡ Err Loading = search rules in
    record {
      told = search rules;
      count = search rules;
      loans = search rules;
      damage = λ damage same. absurd (no_memory_damage damage same);
      cause = search rules;
      found = found-through g.B.Blocks.damages c.args.blocks.now _ c.execute_in-came.new.world.blocks.now (Some NoMemory) (search rules)
          (λ damage same. absurd (no_memory_damage damage same)) (λ damage same. absurd (loading-unread (Damaged damage) (sym is ∙ same)))
          c.execute_in-came.ensures.answered;
    }
