use Rattle.std.proofs.Common.{ap, sym, ◌∙◌}
use Rattle.verdict_defs.specs.Codes.{NoCode}
use Rattle.script_run.specs.Shown.{GroupValue}
use Rattle.script_run.proofs.RunningLemmas.{lacks-code}
use Rattle.script_run.proofs.running.lacks_code.Goals as goal

pub returns-in-NoCode : goal.returns-in-NoCode
returns-in-NoCode c scene shown =
    lacks-code scene c.args.place c.args.group.now.group c.group.inside.script NoCode (ap (λ (it : GroupValue). it.group.script) c.group.view_is)
    (sym c.is_type_id.ensures ∙ c.if-is_type_id.false) (c.in-NoCode.ensures scene shown)
