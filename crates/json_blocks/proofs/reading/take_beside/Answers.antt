use Rattle.std.proofs.Common.{sym, ap, ◌∙◌}
use Rattle.serde_json.specs.View.{members_view}
use Rattle.json_defs.specs.Form.{without}
use Rattle.json_defs.specs.Blocks.{free_key}
use Rattle.json_blocks.specs.Reading.{take_at}
use Rattle.json_blocks.proofs.Members.{passed_over}
use Rattle.json_blocks.proofs.reading.take_beside.Goals as goal

pub members-preserved : goal.members-preserved
members-preserved c =
    sym (passed_over c.members.members c.next.new.self (c.in-Some.name.now, c.in-Some.value.now) c.as_str.result.now c.ne.result c.in-Some.ensures.steps c.as_str.ensures.value c.ne.ensures c.if-ne.false)
    ∙ c.members.invariant

pub returns : goal.returns
returns c = ap (take_at c.args.key.now) (sym c.members.invariant ∙ ap (λ ms. without free_key (members_view ms)) c.in_default.ensures.steps.0)
