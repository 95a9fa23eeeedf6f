use Rattle.std.proofs.Common.{sym, ap, ◌∙◌}
use Rattle.serde_json.specs.View.{members_view}
use Rattle.json_defs.specs.Form.{without}
use Rattle.json_defs.specs.Blocks.{free_key}
use Rattle.json_blocks.specs.Reading.{end_at}
use Rattle.json_blocks.proofs.Members.{passed_over, stays}
use Rattle.json_blocks.proofs.reading.end_beside.Goals as goal

pub returns-then-ne : goal.returns-then-ne
returns-then-ne c =
    ap end_at (sym c.members.invariant
    ∙ stays c.members.members c.next.new.self (c.in-Some.name.now, c.in-Some.field-0-1.now) c.as_str.result.now c.ne.result c.in-Some.ensures.steps c.as_str.ensures.value c.ne.ensures c.if-ne.true)

pub members-preserved : goal.members-preserved
members-preserved c =
    sym (passed_over c.members.members c.next.new.self (c.in-Some.name.now, c.in-Some.field-0-1.now) c.as_str.result.now c.ne.result c.in-Some.ensures.steps c.as_str.ensures.value c.ne.ensures c.if-ne.false)
    ∙ c.members.invariant

pub returns : goal.returns
returns c = ap end_at (sym c.members.invariant ∙ ap (λ ms. without free_key (members_view ms)) c.in_default.ensures.steps.0)
