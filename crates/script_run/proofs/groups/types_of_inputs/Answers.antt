use Rattle.std.proofs.Common.{◌≡◌, ◌<◌, List, [], Option, length, map, take, ap, sym, ◌∙◌, arith}
use Rattle.std.proofs.lemmas.List.{take_all}
use Rattle.std.proofs.lemmas.Option.{slice_get_within}
use Rattle.chain_defs.specs.Schema.{Script}
use Rattle.verdict_defs.specs.Scene.{ShownCell}
use Rattle.script_run.specs.Grouping.{grouped}
use Rattle.script_run.specs.Shown.{IsShownAs}
use Rattle.script_run.proofs.GroupLemmas.{grouped-none}
use Rattle.script_run.proofs.WalkLemmas.{Beside, beside, zip-long, map-more, map-taken}
use Rattle.script_run.proofs.groups.types_of_inputs.Goals as goal

abbrev given : ShownCell → Option Script
given cell = cell.output.type_script

pub inputs-init : goal.inputs-init
inputs-init c = record {
  known = c.new-grouping.ensures.known;
  groups = λ cells zip. c.new-grouping.ensures.groups ∙ sym grouped-none;
}

pub inputs-preserved : goal.inputs-preserved
inputs-preserved c = record {
  known = c.in_ok-join_type.ensures.known;
  groups = λ cells zip.
      let at : Beside IsShownAs c.index-copies-i.result cells c.inputs.i =
      beside IsShownAs c.args.copies.now cells c.inputs.i c.index-copies-i.result zip c.inputs-test.true c.index-copies-i.is in
      let within : c.inputs.i < length cells = slice_get_within cells c.inputs.i at.other at.there in
      c.in_ok-join_type.ensures.groups at.other (map given (take c.inputs.i cells)) at.holds (c.inputs.invariant.groups cells zip)
      (map-taken given cells c.inputs.i (omega (arith, within)))
      ∙ ap (λ (l : List (Option Script)). grouped l []) (map-more given cells c.inputs.i at.other at.there);
}

pub returns-clause-groups : goal.returns-clause-groups
returns-clause-groups c cells zip =
    let long : length c.args.copies.now ≡ length cells = zip-long IsShownAs c.args.copies.now cells zip in
    c.inputs.invariant.groups cells zip
    ∙ ap (λ (l : List ShownCell). grouped (map given l) []) (take_all c.inputs.i cells (omega (arith, long, c.inputs-test.false)))
