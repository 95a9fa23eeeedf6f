use Rattle.std.proofs.Common.{◌≡◌, ◌+◌, ◌<◌, ◌≤◌, List, Option, length, sym, ap, ◌∙◌, subst, arith}
use Rattle.std.proofs.lemmas.List.{length_push}
use Rattle.std.specs.Prelude.{IsSome}
use Rattle.chain_defs.specs.Branch.{distance}
use Rattle.chain_defs.proofs.BranchLaws.{parent_place-below}
use Rattle.chain_tree.specs.Told.{Stored, blocks_of}
use Rattle.chain_tree.proofs.BlockLemmas.{len-same}
use Rattle.chain_tree.proofs.ReadLemmas.{unread, read_on}
use Rattle.chain_defs.specs.Row.{live_row}
use Rattle.cell_state.specs.State.{rows}
use Rattle.outside.proofs.Endings.{handed}
use Rattle.cell_state.proofs.BelowLemmas.{live-below}
use Rattle.cell_state.proofs.DistanceLemmas.{none-away, high-nearer, low-nearer}
use Rattle.cell_state.proofs.PathLemmas.{path-none, path-more}
use Rattle.cell_state.proofs.WayLemmas.{each-none, each-more, stored-there, taken-here, parent-there}
use Rattle.cell_state.proofs.OnWayLemmas.{high-on-way, low-on-way, on-branch-of-child, own, way-by-high, way-by-low}
use Rattle.cell_state.specs.Moves.{IsOnTheWay}
use Rattle.cell_state.proofs.HandLemmas.{hand-at}
use Rattle.cell_state.proofs.moving.go_down.Goals as goal

pub down-init : goal.down-init
down-init g c =
    let none = c.new-up.ensures.items in
    let long : length c.new-up.result.items ≡ 0 = ap length none in
    record {
      read = unread c.args.blocks.now;
      low = c.requires.from;
      high = c.requires.to;
      up_to = each-none (λ place. place ≤ c.args.to) c.new-up.result.items none;
      lower = omega arith;
      higher = omega arith;
      below = λ end less are. are;
      within = each-none (λ place. place < length c.args.tree.now.entries) c.new-up.result.items none;
      path = λ kept indexes. path-none kept c.args.to c.new-up.result.items none;
      way = λ kept indexes place way. way;
      down = λ kept indexes place on. on;
      on_way = λ kept indexes. each-none (IsOnTheWay kept c.args.from c.args.to) c.new-up.result.items none;
      rows = λ stored tells indexes can are. are;
      steps = λ kept indexes. omega (arith, long);
    }

pub down-preserved-in-Some : goal.down-preserved-in-Some
down-preserved-in-Some g c =
    let grown = c.in-Ok.ensures.items in
    let more : length c.push.new.self.items ≡ length c.down.up.items + 1 = ap length grown ∙ length_push c.down.up.items c.down.high in
    record {
      read = c.down.invariant.read;
      low = c.down.invariant.low;
      high = c.in-Some.ensures.within;
      up_to = each-more (λ place. place ≤ c.args.to) c.down.up.items c.push.new.self.items c.down.high grown c.down.invariant.higher c.down.invariant.up_to;
      lower = c.down.invariant.lower;
      higher = let earlier = c.in-Some.ensures.earlier in let most = c.down.invariant.higher in omega (arith, earlier, most);
      below = c.down.invariant.below;
      within = each-more (λ place. place < length c.args.tree.now.entries) c.down.up.items c.push.new.self.items c.down.high grown c.down.invariant.high c.down.invariant.within;
      path = λ kept indexes.
          let same = len-same kept c.args.tree.now.entries indexes in
          let to = c.requires.to in
          path-more kept c.args.to c.down.up.items c.push.new.self.items c.down.high c.in-Some.parent indexes.is_kept (omega (arith, same, to))
          (c.down.invariant.path kept indexes) grown (sym (c.in-Some.ensures.of_blocks kept indexes));
      way = λ kept indexes place way. c.down.invariant.way kept indexes place
          (way-by-high kept c.down.low c.down.high c.in-Some.parent place c.if-low-high.true (sym (c.in-Some.ensures.of_blocks kept indexes)) way);
      down = c.down.invariant.down;
      on_way = λ kept indexes.
          each-more (IsOnTheWay kept c.args.from c.args.to) c.down.up.items c.push.new.self.items c.down.high grown
          (c.down.invariant.way kept indexes c.down.high (high-on-way kept c.down.low c.down.high c.if-low-high.true))
          (c.down.invariant.on_way kept indexes);
      rows = c.down.invariant.rows;
      steps = λ kept indexes.
          let before = c.down.invariant.steps kept indexes in
          let nearer = high-nearer kept c.down.low c.down.high c.in-Some.parent c.if-low-high.true (sym (c.in-Some.ensures.of_blocks kept indexes)) in
          omega (arith, more, before, nearer);
    }

pub returns-in-Err-undo_at-clause-undamaged : goal.returns-in-Err-undo_at-clause-undamaged
returns-in-Err-undo_at-clause-undamaged g c stored tells indexes can are damage same =
    let it = stored-there stored c.args.tree.now.entries c.down.low indexes c.down.invariant.low in
    let parent = parent-there (blocks_of stored) c.args.tree.now.entries c.down.low indexes c.down.invariant.low (omega arith) in
    c.in-Err-undo_at.ensures.undamaged stored it.0 (live_row (blocks_of stored) parent.0) (c.down.invariant.read.told ∙ tells) it.1
    (taken-here stored c.args.from c.args.to c.down.low parent.0 it.0 (rows c.down.state) can
    (c.down.invariant.down (blocks_of stored) indexes c.down.low (own (blocks_of stored) c.down.low))
    (c.down.invariant.way (blocks_of stored) indexes c.down.low (low-on-way (blocks_of stored) c.down.low c.down.high (omega arith))) it.1 parent.1 (c.down.invariant.rows stored tells indexes can are))
    (live-below (blocks_of stored) parent.0 c.down.low (parent_place-below (blocks_of stored) c.down.low parent.0 parent.1))
    damage (handed c.in-Err-undo_at.stop _ same)

pub returns-in-Err-undo_at-clause-most : goal.returns-in-Err-undo_at-clause-most
returns-in-Err-undo_at-clause-most g c kept indexes =
    let before = c.down.invariant.steps kept indexes in
    let parent = parent-there kept c.args.tree.now.entries c.down.low indexes c.down.invariant.low (omega arith) in
    let nearer = low-nearer kept c.down.low c.down.high parent.0 (omega arith) parent.1 in
    let one = c.in-Err-undo_at.ensures.most in
    omega (arith, before, nearer, one)

pub down-preserved : goal.down-preserved
down-preserved g c = record {
  read = read_on c.down.invariant.read c.in-Ok-undo_at.ensures.read;
  low = c.in-Some-parent_in.ensures.within;
  high = c.down.invariant.high;
  up_to = c.down.invariant.up_to;
  lower = let earlier = c.in-Some-parent_in.ensures.earlier in let most = c.down.invariant.lower in omega (arith, earlier, most);
  higher = c.down.invariant.higher;
  below = λ end less are. let most = c.down.invariant.lower in c.in-Ok-undo_at.ensures.below end (omega (arith, less, most)) (c.down.invariant.below end less are);
  within = c.down.invariant.within;
  path = c.down.invariant.path;
  way = λ kept indexes place way. c.down.invariant.way kept indexes place
      (way-by-low kept c.down.low c.down.high c.in-Some-parent_in.parent place (omega arith) (sym (c.in-Some-parent_in.ensures.of_blocks kept indexes)) way);
  down = λ kept indexes place on. c.down.invariant.down kept indexes place
      (on-branch-of-child kept c.down.low c.in-Some-parent_in.parent place (sym (c.in-Some-parent_in.ensures.of_blocks kept indexes)) on);
  on_way = c.down.invariant.on_way;
  rows = λ stored tells indexes can are.
      let it = stored-there stored c.args.tree.now.entries c.down.low indexes c.down.invariant.low in
      c.in-Ok-undo_at.ensures.rows stored it.0 (live_row (blocks_of stored) c.in-Some-parent_in.parent) (c.down.invariant.read.told ∙ tells) it.1
      (taken-here stored c.args.from c.args.to c.down.low c.in-Some-parent_in.parent it.0 (rows c.down.state) can
      (c.down.invariant.down (blocks_of stored) indexes c.down.low (own (blocks_of stored) c.down.low))
      (c.down.invariant.way (blocks_of stored) indexes c.down.low (low-on-way (blocks_of stored) c.down.low c.down.high (omega arith))) it.1
      (sym (c.in-Some-parent_in.ensures.of_blocks (blocks_of stored) indexes)) (c.down.invariant.rows stored tells indexes can are));
  steps = λ kept indexes.
      let before = c.down.invariant.steps kept indexes in
      let nearer = low-nearer kept c.down.low c.down.high c.in-Some-parent_in.parent (omega arith) (sym (c.in-Some-parent_in.ensures.of_blocks kept indexes)) in
      let one = c.in-Ok-undo_at.ensures.steps in
      omega (arith, before, nearer, one);
}

pub returns-clause-steps : goal.returns-clause-steps
returns-clause-steps g c kept indexes =
    let before = c.down.invariant.steps kept indexes in
    let same : c.down.low ≡ c.down.high = c.down-test.false in
    let none : distance kept c.down.low c.down.high ≡ 0 = ap (distance kept c.down.low) (sym same) ∙ none-away kept c.down.low in
    omega (arith, before, none)

pub returns-in-Err-undo_at-clause-at_record : goal.returns-in-Err-undo_at-clause-at_record
returns-in-Err-undo_at-clause-at_record g c kept indexes tells damage same = (
  c.down.low,
  (
    c.down.invariant.way kept indexes c.down.low (low-on-way kept c.down.low c.down.high (omega arith)),
    c.in-Err-undo_at.ensures.at_record (subst (λ (told : Option (List Stored)). IsSome told) (sym c.down.invariant.read.told) tells) damage (handed c.in-Err-undo_at.stop _ same),
  ),
)

pub returns-clause-below : goal.returns-clause-below
returns-clause-below g c end less are = c.down.invariant.below end less are

pub returns-clause-up_to : goal.returns-clause-up_to
returns-clause-up_to g c = c.down.invariant.up_to

pub returns-in-Err-undo_at-clause-in_hand : goal.returns-in-Err-undo_at-clause-in_hand
returns-in-Err-undo_at-clause-in_hand g c kept indexes damage same =
    hand-at _ _ c.down.low (IsOnTheWay kept c.args.from c.args.to) damage
    (c.down.invariant.way kept indexes c.down.low (low-on-way kept c.down.low c.down.high (omega arith)))
    (c.in-Err-undo_at.ensures.in_hand damage (handed c.in-Err-undo_at.stop _ same))
