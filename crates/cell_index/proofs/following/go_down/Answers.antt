use Rattle.std.proofs.Common.{◌<◌, List, Option, length, sym, ◌∙◌, subst, arith}
use Rattle.std.specs.Prelude.{IsSome}
use Rattle.chain_tree.specs.Told.{Stored, blocks_of}
use Rattle.chain_tree.proofs.BlockLemmas.{len-same}
use Rattle.chain_tree.proofs.ReadLemmas.{unread, read_on}
use Rattle.outside.proofs.Endings.{handed}
use Rattle.cell_state.specs.Moves.{IsOnTheWay}
use Rattle.cell_state.proofs.PathLemmas.{path-none, path-more}
use Rattle.cell_state.proofs.WayLemmas.{each-none, each-more, stored-there, parent-there}
use Rattle.cell_state.proofs.OnWayLemmas.{high-on-way, low-on-way, way-by-high, way-by-low}
use Rattle.cell_index.proofs.FollowLemmas.{step-on}
use Rattle.cell_index.proofs.following.go_down.Goals as goal

pub down-init : goal.down-init
down-init g c =
    let none = c.new-up.ensures.items in
    record {
      read = unread c.args.blocks.now;
      low = c.requires.from;
      high = c.requires.to;
      within = each-none (λ place. (0 < place) × (place < length c.args.tree.now.entries)) c.new-up.result.items none;
      path = λ kept indexes. path-none kept c.args.to c.new-up.result.items none;
      way = λ kept indexes place way. way;
      on_way = λ kept indexes. each-none (IsOnTheWay kept c.args.from c.args.to) c.new-up.result.items none;
      stands = λ what stored tells indexes can stands. stands;
    }

pub down-preserved-in-Some : goal.down-preserved-in-Some
down-preserved-in-Some g c =
    let grown = c.in-Ok.ensures.items in
    record {
      read = c.down.invariant.read;
      low = c.down.invariant.low;
      high = c.in-Some.ensures.within;
      within = let less = c.if-low-high.true in
          each-more (λ place. (0 < place) × (place < length c.args.tree.now.entries)) c.down.up.items c.push.new.self.items c.down.high grown
          (omega (arith, less), c.down.invariant.high) c.down.invariant.within;
      path = λ kept indexes.
          let same = len-same kept c.args.tree.now.entries indexes in
          let to = c.requires.to in
          path-more kept c.args.to c.down.up.items c.push.new.self.items c.down.high c.in-Some.parent indexes.is_kept (omega (arith, same, to))
          (c.down.invariant.path kept indexes) grown (sym (c.in-Some.ensures.of_blocks kept indexes));
      way = λ kept indexes place way. c.down.invariant.way kept indexes place
          (way-by-high kept c.down.low c.down.high c.in-Some.parent place c.if-low-high.true (sym (c.in-Some.ensures.of_blocks kept indexes)) way);
      on_way = λ kept indexes.
          each-more (IsOnTheWay kept c.args.from c.args.to) c.down.up.items c.push.new.self.items c.down.high grown
          (c.down.invariant.way kept indexes c.down.high (high-on-way kept c.down.low c.down.high c.if-low-high.true))
          (c.down.invariant.on_way kept indexes);
      stands = c.down.invariant.stands;
    }

pub returns-in-Err-taken_back-clause-undamaged : goal.returns-in-Err-taken_back-clause-undamaged
returns-in-Err-taken_back-clause-undamaged g c what stored tells indexes can stands damage same =
    let it = stored-there stored c.args.tree.now.entries c.down.low indexes c.down.invariant.low in
    let parent = parent-there (blocks_of stored) c.args.tree.now.entries c.down.low indexes c.down.invariant.low (omega arith) in
    c.in-Err-taken_back.ensures.undamaged what stored parent.0 (c.down.invariant.read.told ∙ tells)
    (step-on stored c.args.from c.args.to parent.0 c.down.low it.0 can
    (c.down.invariant.way (blocks_of stored) indexes c.down.low (low-on-way (blocks_of stored) c.down.low c.down.high (omega arith))) it.1 parent.1)
    (c.down.invariant.stands what stored tells indexes can stands)
    damage (handed c.in-Err-taken_back.stop _ same)

pub down-preserved : goal.down-preserved
down-preserved g c = record {
  read = read_on c.down.invariant.read c.in-Ok-taken_back.ensures.read;
  low = c.in-Some-parent_in.ensures.within;
  high = c.down.invariant.high;
  within = c.down.invariant.within;
  path = c.down.invariant.path;
  way = λ kept indexes place way. c.down.invariant.way kept indexes place
      (way-by-low kept c.down.low c.down.high c.in-Some-parent_in.parent place (omega arith) (sym (c.in-Some-parent_in.ensures.of_blocks kept indexes)) way);
  on_way = c.down.invariant.on_way;
  stands = λ what stored tells indexes can stands.
      let it = stored-there stored c.args.tree.now.entries c.down.low indexes c.down.invariant.low in
      c.in-Ok-taken_back.ensures.stands what stored c.in-Some-parent_in.parent (c.down.invariant.read.told ∙ tells)
      (step-on stored c.args.from c.args.to c.in-Some-parent_in.parent c.down.low it.0 can
      (c.down.invariant.way (blocks_of stored) indexes c.down.low (low-on-way (blocks_of stored) c.down.low c.down.high (omega arith))) it.1
      (sym (c.in-Some-parent_in.ensures.of_blocks (blocks_of stored) indexes)))
      (c.down.invariant.stands what stored tells indexes can stands);
}

pub returns-in-Err-taken_back-clause-at_record : goal.returns-in-Err-taken_back-clause-at_record
returns-in-Err-taken_back-clause-at_record g c kept indexes tells damage same = (
  c.down.low,
  (
    c.down.invariant.way kept indexes c.down.low (low-on-way kept c.down.low c.down.high (omega arith)),
    c.in-Err-taken_back.ensures.at_record (subst (λ (told : Option (List Stored)). IsSome told) (sym c.down.invariant.read.told) tells) damage (handed c.in-Err-taken_back.stop _ same),
  ),
)
