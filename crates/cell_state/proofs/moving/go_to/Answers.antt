use Rattle.std.proofs.Common.{◌≡◌, ◌+◌, ◌-◌, ◌<◌, ℕ, List, Option, length, get_or, sym, ap, ◌∙◌, subst, arith, rules}
use Rattle.std.specs.Prelude.{slice_get, IsSome}
use Rattle.chain_defs.specs.Branch.{branch_places}
use Rattle.chain_tree.specs.Told.{Stored, blocks_of}
use Rattle.chain_tree.proofs.ReadLemmas.{read_on}
use Rattle.chain_defs.specs.Row.{live_row}
use Rattle.cell_state.specs.State.{rows}
use Rattle.outside.proofs.Endings.{handed}
use Rattle.cell_state.proofs.StepLemmas.{AreRowsAt, block-there, rows-next, fits-here}
use Rattle.cell_state.proofs.PathLemmas.{height_after, read-at, on-path, path-start, path-top}
use Rattle.cell_state.specs.Moves.{IsOnTheWay}
use Rattle.cell_state.proofs.HandLemmas.{hand-at}
use Rattle.cell_state.proofs.moving.go_to.Goals as goal

pub up-init : goal.up-init
up-init g c = record {
  read = c.in-Ok.ensures.read;
  most = omega arith;
  below = λ end from to are. c.in-Ok.ensures.below end from are;
  rows = λ stored tells indexes can are place there o.
      let start = path-start (blocks_of stored) c.args.to c.in-Ok.down.1.items c.in-Ok.down.0 place (c.in-Ok.ensures.path (blocks_of stored) indexes) there in
      c.in-Ok.ensures.rows stored tells indexes can are o ∙ ap (λ (n : ℕ). live_row (blocks_of stored) n o) start;
  steps = λ kept indexes. let all = c.in-Ok.ensures.steps kept indexes in omega (arith, all);
}

pub apply_at-requires-clause-within : goal.apply_at-requires-clause-within
apply_at-requires-clause-within g c =
    let long : c.len-count.result ≡ length c.in-Ok.down.1.items = search rules in
    let more = c.up-test.true in
    let below : c.up.i < length c.in-Ok.down.1.items = omega (arith, more, long) in
    c.in-Ok.ensures.within _ _
    (read-at c.in-Ok.down.1.items c.up.i c.index-place.result.now below
    (c.index-place.ensures ∙ ap (λ (n : ℕ). get_or c.in-Ok.down.1.items (n - c.up.i - 1) c.index-place.result.now) long))

pub returns-in-Err-apply_at-clause-undamaged : goal.returns-in-Err-apply_at-clause-undamaged
returns-in-Err-apply_at-clause-undamaged g c stored tells indexes can are fits damage same =
    let long : c.len-count.result ≡ length c.in-Ok.down.1.items = search rules in
    let more = c.up-test.true in
    let below : c.up.i < length c.in-Ok.down.1.items = omega (arith, more, long) in
    let there = read-at c.in-Ok.down.1.items c.up.i c.index-place.result.now below
    (c.index-place.ensures ∙ ap (λ (n : ℕ). get_or c.in-Ok.down.1.items (n - c.up.i - 1) c.index-place.result.now) long) in
    let here = block-there (blocks_of stored) c.args.tree.now.entries c.index-place.result.now indexes (c.in-Ok.ensures.within _ _ there) in
    let height = height_after (blocks_of stored) c.args.to c.in-Ok.down.1.items c.up.i in
    let on = on-path (blocks_of stored) c.args.to c.in-Ok.down.1.items _ c.up.i c.index-place.result.now (c.in-Ok.ensures.path (blocks_of stored) indexes) below there in
    c.in-Err-apply_at.ensures.undamaged stored here.0 (height + 1) (c.up.invariant.read.told ∙ tells) here.1 (omega arith)
    (fits-here (blocks_of stored) c.args.to height c.index-place.result.now here.0 (rows c.up.state) fits on here.1 (c.up.invariant.rows stored tells indexes can are))
    damage (handed c.in-Err-apply_at.stop _ same)

pub up-preserved : goal.up-preserved
up-preserved g c =
    let long : c.len-count.result ≡ length c.in-Ok.down.1.items = search rules in
    let more = c.up-test.true in
    let below : c.up.i < length c.in-Ok.down.1.items = omega (arith, more, long) in
    let there = read-at c.in-Ok.down.1.items c.up.i c.index-place.result.now below
    (c.index-place.ensures ∙ ap (λ (n : ℕ). get_or c.in-Ok.down.1.items (n - c.up.i - 1) c.index-place.result.now) long) in
    record {
      read = read_on c.up.invariant.read c.in-Ok-apply_at.ensures.read;
      most = omega (arith, below);
      rows = λ stored tells indexes can are.
          let here = block-there (blocks_of stored) c.args.tree.now.entries c.index-place.result.now indexes (c.in-Ok.ensures.within _ _ there) in
          let height = height_after (blocks_of stored) c.args.to c.in-Ok.down.1.items c.up.i in
          let on = on-path (blocks_of stored) c.args.to c.in-Ok.down.1.items _ c.up.i c.index-place.result.now (c.in-Ok.ensures.path (blocks_of stored) indexes) below there in
          let next : height + 1 ≡ height_after (blocks_of stored) c.args.to c.in-Ok.down.1.items (c.up.i + 1) = omega arith in
          subst (λ (n : ℕ). AreRowsAt (blocks_of stored) c.args.to n (rows c.apply_at.new.state)) next
          (rows-next (blocks_of stored) c.args.to height c.index-place.result.now here.0 (rows c.up.state) (rows c.apply_at.new.state) on here.1
          (c.up.invariant.rows stored tells indexes can are)
          (c.in-Ok-apply_at.ensures.rows stored here.0 (c.up.invariant.read.told ∙ tells) here.1));
      below = λ end from to are.
          let most = c.in-Ok.ensures.up_to _ _ there in
          c.in-Ok-apply_at.ensures.below end (omega (arith, most, to)) (c.up.invariant.below end from to are);
      steps = λ kept indexes.
          let before = c.up.invariant.steps kept indexes in
          let one = c.in-Ok-apply_at.ensures.steps in
          omega (arith, before, one);
    }

pub returns-clause-rows : goal.returns-clause-rows
returns-clause-rows g c stored tells indexes can are =
    let past = c.up-test.false in
    let most = c.up.invariant.most in
    let last : length c.in-Ok.down.1.items ≡ c.up.i = omega (arith, past, most) in
    c.up.invariant.rows stored tells indexes can are c.args.to
    (ap (λ (n : ℕ). slice_get (branch_places (blocks_of stored) c.args.to) (height_after (blocks_of stored) c.args.to c.in-Ok.down.1.items n)) (sym last)
    ∙ path-top (blocks_of stored) c.args.to c.in-Ok.down.1.items _ (c.in-Ok.ensures.path (blocks_of stored) indexes))

pub returns-in-Err-apply_at-clause-at_record : goal.returns-in-Err-apply_at-clause-at_record
returns-in-Err-apply_at-clause-at_record g c kept indexes tells damage same =
    let long : c.len-count.result ≡ length c.in-Ok.down.1.items = search rules in
    let more = c.up-test.true in
    let below : c.up.i < length c.in-Ok.down.1.items = omega (arith, more, long) in
    let there = read-at c.in-Ok.down.1.items c.up.i c.index-place.result.now below
    (c.index-place.ensures ∙ ap (λ (n : ℕ). get_or c.in-Ok.down.1.items (n - c.up.i - 1) c.index-place.result.now) long) in (
      c.index-place.result.now,
      (
        c.in-Ok.ensures.on_way kept indexes _ _ there,
        c.in-Err-apply_at.ensures.at_record (subst (λ (told : Option (List Stored)). IsSome told) (sym c.up.invariant.read.told) tells) damage (handed c.in-Err-apply_at.stop _ same),
      ),
    )

pub returns-clause-below : goal.returns-clause-below
returns-clause-below g c end from to are = c.up.invariant.below end from to are

pub returns-in-Err-apply_at-clause-in_hand : goal.returns-in-Err-apply_at-clause-in_hand
returns-in-Err-apply_at-clause-in_hand g c kept indexes damage same =
    let long : c.len-count.result ≡ length c.in-Ok.down.1.items = search rules in
    let more = c.up-test.true in
    let below : c.up.i < length c.in-Ok.down.1.items = omega (arith, more, long) in
    let there = read-at c.in-Ok.down.1.items c.up.i c.index-place.result.now below
    (c.index-place.ensures ∙ ap (λ (n : ℕ). get_or c.in-Ok.down.1.items (n - c.up.i - 1) c.index-place.result.now) long) in
    hand-at _ _ c.index-place.result.now (IsOnTheWay kept c.args.from c.args.to) damage (c.in-Ok.ensures.on_way kept indexes _ _ there)
    (c.in-Err-apply_at.ensures.in_hand damage (handed c.in-Err-apply_at.stop _ same))
