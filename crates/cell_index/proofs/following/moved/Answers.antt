use Rattle.std.proofs.Common.{◌≡◌, ◌+◌, ◌-◌, ◌<◌, ℕ, List, Option, length, get_or, sym, ap, ◌∙◌, subst, arith, rules}
use Rattle.std.specs.Prelude.{slice_get, IsSome}
use Rattle.std.proofs.lemmas.Option.{same_Some}
use Rattle.chain_defs.specs.Branch.{branch_places}
use Rattle.chain_tree.specs.Told.{Stored, blocks_of}
use Rattle.chain_tree.proofs.ReadLemmas.{read_on}
use Rattle.outside.proofs.Endings.{handed}
use Rattle.cell_state.proofs.PathLemmas.{height_after, read-at, on-path, path-start, path-top}
use Rattle.cell_state.proofs.WayLemmas.{stored-there}
use Rattle.cell_index.proofs.FollowLemmas.{step-on, above}
use Rattle.cell_index.proofs.following.moved.Goals as goal

pub up-init : goal.up-init
up-init g c = record {
  read = c.in-Ok.ensures.read;
  most = omega arith;
  stands = λ what stored tells indexes can stands place there.
      subst (λ (n : ℕ). g.S.Follows.stands what (blocks_of stored) n c.in-Ok.down.0)
      (path-start (blocks_of stored) c.args.to c.in-Ok.down.2.items c.in-Ok.down.1 place (c.in-Ok.ensures.path (blocks_of stored) indexes) there)
      (c.in-Ok.ensures.stands what stored tells indexes can stands);
}

pub taken-requires-clause-within : goal.taken-requires-clause-within
taken-requires-clause-within g c =
    let long : c.len-count.result ≡ length c.in-Ok.down.2.items = search rules in
    let more = c.up-test.true in
    let below : c.up.i < length c.in-Ok.down.2.items = omega (arith, more, long) in
    (c.in-Ok.ensures.within _ _
    (read-at c.in-Ok.down.2.items c.up.i c.index-place.result.now below
    (c.index-place.ensures ∙ ap (λ (n : ℕ). get_or c.in-Ok.down.2.items (n - c.up.i - 1) c.index-place.result.now) long))).1

pub taken-requires-clause-later : goal.taken-requires-clause-later
taken-requires-clause-later g c =
    let long : c.len-count.result ≡ length c.in-Ok.down.2.items = search rules in
    let more = c.up-test.true in
    let below : c.up.i < length c.in-Ok.down.2.items = omega (arith, more, long) in
    (c.in-Ok.ensures.within _ _
    (read-at c.in-Ok.down.2.items c.up.i c.index-place.result.now below
    (c.index-place.ensures ∙ ap (λ (n : ℕ). get_or c.in-Ok.down.2.items (n - c.up.i - 1) c.index-place.result.now) long))).0

pub returns-clause-stands : goal.returns-clause-stands
returns-clause-stands g c what stored tells indexes can stands =
    let past = c.up-test.false in
    let most = c.up.invariant.most in
    let last : length c.in-Ok.down.2.items ≡ c.up.i = omega (arith, past, most) in
    c.up.invariant.stands what stored tells indexes can stands c.args.to
    (ap (λ (n : ℕ). slice_get (branch_places (blocks_of stored) c.args.to) (height_after (blocks_of stored) c.args.to c.in-Ok.down.2.items n)) (sym last)
    ∙ path-top (blocks_of stored) c.args.to c.in-Ok.down.2.items _ (c.in-Ok.ensures.path (blocks_of stored) indexes))

pub returns-in-Err-taken-clause-undamaged : goal.returns-in-Err-taken-clause-undamaged
returns-in-Err-taken-clause-undamaged g c what stored tells indexes can stands damage same =
    let long : c.len-count.result ≡ length c.in-Ok.down.2.items = search rules in
    let more = c.up-test.true in
    let below : c.up.i < length c.in-Ok.down.2.items = omega (arith, more, long) in
    let there = read-at c.in-Ok.down.2.items c.up.i c.index-place.result.now below
    (c.index-place.ensures ∙ ap (λ (n : ℕ). get_or c.in-Ok.down.2.items (n - c.up.i - 1) c.index-place.result.now) long) in
    let height = height_after (blocks_of stored) c.args.to c.in-Ok.down.2.items c.up.i in
    let on = on-path (blocks_of stored) c.args.to c.in-Ok.down.2.items _ c.up.i c.index-place.result.now (c.in-Ok.ensures.path (blocks_of stored) indexes) below there in
    let it = stored-there stored c.args.tree.now.entries c.index-place.result.now indexes (c.in-Ok.ensures.within _ _ there).1 in
    let under = above stored c.args.to height c.index-place.result.now on in
    c.in-Err-taken.ensures.undamaged what stored under.parent (c.up.invariant.read.told ∙ tells)
    (step-on stored c.args.from c.args.to under.parent c.index-place.result.now it.0 can (c.in-Ok.ensures.on_way (blocks_of stored) indexes _ _ there) it.1 under.of)
    (c.up.invariant.stands what stored tells indexes can stands under.parent under.below)
    damage (handed c.in-Err-taken.stop _ same)

pub up-preserved : goal.up-preserved
up-preserved g c =
    let long : c.len-count.result ≡ length c.in-Ok.down.2.items = search rules in
    let more = c.up-test.true in
    let below : c.up.i < length c.in-Ok.down.2.items = omega (arith, more, long) in
    let there = read-at c.in-Ok.down.2.items c.up.i c.index-place.result.now below
    (c.index-place.ensures ∙ ap (λ (n : ℕ). get_or c.in-Ok.down.2.items (n - c.up.i - 1) c.index-place.result.now) long) in
    record {
      read = read_on c.up.invariant.read c.in-Ok-taken.ensures.read;
      most = omega (arith, below);
      stands = λ what stored tells indexes can stands place here.
          let height = height_after (blocks_of stored) c.args.to c.in-Ok.down.2.items c.up.i in
          let on = on-path (blocks_of stored) c.args.to c.in-Ok.down.2.items _ c.up.i c.index-place.result.now (c.in-Ok.ensures.path (blocks_of stored) indexes) below there in
          let it = stored-there stored c.args.tree.now.entries c.index-place.result.now indexes (c.in-Ok.ensures.within _ _ there).1 in
          let under = above stored c.args.to height c.index-place.result.now on in
          let next : height_after (blocks_of stored) c.args.to c.in-Ok.down.2.items (c.up.i + 1) ≡ height + 1 = omega arith in
          let same : c.index-place.result.now ≡ place =
          same_Some c.index-place.result.now place (sym on ∙ ap (slice_get (branch_places (blocks_of stored) c.args.to)) (sym next) ∙ here) in
          subst (λ (n : ℕ). g.S.Follows.stands what (blocks_of stored) n c.in-Ok-taken.next) same
          (c.in-Ok-taken.ensures.stands what stored under.parent (c.up.invariant.read.told ∙ tells)
          (step-on stored c.args.from c.args.to under.parent c.index-place.result.now it.0 can (c.in-Ok.ensures.on_way (blocks_of stored) indexes _ _ there) it.1 under.of)
          (c.up.invariant.stands what stored tells indexes can stands under.parent under.below));
    }

pub returns-in-Err-taken-clause-at_record : goal.returns-in-Err-taken-clause-at_record
returns-in-Err-taken-clause-at_record g c kept indexes tells damage same =
    let long : c.len-count.result ≡ length c.in-Ok.down.2.items = search rules in
    let more = c.up-test.true in
    let below : c.up.i < length c.in-Ok.down.2.items = omega (arith, more, long) in
    let there = read-at c.in-Ok.down.2.items c.up.i c.index-place.result.now below
    (c.index-place.ensures ∙ ap (λ (n : ℕ). get_or c.in-Ok.down.2.items (n - c.up.i - 1) c.index-place.result.now) long) in (
      c.index-place.result.now,
      (
        c.in-Ok.ensures.on_way kept indexes _ _ there,
        c.in-Err-taken.ensures.at_record (subst (λ (told : Option (List Stored)). IsSome told) (sym c.up.invariant.read.told) tells) damage (handed c.in-Err-taken.stop _ same),
      ),
    )
