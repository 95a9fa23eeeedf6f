use Rattle.std.proofs.Common.{◌≡◌, ◌<◌, ℕ, length, refl, ap, sym, subst, ◌∙◌, arith}
use Rattle.std.specs.Prelude.{Some, slice_get, slice_index_or}
use Rattle.std.proofs.lemmas.List.{length-set}
use Rattle.std.proofs.lemmas.Option.{slice_get_read}
use Rattle.chain_defs.specs.Schema.{OutPoint}
use Rattle.chain_defs.specs.Row.{Row}
use Rattle.tx_rules.specs.Copying.{IsFoundAt, IsBlockAt, IsCopyOfRow}
use Rattle.outside.proofs.Endings.{no_answer, handed}
use Rattle.tx_rules.proofs.SiteLemmas.{IsNext, next-found}
use Rattle.tx_rules.proofs.TakenLemmas.{kept-output, read-copy, taken-one}
use Rattle.tx_rules.proofs.copying.take_read.Goals as goal

pub returns-then-row-block : goal.returns-then-row-block
returns-then-row-block c = record {
  long = c.order.invariant.long;
  taken = λ told at_place taken. c.order.invariant.taken told at_place taken;
  undamaged = λ stored seen site founds at_place is are_seen rows damage same. no_answer _ _ same;
  damage = λ damage same. absurd (no_answer _ _ same);
  unread = no_answer _ _;
}

pub returns-in-Err : goal.returns-in-Err
returns-in-Err c = record {
  long = c.order.invariant.long;
  taken = λ told at_place taken. tt;
  undamaged = λ stored seen site founds at_place is are_seen rows damage same.
      let place = (slice_index_or c.args.these.now.order.now c.order.j (0, 0)).1 in
      let below : place < length c.args.these.now.rows.now = c.requires.places c.order.j (0, 0) c.order-test.true in
      let its_block : c.index-rows-place.result.1.block ≡ c.args.block = ap (λ (it : OutPoint × Row). it.1.block) (sym c.row.view_is) ∙ c.if-row-block.false in
      let row = c.index-rows-place.result in
      let same_row : row ≡ (c.row.inside.0.0, row.1) = ap (λ (it : OutPoint × Row). (it.0, row.1)) (sym c.row.view_is) in
      let next : IsNext stored c.args.at.now.parent site founds place row =
      next-found stored c.args.at.now.parent site founds c.args.these.now.rows.now place row are_seen rows below c.index-rows-place.is in
      let kept = c.requires.within in
      c.in-Err.ensures.undamaged next.found.cell
      (kept-output stored c.args.at.now seen site next.found c.row.inside.0.0 row.1 c.args.read.now c.requires.placed.parent (omega (arith, its_block, kept))
      (subst (λ (n : ℕ). IsBlockAt (Some stored) n c.args.read.now) (sym its_block) at_place) is
      (subst (λ (it : OutPoint × Row). IsFoundAt stored c.args.at.now.parent site next.found it) same_row next.at))
      damage (handed c.in-Err.stop _ same);
  damage = λ damage same. c.in-Err.ensures.damage damage (handed c.in-Err.stop _ same);
  unread = λ same. c.in-Err.ensures.unread (handed c.in-Err.stop _ same);
}

pub order-preserved : goal.order-preserved
order-preserved c =
    let place = (slice_index_or c.args.these.now.order.now c.order.j (0, 0)).1 in
    let below : place < length c.args.these.now.rows.now = c.requires.places c.order.j (0, 0) c.order-test.true in
    let its_block : c.index-rows-place.result.1.block ≡ c.args.block = ap (λ (it : OutPoint × Row). it.1.block) (sym c.row.view_is) ∙ c.if-row-block.false in
    let row = c.index-rows-place.result in
    let same_row : (c.row.inside.0.0, row.1) ≡ row = ap (λ (it : OutPoint × Row). (it.0, row.1)) c.row.view_is in
    let here : slice_get c.args.these.now.rows.now place ≡ Some row = slice_get_read c.args.these.now.rows.now (length c.args.these.now.rows.now) place row refl below c.index-rows-place.is in
    let kept = c.requires.within in
    record {
      long = length-set c.order.taken place (Some c.in-Ok.copy) ∙ c.order.invariant.long;
      taken = λ told at_place taken.
          taken-one told c.args.at.now c.args.these.now.rows.now c.order.taken place row c.in-Ok.copy here
          (subst (λ (it : OutPoint × Row). IsCopyOfRow told c.args.at.now it c.in-Ok.copy) same_row
          (read-copy told c.args.at.now c.row.inside.0.0 row.1 c.args.read.now c.in-Ok.copy c.requires.placed.parent (omega (arith, its_block, kept))
          (subst (λ (n : ℕ). IsBlockAt told n c.args.read.now) (sym its_block) at_place)
          c.in-Ok.ensures.out_point c.in-Ok.ensures.row c.in-Ok.ensures.output c.in-Ok.ensures.exact c.in-Ok.ensures.copied))
          (c.order.invariant.taken told at_place taken);
    }

pub returns : goal.returns
returns c = record {
  long = c.order.invariant.long;
  taken = λ told at_place taken. c.order.invariant.taken told at_place taken;
  undamaged = λ stored seen site founds at_place is are_seen rows damage same. no_answer _ _ same;
  damage = λ damage same. absurd (no_answer _ _ same);
  unread = no_answer _ _;
}
