use Rattle.std.proofs.Common.{◌≡◌, ◌∷◌, [], ◌++◌, List, length, take, Option, Some, refl, sym, ◌∙◌, ◌+◌, subst, rules, arith}
use Rattle.std.specs.Prelude.{IfSome, slice_get, slice_set}
use Rattle.std.specs.List.{AllZip}
use Rattle.std.proofs.lemmas.List.{take_all, length-set}
use Rattle.std.proofs.lemmas.Option.{slice_get_read}
use Rattle.chain_defs.specs.Schema.{OutPoint}
use Rattle.chain_defs.specs.Row.{Row}
use Rattle.cell_state.specs.Copies.{ResolvedValue}
use Rattle.chain_tree.specs.Told.{Stored}
use Rattle.tx_rules.specs.Copying.{AreRowsCopied, IsCopyOfRow}
use Rattle.outside.proofs.Endings.{no_answer, memory_undamaged, handed}
use Rattle.chain_tree.proofs.ReadLemmas.{read_on, read_short}
use Rattle.tx_rules.proofs.SiteLemmas.{IsNext, next-found, zip-more}
use Rattle.tx_rules.proofs.TakenLemmas.{taken-here, taken-less}
use Rattle.tx_rules.proofs.copying.copy_each.Goals as goal

pub taken_or_copied-requires-clause-taken : goal.taken_or_copied-requires-clause-taken
taken_or_copied-requires-clause-taken g c =
    let row = c.index-rows-i.result in
    let slot = c.index-taken-i.result in
    let below = c.each-test.true in
    let long = c.each.invariant.long in
    let here : slice_get c.args.rows.now c.each.i ≡ Some row = slice_get_read c.args.rows.now (length c.args.rows.now) c.each.i row refl below c.index-rows-i.is in
    let there : slice_get c.each.taken c.each.i ≡ Some slot =
    slice_get_read c.each.taken (length c.each.taken) c.each.i slot refl (omega (arith, below, long)) c.index-taken-i.is in
    subst (λ (told : Option (List Stored)). IfSome c.take.result (IsCopyOfRow told c.args.at.now row)) (sym c.each.invariant.read.told)
    (subst (λ (it : Option ResolvedValue). IfSome it (IsCopyOfRow (g.B.Blocks.told c.args.blocks.now) c.args.at.now row)) (sym c.take.ensures.value)
    (subst (λ (it : Option ResolvedValue). IfSome it (IsCopyOfRow (g.B.Blocks.told c.args.blocks.now) c.args.at.now row)) c.index-taken-i.is
    (taken-here (g.B.Blocks.told c.args.blocks.now) c.args.at.now c.args.rows.now c.each.taken c.each.i row slot c.each.invariant.taken here there)))

pub returns-in-Err : goal.returns-in-Err
returns-in-Err g c = record {
  read = read_on c.each.invariant.read c.in-Err.ensures.read;
  copies = tt;
  undamaged = λ stored seen site founds tells is are_seen rows damage same.
      let next : IsNext stored c.args.at.now.parent site founds c.each.i c.index-rows-i.result =
      next-found stored c.args.at.now.parent site founds c.args.rows.now c.each.i c.index-rows-i.result are_seen rows c.each-test.true c.index-rows-i.is in
      c.in-Err.ensures.undamaged stored seen site next.found (c.each.invariant.read.told ∙ tells) is next.at damage (handed c.in-Err.stop _ same);
}

pub returns-then-is_err : goal.returns-then-is_err
returns-then-is_err g c = record {
  read = read_short (read_on c.each.invariant.read c.in-Ok.ensures.read);
  copies = tt;
  undamaged = λ stored seen site founds tells is are_seen rows damage same. memory_undamaged damage same;
}

pub each-preserved : goal.each-preserved
each-preserved g c =
    let told = g.B.Blocks.told c.args.blocks.now in
    let row = c.index-rows-i.result in
    let pushed : c.push.new.self.items ≡ c.each.copies.items ++ c.in-Ok.copy ∷ [] = search rules in
    let copy : IsCopyOfRow told c.args.at.now row c.in-Ok.copy =
    subst (λ (t : Option (List Stored)). IsCopyOfRow t c.args.at.now row c.in-Ok.copy) c.each.invariant.read.told c.in-Ok.ensures.copy in
    record {
      read = read_on c.each.invariant.read c.in-Ok.ensures.read;
      long = length-set c.each.taken c.each.i c.take.new.self ∙ c.each.invariant.long;
      taken = subst (λ (slot : Option ResolvedValue). AreRowsCopied told c.args.at.now c.args.rows.now (slice_set c.each.taken c.each.i slot))
          (sym c.take.ensures.after) (taken-less told c.args.at.now c.args.rows.now c.each.taken c.each.i c.each.invariant.taken);
      copies = subst (λ (copies : List ResolvedValue). AllZip (IsCopyOfRow told c.args.at.now) (take (c.each.i + 1) c.args.rows.now) copies) (sym pushed)
          (zip-more (IsCopyOfRow told c.args.at.now) c.args.rows.now c.each.copies.items c.each.i row c.in-Ok.copy c.each-test.true c.index-rows-i.is
          c.each.invariant.copies copy);
    }

pub returns : goal.returns
returns g c = record {
  read = c.each.invariant.read;
  copies =
      let past = c.each-test.false in
      subst (λ (named : List (OutPoint × Row)). AllZip (IsCopyOfRow (g.B.Blocks.told c.args.blocks.now) c.args.at.now) named c.each.copies.items)
      (take_all c.each.i c.args.rows.now (omega (arith, past))) c.each.invariant.copies;
  undamaged = λ stored seen site founds tells is are_seen rows damage same. no_answer _ _ same;
}
