use Rattle.std.proofs.Common.{◌≡◌, ◌<◌, ℕ, List, length, drop, map, Option, None, sym, ap, ◌∙◌, subst, arith}
use Rattle.std.specs.Prelude.{IfOk}
use Rattle.std.specs.List.{All, AllZip}
use Rattle.std.proofs.lemmas.List.{take_at}
use Rattle.std.proofs.lemmas.List.Elements.{All-same}
use Rattle.std.proofs.lemmas.Result.{IfOk-weaker}
use Rattle.chain_tree.specs.Told.{Stored, blocks_of}
use Rattle.cell_state.specs.Copies.{ResolvedValue}
use Rattle.tx_rules.specs.Copying.{AreRowsCopied, CopiesItsRow, HoldsOutput, IsCopyOfRow, ServesAgain, row_in}
use Rattle.tx_rules.specs.Outcome.{Copies}
use Rattle.outside.proofs.Endings.{memory_undamaged, handed}
use Rattle.chain_tree.proofs.ReadLemmas.{unread, read_on, read_short}
use Rattle.tx_rules.proofs.TakenLemmas.{copies-rows, copies-outputs, copies-of-rows, copies-again, copies-cells}
use Rattle.tx_rules.proofs.copying.fetch_all.Goals as goal

pub returns-in_default : goal.returns-in_default
returns-in_default g c = record {
  read = read_short (unread c.args.blocks.now);
  rows = tt;
  outputs = tt;
  of_rows = tt;
  again = tt;
  copied = λ stored seen site founds tells is are_seen rows. tt;
  undamaged = λ stored seen site founds tells is are_seen rows damage same. memory_undamaged damage same;
}

pub returns-in_default-by_block : goal.returns-in_default-by_block
returns-in_default-by_block g c = record {
  read = read_short (unread c.args.blocks.now);
  rows = tt;
  outputs = tt;
  of_rows = tt;
  again = tt;
  copied = λ stored seen site founds tells is are_seen rows. tt;
  undamaged = λ stored seen site founds tells is are_seen rows damage same. memory_undamaged damage same;
}

pub by_block-requires : goal.by_block-requires
by_block-requires g c = record { long = ap length c.deref.ensures.value ∙ c.in-Ok.ensures.long }

pub take_several-requires : goal.take_several-requires
take_several-requires g c = record {
  placed = c.requires.placed;
  counts = c.requires.counts;
  places = All-same (λ (it : ℕ × ℕ). it.1 < length c.args.rows.now) c.deref-2.result.now c.in-Ok-by_block.order.items c.deref-2.ensures.value c.in-Ok-by_block.ensures.places;
  long = ap length c.deref_mut.ensures.value ∙ c.in-Ok.ensures.long;
}

pub returns-in-Err : goal.returns-in-Err
returns-in-Err g c = record {
  read = c.in-Err.ensures.read;
  rows = tt;
  outputs = tt;
  of_rows = tt;
  again = tt;
  copied = λ stored seen site founds tells is are_seen rows. tt;
  undamaged = λ stored seen site founds tells is are_seen rows damage same.
      c.in-Err.ensures.undamaged stored seen site founds tells is are_seen rows damage (handed c.in-Err.stop _ same);
}

pub copy_each-requires : goal.copy_each-requires
copy_each-requires g c =
    let long = c.in-Ok.ensures.long in
    let filled = c.in-Ok.taken.ok in
    let still = c.take_several.ensures.long in
    let items : c.deref_mut-2.result.now ≡ c.take_several.new.taken =
    c.deref_mut-2.ensures.value
    ∙ take_at c.take_several.new.taken (drop (length c.take_several.new.taken) c.in-Ok.taken.items) c.in-Ok.taken.len (omega (arith, filled, long, still)) in
    let before : AreRowsCopied (g.B.Blocks.told c.args.blocks.now) c.args.at.now c.args.rows.now c.deref_mut.result.now =
    subst (λ (slots : List (Option ResolvedValue)). AreRowsCopied (g.B.Blocks.told c.args.blocks.now) c.args.at.now c.args.rows.now slots)
    (sym c.deref_mut.ensures.value) (c.in-Ok.ensures.taken (g.B.Blocks.told c.args.blocks.now) c.args.at.now c.requires.before) in
    record {
      placed = c.requires.placed;
      counts = c.in-Ok-take_several.ensures.read.count ∙ c.requires.counts;
      long = ap length items ∙ still;
      taken = subst (λ (slots : List (Option ResolvedValue)). AreRowsCopied (g.B.Blocks.told c.take_several.new.blocks) c.args.at.now c.args.rows.now slots) (sym items)
          (subst (λ (told : Option (List Stored)). AreRowsCopied told c.args.at.now c.args.rows.now c.take_several.new.taken) (sym c.in-Ok-take_several.ensures.read.told)
          (c.in-Ok-take_several.ensures.taken before));
    }

pub returns : goal.returns
returns g c = record {
  read = read_on c.in-Ok-take_several.ensures.read c.copy_each.ensures.read;
  rows =
      let told = g.B.Blocks.told c.take_several.new.blocks in
      IfOk-weaker c.copy_each.result (λ copies. AllZip (IsCopyOfRow told c.args.at.now) c.args.rows.now copies.items) (λ copies. map row_in copies.items ≡ c.args.rows.now)
      (λ copies each. copies-rows told c.args.at.now c.args.rows.now copies.items each) c.copy_each.ensures.copies;
  outputs =
      let told = g.B.Blocks.told c.take_several.new.blocks in
      IfOk-weaker c.copy_each.result (λ copies. AllZip (IsCopyOfRow told c.args.at.now) c.args.rows.now copies.items) (λ copies. All HoldsOutput copies.items)
      (λ copies each. copies-outputs told c.args.at.now c.args.rows.now copies.items each) c.copy_each.ensures.copies;
  of_rows =
      let told = g.B.Blocks.told c.take_several.new.blocks in
      subst (λ (t : Option (List Stored)). IfOk c.copy_each.result (λ copies. All (CopiesItsRow t c.args.at.now) copies.items)) c.in-Ok-take_several.ensures.read.told
      (IfOk-weaker c.copy_each.result (λ copies. AllZip (IsCopyOfRow told c.args.at.now) c.args.rows.now copies.items) (λ copies. All (CopiesItsRow told c.args.at.now) copies.items)
      (λ copies each. copies-of-rows told c.args.at.now c.args.rows.now copies.items each) c.copy_each.ensures.copies);
  again =
      let told = g.B.Blocks.told c.take_several.new.blocks in
      subst (λ (t : Option (List Stored)). IfOk c.copy_each.result (λ copies. All (ServesAgain t c.args.at.now) copies.items)) c.in-Ok-take_several.ensures.read.told
      (IfOk-weaker c.copy_each.result (λ copies. AllZip (IsCopyOfRow told c.args.at.now) c.args.rows.now copies.items) (λ copies. All (ServesAgain told c.args.at.now) copies.items)
      (λ copies each. copies-again told c.args.at.now c.args.rows.now copies.items each) c.copy_each.ensures.copies);
  copied = λ stored seen site founds tells is are_seen rows.
      let told = g.B.Blocks.told c.take_several.new.blocks in
      IfOk-weaker c.copy_each.result (λ copies. AllZip (IsCopyOfRow told c.args.at.now) c.args.rows.now copies.items)
      (λ copies. AllZip (Copies (blocks_of stored) c.args.at.now.parent) founds copies.items)
      (λ copies each. copies-cells stored c.args.at.now seen site founds c.args.rows.now copies.items is are_seen rows
      (subst (λ (t : Option (List Stored)). AllZip (IsCopyOfRow t c.args.at.now) c.args.rows.now copies.items) (c.in-Ok-take_several.ensures.read.told ∙ tells) each))
      c.copy_each.ensures.copies;
  undamaged = λ stored seen site founds tells is are_seen rows damage same.
      c.copy_each.ensures.undamaged stored seen site founds (c.in-Ok-take_several.ensures.read.told ∙ tells) is are_seen rows damage same;
}
