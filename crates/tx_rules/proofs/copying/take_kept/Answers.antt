use Rattle.std.proofs.Common.{◌≡◌, List, Option, Some, Err, ap, subst}
use Rattle.chain_tree.specs.Told.{Stored}
use Rattle.tx_rules.specs.Copying.{IsBlockAt}
use Rattle.outside.proofs.Endings.{is_told, handed, no_answer}
use Rattle.chain_tree.proofs.ReadLemmas.{read_on}
use Rattle.tx_rules.proofs.TakenLemmas.{hand-block}
use Rattle.tx_rules.proofs.copying.take_kept.Goals as goal

pub returns-in-Err : goal.returns-in-Err
returns-in-Err g c = record {
  read = c.in-Err.ensures.read;
  long = c.requires.long;
  taken = λ before. tt;
  undamaged = λ stored seen site founds tells is are_seen rows damage same.
      c.in-Err.ensures.undamaged (is_told _ stored tells) damage (handed c.in-Err.stop _ same);
}

pub report-requires : goal.report-requires
report-requires g c = record {
  area = λ damage is. c.in-Err-take_read.ensures.damage damage (ap Err is);
  no_fault = λ is. c.in-Err-take_read.ensures.unread (ap Err is);
}

pub returns-in-Ok-take_read : goal.returns-in-Ok-take_read
returns-in-Ok-take_read g c = record {
  read = c.in-Ok.ensures.read;
  long = c.take_read.ensures.long;
  taken =
      let taken : g.B.Blocks.in_hand c.bring.new.self ≡ Some c.meta.inside.block = c.in-Ok.ensures.taken in
      c.in-Ok-take_read.ensures.taken (g.B.Blocks.told c.args.blocks.now)
      (hand-block (g.B.Blocks.told c.args.blocks.now) _ _ c.meta.inside.block c.block-block.result c.in-Ok.ensures.read.told taken c.block-block.ensures);
  undamaged = λ stored seen site founds tells is are_seen rows damage same. no_answer _ _ same;
}

pub returns-in-Err-take_read : goal.returns-in-Err-take_read
returns-in-Err-take_read g c = record {
  read = read_on c.in-Ok.ensures.read c.report.ensures.read;
  long = c.take_read.ensures.long;
  taken = λ before. tt;
  undamaged = λ stored seen site founds tells is are_seen rows damage same.
      let taken : g.B.Blocks.in_hand c.bring.new.self ≡ Some c.meta.inside.block = c.in-Ok.ensures.taken in
      let at_place : IsBlockAt (g.B.Blocks.told c.args.blocks.now) c.meta.inside.block c.block-block.result =
      hand-block (g.B.Blocks.told c.args.blocks.now) _ _ c.meta.inside.block c.block-block.result c.in-Ok.ensures.read.told taken c.block-block.ensures in
      c.in-Err-take_read.ensures.undamaged stored seen site founds
      (subst (λ (told : Option (List Stored)). IsBlockAt told c.meta.inside.block c.block-block.result) tells at_place) is are_seen rows damage same;
}
