use Rattle.std.proofs.Common.{◌≡◌, Some, Err, ap, ◌∙◌}
use Rattle.chain_defs.specs.Schema.{Block}
use Rattle.chain_defs.specs.Row.{Row}
use Rattle.cell_state.specs.Copies.{output_in}
use Rattle.cell_state.proofs.CopyLemmas.{named_output, in-hand}
use Rattle.outside.proofs.Endings.{handed, is_told, no_answer}
use Rattle.chain_tree.proofs.ReadLemmas.{read_on}
use Rattle.tx_rules.proofs.deps.add_kept_group.Goals as goal

pub returns-in-Err : goal.returns-in-Err
returns-in-Err g c = record {
  read = c.in-Err.ensures.read;
  rows = λ stored cell tells named. tt;
  undamaged = λ stored cell tells named damage same. c.in-Err.ensures.undamaged (is_told _ stored tells) damage (handed c.in-Err.stop _ same);
}

pub report-requires : goal.report-requires
report-requires g c = record {
  area = λ damage is. c.in-Err-add_group_in.ensures.damage damage (ap Err is);
  no_fault = λ is. c.in-Err-add_group_in.ensures.no_fault (ap Err is);
}

pub returns-in-Ok-add_group_in : goal.returns-in-Ok-add_group_in
returns-in-Ok-add_group_in g c = record {
  read = c.in-Ok.ensures.read;
  rows = λ stored cell tells named.
      let taken : g.B.Blocks.in_hand c.bring.new.self ≡ Some c.args.meta.now.block = c.in-Ok.ensures.taken ∙ ap (λ (row : Row). Some row.block) c.meta.view_is in
      let block_is : c.block-block.result ≡ named.made.block =
      in-hand c.block-block.result _ _ stored c.args.meta.now.block named.made (c.in-Ok.ensures.read.told ∙ tells) taken named.there c.block-block.ensures in
      c.in-Ok-add_group_in.ensures.rows cell.output cell.content
      (ap (λ (b : Block). output_in b c.args.meta.now.transaction c.args.o.now.index) block_is ∙ named_output stored c.args.o.now c.args.meta.now cell named);
  undamaged = λ stored cell tells named damage same. no_answer _ _ same;
}

pub returns-in-Err-add_group_in : goal.returns-in-Err-add_group_in
returns-in-Err-add_group_in g c = record {
  read = read_on c.in-Ok.ensures.read c.report.ensures.read;
  rows = λ stored cell tells named. tt;
  undamaged = λ stored cell tells named.
      let taken : g.B.Blocks.in_hand c.bring.new.self ≡ Some c.args.meta.now.block = c.in-Ok.ensures.taken ∙ ap (λ (row : Row). Some row.block) c.meta.view_is in
      let block_is : c.block-block.result ≡ named.made.block =
      in-hand c.block-block.result _ _ stored c.args.meta.now.block named.made (c.in-Ok.ensures.read.told ∙ tells) taken named.there c.block-block.ensures in
      c.in-Err-add_group_in.ensures.undamaged cell.output cell.content
      (ap (λ (b : Block). output_in b c.args.meta.now.transaction c.args.o.now.index) block_is ∙ named_output stored c.args.o.now c.args.meta.now cell named);
}
