use Rattle.std.proofs.Common.{◌≡◌, Some, Err, ap, ◌∙◌, subst, rules}
use Rattle.chain_defs.specs.Schema.{Block}
use Rattle.cell_state.specs.Copies.{CopiesOutput, output_in}
use Rattle.cell_state.proofs.CopyLemmas.{named_output, in-hand}
use Rattle.outside.proofs.Endings.{is_told, handed, no_answer}
use Rattle.chain_tree.proofs.ReadLemmas.{read_on}
use Rattle.tx_rules.proofs.copying.copy_kept.Goals as goal

pub returns-in-Err : goal.returns-in-Err
returns-in-Err g c = record {
  read = c.in-Err.ensures.read;
  out_point = tt;
  row = tt;
  output = tt;
  copied = λ stored cell tells named. tt;
  exact = λ stored made tells there. tt;
  undamaged = λ stored cell tells named damage same. c.in-Err.ensures.undamaged (is_told _ stored tells) damage (handed c.in-Err.stop _ same);
}

pub report-requires : goal.report-requires
report-requires g c = record {
  area = λ damage is. c.in-Err-copy_read.ensures.damage damage (ap Err is);
  no_fault = λ is. c.in-Err-copy_read.ensures.unread (ap Err is);
}

pub returns-in-Ok-copy_read : goal.returns-in-Ok-copy_read
returns-in-Ok-copy_read g c =
    let taken : g.B.Blocks.in_hand c.bring.new.self ≡ Some c.args.meta.block = search rules in
    record {
      read = c.in-Ok.ensures.read;
      out_point = c.in-Ok-copy_read.ensures.out_point;
      row = c.in-Ok-copy_read.ensures.row;
      output = c.in-Ok-copy_read.ensures.output;
      copied = λ stored cell tells named.
          let block_is = in-hand c.block-block.result _ _ stored c.args.meta.block named.made (c.in-Ok.ensures.read.told ∙ tells) taken named.there c.block-block.ensures in
          c.in-Ok-copy_read.ensures.copied cell
          (ap (λ (b : Block). output_in b c.args.meta.transaction c.args.o.index) block_is ∙ named_output stored c.args.o c.args.meta cell named);
      exact = λ stored made tells there.
          let block_is = in-hand c.block-block.result _ _ stored c.args.meta.block made (c.in-Ok.ensures.read.told ∙ tells) taken there c.block-block.ensures in
          subst (λ (b : Block). CopiesOutput (output_in b c.args.meta.transaction c.args.o.index) c.in-Ok-copy_read.copy) block_is c.in-Ok-copy_read.ensures.exact;
      undamaged = λ stored cell tells named damage same. no_answer _ _ same;
    }

pub returns-in-Err-copy_read : goal.returns-in-Err-copy_read
returns-in-Err-copy_read g c =
    let taken : g.B.Blocks.in_hand c.bring.new.self ≡ Some c.args.meta.block = search rules in
    record {
      read = read_on c.in-Ok.ensures.read c.report.ensures.read;
      out_point = tt;
      row = tt;
      output = tt;
      copied = λ stored cell tells named. tt;
      exact = λ stored made tells there. tt;
      undamaged = λ stored cell tells named damage same.
          let block_is = in-hand c.block-block.result _ _ stored c.args.meta.block named.made (c.in-Ok.ensures.read.told ∙ tells) taken named.there c.block-block.ensures in
          c.in-Err-copy_read.ensures.undamaged cell
          (ap (λ (b : Block). output_in b c.args.meta.transaction c.args.o.index) block_is ∙ named_output stored c.args.o c.args.meta cell named) damage same;
    }
