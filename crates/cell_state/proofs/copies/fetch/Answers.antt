use Rattle.std.proofs.Common.{◌≡◌, Some, refl, ap, ◌∙◌, subst, rules}
use Rattle.chain_defs.specs.Schema.{Block}
use Rattle.outside.proofs.Endings.{handed, is_told, no_answer}
use Rattle.chain_tree.proofs.ReadLemmas.{read_on}
use Rattle.cell_state.specs.Copies.{CopiesOutput, output_in}
use Rattle.cell_state.proofs.CopyLemmas.{named_output, in-hand}
use Rattle.cell_state.proofs.HandLemmas.{hand-none, hand-is}
use Rattle.cell_state.proofs.copies.fetch.Goals as goal

pub returns-in-Err : goal.returns-in-Err
returns-in-Err g c = record {
  read = c.in-Err.ensures.read;
  out_point = tt;
  row = tt;
  output = tt;
  copied = λ stored cell tells named. tt;
  undamaged = λ stored cell tells named damage same. c.in-Err.ensures.undamaged (is_told _ stored tells) damage (handed c.in-Err.stop _ same);
  exact = λ stored made tells there. tt;
  place = λ told damage same. absurd (c.in-Err.ensures.undamaged told damage (handed c.in-Err.stop _ same));
  in_hand = λ damage same. hand-none _ _ c.in-Err.ensures.dropped;
}

pub returns-in-Ok-copy_in : goal.returns-in-Ok-copy_in
returns-in-Ok-copy_in g c =
    let taken : g.B.Blocks.in_hand c.bring.new.self ≡ Some c.args.meta.block = search rules in
    record {
      read = c.in-Ok.ensures.read;
      out_point = c.in-Ok-copy_in.ensures.out_point;
      row = c.in-Ok-copy_in.ensures.row;
      output = c.in-Ok-copy_in.ensures.output;
      copied = λ stored cell tells named.
          let block_is = in-hand c.block-block.result _ _ stored c.args.meta.block named.made (c.in-Ok.ensures.read.told ∙ tells) taken named.there c.block-block.ensures in
          c.in-Ok-copy_in.ensures.copied cell
          (ap (λ (b : Block). output_in b c.args.meta.transaction c.args.o.index) block_is ∙ named_output stored c.args.o c.args.meta cell named);
      undamaged = λ stored cell tells named damage same. no_answer _ _ same;
      exact = λ stored made tells there.
          let block_is = in-hand c.block-block.result _ _ stored c.args.meta.block made (c.in-Ok.ensures.read.told ∙ tells) taken there c.block-block.ensures in
          subst (λ (b : Block). CopiesOutput (output_in b c.args.meta.transaction c.args.o.index) c.in-Ok-copy_in.copy) block_is c.in-Ok-copy_in.ensures.exact;
      place = λ told damage same. absurd (no_answer _ _ same);
      in_hand = λ damage same. absurd (no_answer _ _ same);
    }

pub returns-in-Err-copy_in : goal.returns-in-Err-copy_in
returns-in-Err-copy_in g c =
    let taken : g.B.Blocks.in_hand c.bring.new.self ≡ Some c.args.meta.block = search rules in
    record {
      read = read_on c.in-Ok.ensures.read c.report.ensures.read;
      out_point = tt;
      row = tt;
      output = tt;
      copied = λ stored cell tells named. tt;
      undamaged = λ stored cell tells named damage same.
          let block_is = in-hand c.block-block.result _ _ stored c.args.meta.block named.made (c.in-Ok.ensures.read.told ∙ tells) taken named.there c.block-block.ensures in
          c.in-Err-copy_in.ensures.undamaged cell
          (ap (λ (b : Block). output_in b c.args.meta.transaction c.args.o.index) block_is ∙ named_output stored c.args.o c.args.meta cell named) damage same;
      exact = λ stored made tells there. tt;
      place = λ told. c.in-Err-copy_in.ensures.place;
      in_hand = λ damage same. hand-is _ _ c.args.meta.block (c.report.ensures.in_hand ∙ taken) (refl, c.in-Err-copy_in.ensures.place damage same);
    }
