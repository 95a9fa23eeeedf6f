use Rattle.std.proofs.Common.{sym, ap, ◌∙◌, arith}
use Rattle.rule_defs.specs.Window.{proposes}
use Rattle.outside.proofs.Endings.{handed, no_answer, is_told}
use Rattle.proposal_window.proofs.KeptLemmas.{kept-block}
use Rattle.proposal_window.proofs.proposing.is_proposed_at.Goals as goal

pub returns-in-Err : goal.returns-in-Err
returns-in-Err g c = record {
  read = c.in-Err.ensures.read;
  proposes = λ stored tells. tt;
  undamaged = λ stored tells damage same. c.in-Err.ensures.undamaged (is_told _ stored tells) damage (handed c.in-Err.stop _ same);
}

pub returns : goal.returns
returns g c = record {
  read = c.in-Ok.ensures.read;
  proposes = λ stored tells.
      let within = c.requires.within in
      let counts = c.requires.counts in
      let kept = kept-block stored c.block-block.result c.args.place (g.B.Blocks.count c.args.blocks.now) (g.B.Blocks.told c.args.blocks.now) _ _ tells c.in-Ok.ensures.read.told
      c.in-Ok.ensures.taken (g.met.B.Blocks.told_all c.args.blocks.now) (omega (arith, within, counts)) c.block-block.ensures in
      c.proposes.ensures ∙ ap (proposes c.args.id.now) (sym kept);
  undamaged = λ stored tells damage same. no_answer _ _ same;
}
