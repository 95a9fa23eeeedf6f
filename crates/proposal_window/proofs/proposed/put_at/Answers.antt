use Rattle.std.proofs.Common.{◌∙◌, arith}
use Rattle.chain_defs.specs.Kept.{block_at}
use Rattle.chain_tree.specs.Told.{blocks_of}
use Rattle.chain_tree.proofs.ReadLemmas.{read_short}
use Rattle.outside.proofs.Endings.{handed, no_answer, memory_undamaged, is_told}
use Rattle.proposal_window.proofs.KeptLemmas.{kept-block}
use Rattle.proposal_window.proofs.ProposedLemmas.{put-id}
use Rattle.proposal_window.proofs.proposed.put_at.Goals as goal

pub returns-in-Err : goal.returns-in-Err
returns-in-Err g c = record {
  read = c.in-Err.ensures.read;
  put = λ stored tells. tt;
  undamaged = λ stored tells damage same. c.in-Err.ensures.undamaged (is_told _ stored tells) damage (handed c.in-Err.stop _ same);
}

pub returns-in-Ok-put_ids : goal.returns-in-Ok-put_ids
returns-in-Ok-put_ids g c = record {
  read = c.in-Ok.ensures.read;
  put = λ stored tells id.
      let within = c.requires.within in
      let counts = c.requires.counts in
      let kept = kept-block stored c.block-block.result c.args.place (g.B.Blocks.count c.args.blocks.now) (g.B.Blocks.told c.args.blocks.now) _ _ tells c.in-Ok.ensures.read.told
      c.in-Ok.ensures.taken (g.met.B.Blocks.told_all c.args.blocks.now) (omega (arith, within, counts)) c.block-block.ensures in
      put-id id c.block-block.result (block_at (blocks_of stored) c.args.place) _ _ kept c.in-Ok-put_ids.ensures;
  undamaged = λ stored tells damage same. no_answer _ _ same;
}

pub returns-in-Err-put_ids : goal.returns-in-Err-put_ids
returns-in-Err-put_ids g c = record {
  read = read_short c.in-Ok.ensures.read;
  put = λ stored tells. tt;
  undamaged = λ stored tells damage same. memory_undamaged damage same;
}
