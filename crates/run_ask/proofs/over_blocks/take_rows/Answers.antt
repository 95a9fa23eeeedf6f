use Rattle.std.proofs.Common.{◌≡◌, ℕ, ◌++◌, List, Some, ap, ◌∙◌}
use Rattle.outside.proofs.Endings.{handed, no_answer, memory_undamaged}
use Rattle.chain_defs.specs.Schema.{Block}
use Rattle.chain_defs.specs.Kept.{block_at}
use Rattle.chain_tree.specs.Told.{blocks_of}
use Rattle.chain_tree.proofs.ReadLemmas.{read_short}
use Rattle.node_store.specs.Kept.{stored_of}
use Rattle.node_store.proofs.QueryLemmas.{block-told}
use Rattle.node_store.proofs.KeptRecorded.{blocks-told}
use Rattle.transaction_index.specs.Rows.{rows_from}
use Rattle.run_ask.proofs.over_blocks.take_rows.Goals as goal

pub returns-in-Err : goal.returns-in-Err
returns-in-Err g c = record {
  read = c.in-Err.ensures.read;
  added = λ tells. tt;
  undamaged = λ tells damage same. c.in-Err.ensures.undamaged tells damage (handed c.in-Err.stop _ same);
}

pub returns-in_default : goal.returns-in_default
returns-in_default g c = record {
  read = read_short c.in-Ok.ensures.read;
  added = λ tells. tt;
  undamaged = λ tells damage same. memory_undamaged damage same;
}

pub returns-in-Ok-push_rows-clause-read : goal.returns-in-Ok-push_rows-clause-read
returns-in-Ok-push_rows-clause-read g c = c.in-Ok.ensures.read

pub returns-in-Ok-push_rows-clause-undamaged : goal.returns-in-Ok-push_rows-clause-undamaged
returns-in-Ok-push_rows-clause-undamaged g c = λ tells damage same. no_answer _ _ same

pub returns-in-Ok-push_rows-clause-added : goal.returns-in-Ok-push_rows-clause-added
returns-in-Ok-push_rows-clause-added g c = λ tells.
    let stored = stored_of c.args.kept.now in
    let kept : List Block = c.args.kept.now.chain.blocks in
    let seen : blocks_of stored ≡ kept = blocks-told c.args.kept.now _ _ tells (g.met.B.Blocks.told_all c.args.blocks.now) c.requires.counts in
    let there : block_at kept c.args.place ≡ Some c.block-block.result =
    block-told stored kept c.args.place c.block-block.result _ _ seen c.requires.within (c.in-Ok.ensures.read.told ∙ tells) c.in-Ok.ensures.taken c.block-block.ensures in (
      c.block-block.result,
      there,
      c.in-Ok-push_rows.ensures
          ∙ ap (λ (hashes : List (List ℕ)). c.args.rows.now.items ++ rows_from c.args.number 0 hashes) (c.deref.ensures.value ∙ c.in-Ok-transaction_hashes.ensures.hashes),
    )

pub returns-clause-read : goal.returns-clause-read
returns-clause-read g c = read_short c.in-Ok.ensures.read

pub returns-clause-undamaged : goal.returns-clause-undamaged
returns-clause-undamaged g c = λ tells damage same. memory_undamaged damage same

pub returns-clause-added : goal.returns-clause-added
returns-clause-added g c = λ tells. tt
