use Rattle.std.proofs.Common.{◌≡◌, None, sym, ap, ◌∙◌, arith}
use Rattle.chain_defs.specs.Schema.{Block}
use Rattle.chain_tree.specs.Told.{blocks_of}
use Rattle.chain_defs.specs.Events.{events_of_block}
use Rattle.chain_defs.specs.Row.{row_after}
use Rattle.outside.proofs.Endings.{handed, no_answer, memory_undamaged, is_told}
use Rattle.chain_tree.proofs.ReadLemmas.{read_short}
use Rattle.cell_state.proofs.BelowLemmas.{below-same, none-below, after-below}
use Rattle.cell_state.proofs.FitLemmas.{told-block}
use Rattle.cell_state.proofs.RowLemmas.{live_row-genesis}
use Rattle.cell_state.proofs.StepLemmas.{block-there}
use Rattle.cell_state.proofs.applying.genesis_cells.Goals as goal

pub returns-in-Err : goal.returns-in-Err
returns-in-Err g c = record {
  read = c.in-Err.ensures.read;
  rows = λ stored tells indexes. tt;
  below = tt;
  undamaged = λ stored tells damage same. c.in-Err.ensures.undamaged (is_told _ stored tells) damage (handed c.in-Err.stop _ same);
}

pub returns-in-Err-transaction_hashes : goal.returns-in-Err-transaction_hashes
returns-in-Err-transaction_hashes g c = record {
  read = read_short c.in-Ok.ensures.read;
  rows = λ stored tells indexes. tt;
  below = tt;
  undamaged = λ stored tells damage same. memory_undamaged damage same;
}

pub returns-in-Ok-genesis : goal.returns-in-Ok-genesis
returns-in-Ok-genesis g c = record {
  read = c.in-Ok.ensures.read;
  rows = λ stored tells indexes o.
      let there = block-there (blocks_of stored) c.args.tree.now.entries 0 indexes c.requires.some in
      let is : c.block-block.result ≡ there.0 =
      told-block stored c.block-block.result 0 there.0 _ _ (c.in-Ok.ensures.read.told ∙ tells) c.in-Ok.ensures.taken c.block-block.ensures there.1 in
      c.in-Ok-genesis.ensures o ∙ ap (λ (x : Block). row_after 0 (events_of_block 0 x) (λ _. None) o) is
      ∙ sym (live_row-genesis (blocks_of stored) there.0 o there.1);
  below =
      below-same _ (row_after 0 (events_of_block 0 c.block-block.result) (λ _. None)) 1 c.in-Ok-genesis.ensures
      (after-below 0 (events_of_block 0 c.block-block.result) (λ _. None) 1 (omega arith) none-below);
  undamaged = λ stored tells damage same. no_answer _ _ same;
}

pub returns : goal.returns
returns g c = record {
  read = read_short c.in-Ok.ensures.read;
  rows = λ stored tells indexes. tt;
  below = tt;
  undamaged = λ stored tells damage same. memory_undamaged damage same;
}
