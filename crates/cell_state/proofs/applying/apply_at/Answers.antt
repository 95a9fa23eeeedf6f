use Rattle.std.proofs.Common.{◌≡◌, refl, sym, ap, ◌∙◌, subst, arith}
use Rattle.chain_defs.specs.Schema.{Block}
use Rattle.chain_defs.specs.Events.{events_of_block}
use Rattle.chain_defs.specs.Row.{row_after}
use Rattle.chain_defs.specs.Fit.{are_live, AllFit}
use Rattle.chain_defs.proofs.FitLemmas.{found-same}
use Rattle.cell_state.specs.State.{rows}
use Rattle.outside.proofs.Endings.{handed, no_answer, memory_undamaged, is_told}
use Rattle.chain_tree.proofs.ReadLemmas.{same_stop, read_on, read_short}
use Rattle.cell_state.proofs.BelowLemmas.{below-same, after-below}
use Rattle.cell_state.proofs.HandLemmas.{hand-none, hand-is}
use Rattle.cell_state.proofs.RowLemmas.{row_after-same}
use Rattle.cell_state.proofs.FitLemmas.{told-block, none-odd}
use Rattle.cell_state.proofs.applying.apply_at.Goals as goal

pub returns-in-Err : goal.returns-in-Err
returns-in-Err g c = record {
  read = c.in-Err.ensures.read;
  rows = λ stored b tells there. tt;
  below = λ end less are. tt;
  fit = λ stored b tells there. tt;
  undamaged = λ stored b height tells there above fit damage same. c.in-Err.ensures.undamaged (is_told _ stored tells) damage (handed c.in-Err.stop _ same);
  at_record = λ tells damage same. absurd (c.in-Err.ensures.undamaged tells damage (handed c.in-Err.stop _ same));
  steps = tt;
  most = omega arith;
  in_hand = λ damage same. hand-none _ _ c.in-Err.ensures.dropped;
}

pub returns-in-Err-reserve : goal.returns-in-Err-reserve
returns-in-Err-reserve g c = record {
  read = read_short c.in-Ok.ensures.read;
  rows = λ stored b tells there. tt;
  below = λ end less are. tt;
  fit = λ stored b tells there. tt;
  undamaged = λ stored b height tells there above fit damage same. memory_undamaged damage same;
  at_record = λ tells damage same. absurd (memory_undamaged damage same);
  steps = tt;
  most = omega arith;
  in_hand = λ damage same. absurd (memory_undamaged damage same);
}

pub returns-in-Err-transaction_hashes : goal.returns-in-Err-transaction_hashes
returns-in-Err-transaction_hashes g c = record {
  read = read_short c.in-Ok.ensures.read;
  rows = λ stored b tells there. tt;
  below = λ end less are. tt;
  fit = λ stored b tells there. tt;
  undamaged = λ stored b height tells there above fit damage same. memory_undamaged damage same;
  at_record = λ tells damage same. absurd (memory_undamaged damage same);
  steps = tt;
  most = omega arith;
  in_hand = λ damage same. absurd (memory_undamaged damage same);
}

pub returns-in-Ok-apply : goal.returns-in-Ok-apply
returns-in-Ok-apply g c = record {
  read = c.in-Ok.ensures.read;
  rows = λ stored b tells there height o above.
      let is : c.block-block.result ≡ b =
      told-block stored c.block-block.result c.args.place b _ _ (c.in-Ok.ensures.read.told ∙ tells) c.in-Ok.ensures.taken c.block-block.ensures there in
      c.in-Ok-apply.ensures.rows height o above
      ∙ row_after-same c.args.place (events_of_block height c.block-block.result) (rows c.reserve.new.self) (rows c.args.state.now) o (c.in-Ok-reserve.ensures.rows o)
      ∙ ap (λ (x : Block). row_after c.args.place (events_of_block height x) (rows c.args.state.now) o) is;
  below = λ end less are.
      below-same _ (row_after c.args.place (events_of_block 1 c.block-block.result) (rows c.reserve.new.self)) end (λ o. c.in-Ok-apply.ensures.rows 1 o (omega arith))
      (after-below c.args.place (events_of_block 1 c.block-block.result) (rows c.reserve.new.self) end less (below-same _ _ end c.in-Ok-reserve.ensures.rows are));
  fit = λ stored b tells there height above.
      let is : c.block-block.result ≡ b =
      told-block stored c.block-block.result c.args.place b _ _ (c.in-Ok.ensures.read.told ∙ tells) c.in-Ok.ensures.taken c.block-block.ensures there in
      subst (λ (x : Block). AllFit (events_of_block height x) (are_live (rows c.args.state.now))) is
      (found-same (events_of_block height c.block-block.result) (rows c.reserve.new.self) (rows c.args.state.now) (λ o. sym (c.in-Ok-reserve.ensures.rows o))
      (c.in-Ok-apply.ensures.fit height above));
  undamaged = λ stored b height tells there above fit damage same. no_answer _ _ same;
  at_record = λ tells damage same. absurd (no_answer _ _ same);
  steps = c.in-Ok-apply.ensures.steps;
  most = let one = c.in-Ok-apply.ensures.steps in omega (arith, one);
  in_hand = λ damage same. absurd (no_answer _ _ same);
}

pub returns : goal.returns
returns g c = record {
  read = read_on c.in-Ok.ensures.read c.damaged_at.ensures.read;
  rows = λ stored b tells there. tt;
  below = λ end less are. tt;
  fit = λ stored b tells there. tt;
  undamaged = λ stored b height tells there above fit damage same.
      let is : c.block-block.result ≡ b =
      told-block stored c.block-block.result c.args.place b _ _ (c.in-Ok.ensures.read.told ∙ tells) c.in-Ok.ensures.taken c.block-block.ensures there in
      none-odd (events_of_block height c.block-block.result) (are_live (rows c.reserve.new.self)) c.in-Err-apply.field-0
      (found-same (events_of_block height c.block-block.result) (rows c.args.state.now) (rows c.reserve.new.self) c.in-Ok-reserve.ensures.rows
      (subst (λ (x : Block). AllFit (events_of_block height x) (are_live (rows c.args.state.now))) (sym is) fit))
      (c.in-Err-apply.ensures.odd height above);
  at_record = λ tells damage same. c.damaged_at.ensures.at_record damage (same_stop _ _ same);
  steps = tt;
  most = let one = c.in-Err-apply.ensures.steps in omega (arith, one);
  in_hand = λ damage same. hand-is _ _ c.args.place (c.damaged_at.ensures.in_hand ∙ c.in-Ok.ensures.taken) (refl, c.damaged_at.ensures.at_record damage (same_stop _ _ same));
}
