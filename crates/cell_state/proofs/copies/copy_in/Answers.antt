use Rattle.std.proofs.Common.{◌≡◌, Some, refl, ◌∙◌}
use Rattle.chain_defs.specs.Cell.{Cell}
use Rattle.outside.proofs.Endings.{no_answer, no_memory, memory_undamaged}
use Rattle.cell_state.proofs.CopyLemmas.{copies, same_output}
use Rattle.cell_state.proofs.copies.copy_in.Goals as goal

pub returns-in-Ok : goal.returns-in-Ok
returns-in-Ok c = record {
  out_point = c.in-Ok.ensures.out_point;
  row = c.in-Ok.ensures.row;
  output = c.in-Ok.ensures.output;
  copied = λ cell output.
      let output_is : Some (c.in-Some.output, c.in-Some.content.now) ≡ Some (cell.output, cell.content) = c.in-Some.ensures ∙ output in
      let same = same_output (c.in-Some.output, c.in-Some.content.now) (cell.output, cell.content) output_is in
      c.in-Ok.ensures.copied cell same.0 same.1;
  exact =
      let cell : Cell = record { output = c.in-Some.output; content = c.in-Some.content.now; height = 0; transaction = 0 } in
      copies _ cell c.in-Ok.copy c.in-Some.ensures (c.in-Ok.ensures.copied cell refl refl);
  undamaged = λ cell output damage same. no_answer _ _ same;
  place = λ damage same. absurd (no_answer _ _ same);
  unread = no_answer _ _;
}

pub returns-in-Err : goal.returns-in-Err
returns-in-Err c = record {
  out_point = tt;
  row = tt;
  output = tt;
  copied = λ cell output. tt;
  exact = tt;
  undamaged = λ cell output damage same. memory_undamaged damage same;
  place = λ damage same. absurd (memory_undamaged damage same);
  unread = no_memory;
}
