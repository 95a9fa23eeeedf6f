use Rattle.std.proofs.Common.{◌≡◌, ◌++◌, ◌+◌, ℕ, List, length, map, take, arith, ap, ◌∙◌, rules}
use Rattle.std.specs.List.{concat}
use Rattle.std.specs.Int.{w32, to_le_bytes}
use Rattle.std.proofs.lemmas.List.{length-append}
use Rattle.chain_defs.specs.Schema.{OutPoint}
use Rattle.chain_defs.specs.Row.{Row}
use Rattle.chain_defs.specs.Ext.{row_bytes}
use Rattle.cell_state.proofs.ExtLemmas.{pieces_to, one_put_more, are_one_more}
use Rattle.cell_state.proofs.ext.put_rows.Goals as goal

pub rows-preserved : goal.rows-preserved
rows-preserved c =
    let rows : List (OutPoint × Row) = c.args.rows.now in
    let i = c.rows.o-index in
    let row = c.rows-item.result in
    let before : List ℕ = concat (map row_bytes (take i rows)) in
    let grown : concat (map row_bytes (take (i + 1) rows)) ≡ before ++ row_bytes row = pieces_to row_bytes rows i row c.rows-test.true c.rows-item.is in
    record {
      written =
          one_put_more
          row_bytes
          (c.args.bytes.now.items ++ to_le_bytes w32 (length rows))
          c.rows.bytes.items
          _
          rows
          i
          row
          c.rows-test.true
          c.rows-item.is
          c.rows.invariant.written
          c.in_ok-put_row.ensures.written;
      size = ap length grown ∙ length-append before (row_bytes row) ∙ omega (arith, c.rows.invariant.size, c.in_ok-put_row.ensures.size);
      form = are_one_more i before _ (row_bytes row) grown c.rows.invariant.size c.in_ok-put_row.ensures.size c.rows.invariant.form c.in_ok-put_row.ensures.form;
    }

pub rows-init : goal.rows-init
rows-init c = search rules
