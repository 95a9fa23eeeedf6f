use Rattle.std.proofs.Common.{◌≡◌, ◌∷◌, [], ◌++◌, ◌*◌, ◌+◌, List, ℕ, ap, sym, ◌∙◌, length, map, arith}
use Rattle.std.specs.List.{concat}
use Rattle.std.proofs.lemmas.List.{length_push}
use Rattle.std.proofs.lemmas.List.Elements.{All-same, All-push}
use Rattle.chain_defs.specs.Schema.{OutPoint}
use Rattle.chain_defs.specs.Row.{Row}
use Rattle.chain_defs.specs.Ext.{row_bytes}
use Rattle.chain_defs.specs.Fits.{FitsRow}
use Rattle.cell_state.proofs.ExtLemmas.{one_read_more, one_row_more, no_row}
use Rattle.cell_state.proofs.ext.read_rows.Goals as goal

pub returns-in_default-clause-found : goal.returns-in_default-clause-found
returns-in_default-clause-found c =
    sym (c.rows.invariant.form ∙ no_row c.args.count c.rows.i c.args.bytes.now c.rows-test.true (sym c.in_default.ensures.found))

pub rows-preserved : goal.rows-preserved
rows-preserved c =
    let i = c.rows.i in
    let grown : c.push.new.self.items ≡ c.rows.rows.items ++ c.in-Some.row ∷ [] = c.in_ok-push.ensures.items in
    record {
      count = ap length grown ∙ length_push c.rows.rows.items c.in-Some.row ∙ ap (λ (n : ℕ). n + 1) c.rows.invariant.count;
      bytes = ap (λ (l : List (OutPoint × Row)). concat (map row_bytes l)) grown
          ∙ one_read_more row_bytes c.rows.rows.items c.in-Some.row c.args.bytes.now (161 * i) 161 (161 * (i + 1)) (omega arith) c.rows.invariant.bytes c.in-Some.ensures.bytes;
      form = c.rows.invariant.form ∙ one_row_more c.args.count i c.args.bytes.now c.rows-test.true (sym c.in-Some.ensures.found);
      fits = All-same FitsRow _ _ grown (All-push FitsRow c.rows.rows.items c.in-Some.row c.rows.invariant.fits c.in-Some.ensures.fits);
    }
