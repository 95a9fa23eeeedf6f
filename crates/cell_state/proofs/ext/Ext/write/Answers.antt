use Rattle.std.proofs.Common.{◌≡◌, ◌*◌, true, length, map, ap, ◌∙◌, rules}
use Rattle.std.specs.List.{concat}
use Rattle.chain_defs.specs.Ext.{row_bytes, are_rows, ext_bytes, is_ext}
use Rattle.cell_state.proofs.ExtLemmas.{written_form}
use Rattle.cell_state.proofs.ext.Ext.write.Goals as goal

pub returns-clause-bytes : goal.returns-clause-bytes
unfolding ext_bytes
returns-clause-bytes c = search rules

pub returns-clause-form : goal.returns-clause-form
returns-clause-form c =
    let bytes : c.put_rows.new.bytes.items ≡ ext_bytes c.args.self.now = returns-clause-bytes c in
    let size : length (concat (map row_bytes c.args.self.now.spent)) ≡ 161 * length c.args.self.now.spent = search rules in
    let rows : are_rows (length c.args.self.now.spent) (concat (map row_bytes c.args.self.now.spent)) ≡ true = search rules in
    ap is_ext bytes ∙ written_form c.args.self.now c.requires.fees c.requires.spent size rows
