use Rattle.std.proofs.Common.{◌∙◌, ap, refl, rules}
use Rattle.chain_defs.specs.Dao.{field_bytes, field_of_bytes}
use Rattle.chain_defs.proofs.FieldBytes.{field_of_bytes-field_bytes}
use Rattle.dao_math.proofs.FieldBytes.{four-numbers}
use Rattle.dao_math.proofs.dao_field.Dao.write.Goals as goal

pub returns-clause-bytes : goal.returns-clause-bytes
unfolding field_bytes
returns-clause-bytes c = four-numbers _ _ _ _ _ _ _ _ _
    (c.copy_from_slice.ensures.after ∙ c.to_le_bytes.ensures)
    (c.copy_from_slice-2.ensures.after ∙ c.to_le_bytes-2.ensures)
    (c.copy_from_slice-3.ensures.after ∙ c.to_le_bytes-3.ensures)
    (c.copy_from_slice-4.ensures.after ∙ c.to_le_bytes-4.ensures)
    refl
    ∙ ap field_bytes c.self.view_is

pub returns-clause-field : goal.returns-clause-field
returns-clause-field c =
    ap field_of_bytes (returns-clause-bytes c)
    ∙ field_of_bytes-field_bytes c.args.self.now (search rules) (search rules) (search rules) (search rules)
