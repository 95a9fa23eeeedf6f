-- The 32 bytes of a DAO field hold that field.
use Rattle.std.proofs.Common.{◌≡◌, ℕ, ◌^◌, ◌<◌}
use Rattle.std.proofs.lemmas.Nat.{from_le_bytes-to_le_bytes_8}
use Rattle.chain_defs.specs.Dao.{DaoField, field_bytes, field_of_bytes}

abbrev dao_field : ℕ → ℕ → ℕ → ℕ → DaoField
dao_field a b c d = record { issued = a; rate = b; savings = c; occupied = d }

same-fields : (a b c d a' b' c' d' : ℕ) → a ≡ a' → b ≡ b' → c ≡ c' → d ≡ d' →
    dao_field a b c d ≡ dao_field a' b' c' d'
same-fields a b c d a' b' c' d' a_is b_is c_is d_is = cc

pub field_of_bytes-field_bytes : (field : DaoField) →
    field.issued < 2 ^ 64 → field.rate < 2 ^ 64 → field.savings < 2 ^ 64 → field.occupied < 2 ^ 64 →
    field_of_bytes (field_bytes field) ≡ field
unfolding field_bytes field_of_bytes
field_of_bytes-field_bytes field issued_fits rate_fits savings_fits occupied_fits =
    same-fields _ _ _ _ _ _ _ _
    (from_le_bytes-to_le_bytes_8 field.issued issued_fits)
    (from_le_bytes-to_le_bytes_8 field.rate rate_fits)
    (from_le_bytes-to_le_bytes_8 field.savings savings_fits)
    (from_le_bytes-to_le_bytes_8 field.occupied occupied_fits)
