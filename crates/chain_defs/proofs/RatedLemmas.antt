-- A rated DAO field by its two numbers.
use Rattle.std.proofs.Common.{ℕ, ◌<◌, List}
use Rattle.std.specs.Prelude.{nat_lt, IsTrue}
use Rattle.std.proofs.lemmas.Bool.{and_parts, and_from}
use Rattle.std.proofs.lemmas.Bool.Decides.{Decides-ltb}
use Rattle.chain_defs.specs.Dao.{field_of_bytes, is_rated}

pub rated-parts : (bytes : List ℕ) → IsTrue (is_rated bytes) → (0 < (field_of_bytes bytes).issued) × (0 < (field_of_bytes bytes).rate)
rated-parts bytes rated =
    let parts = and_parts (nat_lt 0 (field_of_bytes bytes).issued) (nat_lt 0 (field_of_bytes bytes).rate) rated in
    ((Decides-ltb 0 (field_of_bytes bytes).issued).0 parts.0, (Decides-ltb 0 (field_of_bytes bytes).rate).0 parts.1)

pub rated-from : (bytes : List ℕ) → 0 < (field_of_bytes bytes).issued → 0 < (field_of_bytes bytes).rate → IsTrue (is_rated bytes)
rated-from bytes issued rate =
    and_from (nat_lt 0 (field_of_bytes bytes).issued) (nat_lt 0 (field_of_bytes bytes).rate)
    ((Decides-ltb 0 (field_of_bytes bytes).issued).1 issued) ((Decides-ltb 0 (field_of_bytes bytes).rate).1 rate)
