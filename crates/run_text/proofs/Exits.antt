-- Results that a function's clauses compare with one error.
use Rattle.std.proofs.Common.{◌≡◌, Result, Err}

-- two errors are one by what they carry
pub same_stop : {T E : Type 0} (first second : E) → ◌≡◌ {A = Result T E} (Err first) (Err second) → first ≡ second
same_stop first second is = cc
