use Rattle.std.proofs.Common.{◌≡◌, take}
use Rattle.tx_rules.proofs.form.header_deps_of.Given as goal

-- those before the i-th
abbrev pub invariant-deps : goal.invariant-deps
invariant-deps l = l.deps.items ≡ take l.i l.tx.raw.header_deps
