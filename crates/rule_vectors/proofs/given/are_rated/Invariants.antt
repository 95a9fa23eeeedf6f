use Rattle.std.proofs.Common.{◌≡◌, ℕ, ◌<◌, Some}
use Rattle.std.specs.Prelude.{IsTrue}
use Rattle.chain_defs.specs.Dao.{is_rated}
use Rattle.chain_tree.specs.declared.entry.Entry.{Entry}
use Rattle.chain_tree.specs.Entries.{entry_at}
use Rattle.rule_vectors.proofs.given.are_rated.Given as goal

-- those before the place are rated
abbrev pub invariant-entries : goal.invariant-entries
invariant-entries l = (other : ℕ) (entry : Entry) → other < l.place → entry_at l.tree.entries other ≡ Some entry → IsTrue (is_rated entry.dao)
