-- No two rules have one number.
use Rattle.std.proofs.Common.{◌≡◌, ℕ, List, [], ◌∷◌, Option, Some, refl, sym, ap, ◌∙◌}
use Rattle.std.specs.Prelude.{slice_get}
use Rattle.std.proofs.lemmas.Option.{same_Some}
use Rattle.rule_defs.specs.RuleNumber.{rule_number}
use Rattle.rule_defs.specs.declared.rule.Rule.{Rule}
use Rattle.rule_defs.specs.declared.rule.Rule.TheVariants.{Encoding, Known, Parent, Version, Number, Epoch, CompactTarget, Timestamp, Length, Proposals, ProposalsHash, TransactionsRoot, UncleCount, UnclesHash, Uncles, Cellbase, CellbaseForm, TransactionForm, Proposed, Inputs, CellDeps, HeaderDeps, Maturity, Since, Outputs, Withdrawals, Capacity, ScriptCode, ScriptExit, Cycles, Reward, DaoField}

-- by their numbers; no rule has 0
abbrev numbered : List Rule
numbered = Encoding ∷ Encoding ∷ Known ∷ Parent ∷ Version ∷ Number ∷ Epoch ∷ CompactTarget ∷ Timestamp ∷ Length ∷ Proposals ∷ ProposalsHash ∷ TransactionsRoot ∷ UncleCount ∷ UnclesHash ∷ Uncles ∷ Cellbase ∷ CellbaseForm ∷ TransactionForm ∷ Proposed ∷ Inputs ∷ CellDeps ∷ HeaderDeps ∷ Maturity ∷ Since ∷ Outputs ∷ Withdrawals ∷ Capacity ∷ ScriptCode ∷ ScriptExit ∷ Cycles ∷ Reward ∷ DaoField ∷ []

its-own : (rule : Rule) → slice_get numbered (rule_number rule) ≡ Some rule
its-own Encoding = refl
its-own Known = refl
its-own Parent = refl
its-own Version = refl
its-own Number = refl
its-own Epoch = refl
its-own CompactTarget = refl
its-own Timestamp = refl
its-own Length = refl
its-own Proposals = refl
its-own ProposalsHash = refl
its-own TransactionsRoot = refl
its-own UncleCount = refl
its-own UnclesHash = refl
its-own Uncles = refl
its-own Cellbase = refl
its-own CellbaseForm = refl
its-own TransactionForm = refl
its-own Proposed = refl
its-own Inputs = refl
its-own CellDeps = refl
its-own HeaderDeps = refl
its-own Maturity = refl
its-own Since = refl
its-own Outputs = refl
its-own Withdrawals = refl
its-own Capacity = refl
its-own ScriptCode = refl
its-own ScriptExit = refl
its-own Cycles = refl
its-own Reward = refl
its-own DaoField = refl

pub same-number : (one other : Rule) → rule_number one ≡ rule_number other → one ≡ other
same-number one other same = same_Some one other (sym (its-own one) ∙ ap (slice_get numbered) same ∙ its-own other)
