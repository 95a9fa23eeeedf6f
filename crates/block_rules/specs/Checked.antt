-- What the rules on what a block holds leave of it.
use Rattle.std.specs.Prelude.{◌≡◌, ℕ, map, Option, Some, None}
use Rattle.chain_defs.specs.Schema.{Block}
use Rattle.chain_defs.specs.Hashes.{transaction_hash}
use Rattle.rule_defs.specs.RuleNumber.{rule_number}
use Rattle.block_rules.specs.declared.checked.Checked.{Checked}
use Rattle.block_rules.specs.declared.checked.Checked.TheVariants.{Broken, Kept}

-- the first of them that is broken
abbrev pub broken_in : Checked → Option ℕ
broken_in (Broken rule) = Some (rule_number rule)
broken_in (Kept hashes) = None

-- those of a block that is kept are the hashes of its transactions
abbrev pub HasHashes : Block → Checked → Type 0
HasHashes b (Broken rule) = Unit {0}
HasHashes b (Kept hashes) = hashes.items ≡ map transaction_hash b.transactions
