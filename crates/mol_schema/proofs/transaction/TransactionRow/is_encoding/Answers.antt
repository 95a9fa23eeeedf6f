use Rattle.std.proofs.Common.{rules}
use Rattle.mol_schema.proofs.transaction.TransactionRow.is_encoding.Goals as goal

pub returns-then-is_encoding : goal.returns-then-is_encoding
returns-then-is_encoding c = search rules
