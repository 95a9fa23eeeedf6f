-- What the program answers to an input, by what it is asked for.
use Rattle.std.specs.Prelude.{ℕ, List, Some, None}
use Rattle.chain_defs.specs.Schema as schema
use Rattle.json_defs.specs.Blocks as form
use Rattle.json_defs.specs.Laws.{IsNoText}
use Rattle.ckbjson.specs.declared.words.Command.{Command}
use Rattle.ckbjson.specs.declared.words.Command.TheVariants as commands
use Rattle.ckbjson.specs.declared.answers.Answer.{Answer}
use Rattle.ckbjson.specs.declared.answers.Answer.TheVariants as answers
use Rattle.ckbjson.specs.Items.{IsRead, IsNotRead, IsReadSealed, IsShown, IsIdentified}

-- Bytes are what the input is read as, shown as, or identified by. It is refused where there is none of that, and a block
-- that cannot be sealed is too much.
abbrev pub IsAnswer : Command → List ℕ → Answer → Type 0
IsAnswer (commands.Read kind) input (answers.Bytes bytes) = IsRead kind input bytes.items
IsAnswer (commands.Read kind) input answers.Refused = IsNotRead kind input
IsAnswer (commands.Read kind) input answers.TooMuch = ⊥
IsAnswer commands.Seal input (answers.Bytes bytes) = IsReadSealed input (Some bytes)
IsAnswer commands.Seal input answers.Refused = IsNoText form.block schema.block input
IsAnswer commands.Seal input answers.TooMuch = IsReadSealed input None
IsAnswer (commands.Show kind) input (answers.Bytes bytes) = IsShown kind input (Some bytes)
IsAnswer (commands.Show kind) input answers.Refused = IsShown kind input None
IsAnswer (commands.Show kind) input answers.TooMuch = ⊥
IsAnswer commands.Id input (answers.Bytes bytes) = IsIdentified input (Some bytes)
IsAnswer commands.Id input answers.Refused = IsIdentified input None
IsAnswer commands.Id input answers.TooMuch = ⊥
