-- What is shown of a kept block.
use Rattle.std.specs.Prelude.{ℕ, List}
use Rattle.chain_defs.specs.Schema.{Block}
use Rattle.ask_defs.specs.Answers.{header_of_block, json_of_block, block_line}
use Rattle.run_ask.specs.declared.answers.Shown.{Shown}
use Rattle.run_ask.specs.declared.answers.Shown.TheVariants.{Header, Json, Whole}

abbrev pub shown : Shown → Block → List ℕ
shown Header block = header_of_block block
shown Json block = json_of_block block
shown Whole block = block_line block
