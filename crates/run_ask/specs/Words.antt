-- The parts of a line's words.
use Rattle.std.specs.Prelude.{ℕ, List, [], Option, Some, None}
use Rattle.ask_defs.specs.Asks.{words_of}

-- the words that follow the first
abbrev pub words_after : Option (List ℕ) → List (List ℕ)
words_after None = []
words_after (Some rest) = words_of rest
