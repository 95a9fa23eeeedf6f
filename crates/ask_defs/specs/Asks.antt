-- What a line asks (docs/COMMANDS.md, "Many questions").
use Rattle.std.specs.Prelude.{ℕ, List, [], ◌∷◌, drop, codes, Option, Some, None, Result, Ok, Err, ◌==◌, if◌then◌else◌}
use Rattle.std.specs.Option.{option_and_then}
use Rattle.std.specs.Str.{bytes_eq}
use Rattle.hex.specs.Hex.{decode_of}
use Rattle.report_defs.specs.declared.command.Command.{Command}
use Rattle.report_defs.specs.declared.command.Command.TheVariants.{Init, Import, Migrate, Query as of_query, Question, Standalone, Simulation}
use Rattle.report_defs.specs.Text.{hex_text}
use Rattle.report_defs.specs.Words.{command_named, hash_of_word, found_bytes}
use Rattle.ask_defs.specs.declared.ask.Ask.{Ask}
use Rattle.ask_defs.specs.declared.ask.Ask.TheVariants.{Query, Header, Json, Block, Branch, Transaction}
use Rattle.ask_defs.specs.Lines.{put_first}

-- the words of a line: what stands between its spaces
unfoldable pub words_of : List ℕ → List (List ℕ)
words_of [] = [] ∷ []
words_of (byte ∷ bytes) = if byte == 32 then [] ∷ words_of bytes else put_first byte (words_of bytes)

-- ---- A transaction that is to be judged

abbrev pub bytes_spelled : List ℕ → Option (List ℕ) → Option (List ℕ)
bytes_spelled word None = None
bytes_spelled word (Some bytes) = if bytes_eq word (hex_text bytes) then Some bytes else None

-- Bytes: `0x` and two lower-case hex digits for each, and nothing else.
unfoldable pub bytes_of_word : List ℕ → Option (List ℕ)
bytes_of_word word = bytes_spelled word (found_bytes (decode_of (drop 2 word)))

-- `check` and the bytes of a transaction
abbrev pub checked_in : List (List ℕ) → Option (List ℕ)
checked_in [] = None
checked_in (name ∷ []) = None
checked_in (name ∷ bytes ∷ []) = if bytes_eq name (codes "check") then bytes_of_word bytes else None
checked_in (name ∷ bytes ∷ next ∷ more) = None

-- ---- What is asked

-- a command that is a query
abbrev pub query_in : Option Command → Option Ask
query_in None = None
query_in (Some Init) = None
query_in (Some (Import watched)) = None
query_in (Some (Migrate epoch)) = None
query_in (Some (of_query query)) = Some (Query query)
query_in (Some (Question question)) = None
query_in (Some (Standalone command)) = None
query_in (Some (Simulation simulation)) = None

-- what is asked of a hash by this name
abbrev pub asked_of : List ℕ → List ℕ → Option Ask
asked_of name hash =
    if bytes_eq name (codes "header") then Some (Header hash)
    else if bytes_eq name (codes "json") then Some (Json hash)
    else if bytes_eq name (codes "block") then Some (Block hash)
    else if bytes_eq name (codes "branch") then Some (Branch hash)
    else if bytes_eq name (codes "transaction") then Some (Transaction hash)
    else None

abbrev pub asked_by_hash : List (List ℕ) → Option Ask
asked_by_hash [] = None
asked_by_hash (name ∷ []) = None
asked_by_hash (name ∷ hash ∷ []) = option_and_then (asked_of name) (hash_of_word hash)
asked_by_hash (name ∷ hash ∷ next ∷ more) = None

-- the first, or else the second
abbrev pub or_else : Option Ask → Option Ask → Option Ask
or_else None other = other
or_else (Some asked) other = Some asked

-- What words ask: a query as in the words of a run, or what is asked of a hash.
abbrev pub asked_in : List (List ℕ) → Option Ask
asked_in words = or_else (query_in (command_named words)) (asked_by_hash words)
