-- The grammar of a run's words: a folder, which is any word that is not empty, and a command (docs/COMMANDS.md, "Words").
use Rattle.std.specs.Prelude.{◌≡◌, ◌↔◌, ℕ, ◌-◌, ◌^◌, ◌<◌, ◌≤◌, ◌==◌, nat_le, ◌&&◌, List, [], ◌∷◌, length, drop, codes, Option, Some, None, Result, Ok, Err, if◌then◌else◌}
use Rattle.std.specs.Option.{option_map, option_and_then}
use Rattle.std.specs.Str.{bytes_eq}
use Rattle.std.specs.Str.Parse.{digits_value}
use Rattle.std.specs.Fmt.{decimal}
use Rattle.hex.specs.Hex.{IsBytes, decode_sized}
use Rattle.hex.specs.declared.error.FromHexError.{FromHexError}
use Rattle.report_defs.specs.Text.{hash_text}
use Rattle.report_defs.specs.declared.command.Command.{Command}
use Rattle.report_defs.specs.declared.command.Command.TheVariants.{Init, Import, Migrate, Query, Question, Standalone, Simulation}
use Rattle.report_defs.specs.declared.command.Query.TheVariants.{Tip, Header, Json, Epoch, Cell, Cells, Dao, Audit}
use Rattle.report_defs.specs.declared.command.Question.TheVariants.{Check, Assemble}
use Rattle.report_defs.specs.declared.command.Standalone.TheVariants.{Exec, Asm, Dis, Unjson}
use Rattle.report_defs.specs.declared.command.Simulation.TheVariants.{Make, Soak}

-- A number: decimal digits, without a sign or a leading zero but for `0` itself, at most a limit.
unfoldable pub number_up_to : ℕ → List ℕ → Option ℕ
number_up_to limit word =
    let number = digits_value 10 word in
    if bytes_eq word (decimal number) && nat_le number limit then Some number else None

-- Law: a word gives a number exactly where it is the decimal text of one within the limit.
abbrev pub SpellsNumbers : Type 0
SpellsNumbers = (limit : ℕ) (word : List ℕ) (number : ℕ) → limit < 2 ^ 64
    → (number_up_to limit word ≡ Some number) ↔ ((word ≡ decimal number) × (number ≤ limit))

-- the bytes of hex digits that were read, if they were
abbrev pub found_bytes : Result (List ℕ) FromHexError → Option (List ℕ)
found_bytes (Ok bytes) = Some bytes
found_bytes (Err error) = None

abbrev pub hash_spelled : List ℕ → Option (List ℕ) → Option (List ℕ)
hash_spelled word None = None
hash_spelled word (Some hash) = if bytes_eq word (hash_text hash) then Some hash else None

-- A hash: `0x` and the 64 lower-case hex digits of 32 bytes, and nothing else.
unfoldable pub hash_of_word : List ℕ → Option (List ℕ)
hash_of_word word = hash_spelled word (found_bytes (decode_sized (drop 2 word) 32))

-- Law: a word gives a hash exactly where it is the text of these 32 bytes.
abbrev pub SpellsHashes : Type 0
SpellsHashes = (word hash : List ℕ) → IsBytes hash → (hash_of_word word ≡ Some hash) ↔ ((word ≡ hash_text hash) × (length hash ≡ 32))

-- a number of eight bytes, at most 2^64 - 1
unfoldable pub number_limit : ℕ
number_limit = 2 ^ 64 - 1

-- the most cycles of a budget
unfoldable pub budget_limit : ℕ
budget_limit = 2 ^ 40

-- the most generated blocks, and the most that are imported again and again
unfoldable pub made_limit : ℕ
made_limit = 20000

unfoldable pub soak_limit : ℕ
soak_limit = 100

-- the commands that take no argument
abbrev pub command_alone : List ℕ → Option Command
command_alone name =
    if bytes_eq name (codes "init") then Some Init
    else if bytes_eq name (codes "import") then Some (Import None)
    else if bytes_eq name (codes "tip") then Some (Query Tip)
    else if bytes_eq name (codes "epoch") then Some (Query Epoch)
    else if bytes_eq name (codes "audit") then Some (Query Audit)
    else if bytes_eq name (codes "check") then Some (Question Check)
    else if bytes_eq name (codes "assemble") then Some (Question Assemble)
    else if bytes_eq name (codes "asm") then Some (Standalone Asm)
    else if bytes_eq name (codes "dis") then Some (Standalone Dis)
    else if bytes_eq name (codes "unjson") then Some (Standalone Unjson)
    else None

-- those that take one
abbrev pub command_with : List ℕ → List ℕ → Option Command
command_with name argument =
    if bytes_eq name (codes "exec") then option_map (λ budget. Standalone (Exec budget)) (number_up_to budget_limit argument)
    else if bytes_eq name (codes "header") then option_map (λ height. Query (Header height)) (number_up_to number_limit argument)
    else if bytes_eq name (codes "json") then option_map (λ height. Query (Json height)) (number_up_to number_limit argument)
    else if bytes_eq name (codes "migrate") then option_map (λ epoch. Migrate epoch) (number_up_to number_limit argument)
    else if bytes_eq name (codes "watch") then option_map (λ lock. Import (Some lock)) (hash_of_word argument)
    else if bytes_eq name (codes "list") then option_map (λ lock. Query (Cells lock)) (hash_of_word argument)
    else None

-- an out-point of two words: the hash of a transaction, and an index
abbrev pub out_point_of : List ℕ → List ℕ → Option (List ℕ × ℕ)
out_point_of hash index = option_and_then (λ tx_hash. option_map (λ number. (tx_hash, number)) (number_up_to number_limit index)) (hash_of_word hash)

-- a seed and a count of generated blocks, at most a limit
abbrev pub made_of : ℕ → List ℕ → List ℕ → Option (ℕ × ℕ)
made_of limit seed count = option_and_then (λ from. option_map (λ number. (from, number)) (number_up_to limit count)) (number_up_to number_limit seed)

-- those that take two
abbrev pub command_at : List ℕ → List ℕ → List ℕ → Option Command
command_at name first second =
    if bytes_eq name (codes "cell") then option_map (λ o. Query (Cell o.0 o.1)) (out_point_of first second)
    else if bytes_eq name (codes "dao") then option_map (λ o. Query (Dao o.0 o.1)) (out_point_of first second)
    else if bytes_eq name (codes "make") then option_map (λ made. Simulation (Make made.0 made.1)) (made_of made_limit first second)
    else if bytes_eq name (codes "soak") then option_map (λ made. Simulation (Soak made.0 made.1)) (made_of soak_limit first second)
    else None

abbrev pub command_named : List (List ℕ) → Option Command
command_named [] = None
command_named (name ∷ []) = command_alone name
command_named (name ∷ argument ∷ []) = command_with name argument
command_named (name ∷ first ∷ second ∷ []) = command_at name first second
command_named (name ∷ first ∷ second ∷ next ∷ more) = None

abbrev pub command_of : List (List ℕ) → Option Command
command_of [] = None
command_of (folder ∷ words) = if length folder == 0 then None else command_named words
