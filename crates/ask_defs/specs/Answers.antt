-- What a line is answered over a chain (docs/COMMANDS.md, "Many questions"). Queries and `check` are answered as by a run of their own.
use Rattle.std.specs.Prelude.{ℕ, suc, Bool, true, false, List, [], ◌∷◌, ◌++◌, map, codes, Option, Some, None, ◌==◌, nat_lt, if◌then◌else◌}
use Rattle.std.specs.Option.{option_map, option_and_then}
use Rattle.std.specs.List.{concat, list_all, list_any}
use Rattle.std.specs.Str.{bytes_eq}
use Rattle.std.specs.Fmt.{decimal}
use Rattle.chain_defs.specs.Shape.{encoded}
use Rattle.chain_defs.specs.Schema.{Block, Transaction as a_transaction, header}
use Rattle.chain_defs.specs.Hashes.{transaction_hash}
use Rattle.chain_defs.specs.Kept.{block_at, block_hash, place_of}
use Rattle.chain_defs.specs.Branch.{branch_places}
use Rattle.chain_defs.specs.Tip.{tip_place, best_branch}
use Rattle.verdict_defs.specs.Chain.{Chain}
use Rattle.verdict_defs.specs.Trial.{trial}
use Rattle.json_defs.specs.Blocks as json
use Rattle.report_defs.specs.Text.{line_feed, hash_text, none_line, header_line, trial_line}
use Rattle.report_defs.specs.Report.{answer_to_query}
use Rattle.ask_defs.specs.declared.ask.Ask.{Ask}
use Rattle.ask_defs.specs.declared.ask.Ask.TheVariants.{Query, Header, Json, Block as Whole, Branch, Transaction}
use Rattle.ask_defs.specs.Asks.{words_of, checked_in, asked_in}

-- the kept block with a hash, on the best branch or not
abbrev pub block_named : Chain → List ℕ → Option Block
block_named chain hash = option_and_then (block_at chain.blocks) (place_of chain.blocks hash)

-- ---- `header`, `json` and `block` of a hash

-- the line of a block that was found, and `none` where there is none
abbrev pub line_of_named : (Block → List ℕ) → Option Block → List ℕ
line_of_named line None = none_line
line_of_named line (Some block) = line block

-- the line of `header`, by the block's own number
abbrev pub header_of_block : Block → List ℕ
header_of_block block = header_line block.header.number (block_hash block) (encoded header block.header)

-- the line of `json`
abbrev pub json_of_block : Block → List ℕ
json_of_block block = json.text_of json.block block ++ line_feed

-- hashes as an array of JSON has them
abbrev pub quoted : List ℕ → List ℕ
quoted hash = codes "\"" ++ hash_text hash ++ codes "\""

-- those that follow another
abbrev pub listed_later : List (List ℕ) → List ℕ
listed_later hashes = concat (map (λ hash. codes "," ++ quoted hash) hashes)

abbrev pub listed : List (List ℕ) → List ℕ
listed [] = []
listed (first ∷ later) = quoted first ++ listed_later later

-- a block as `json` has it, and beside it the hash of each of its transactions
abbrev pub block_line : Block → List ℕ
block_line block =
    codes "{\"block\":" ++ json.text_of json.block block ++ codes ",\"hashes\":[" ++ listed (map transaction_hash block.transactions) ++ codes "]}" ++ line_feed

-- ---- `branch`

-- the places of the best branch
abbrev pub best_places : List Block → List ℕ
best_places kept = elim (tip_place kept) [
  | None ↦ []
  | Some tip ↦ branch_places kept tip
]

abbrev pub is_on_best : List Block → ℕ → Bool
is_on_best kept place = list_any (λ other. other == place) (best_places kept)

-- the line of a block of this number, on the best branch or not
abbrev pub branch_line : Bool → ℕ → List ℕ
branch_line true number = codes "best " ++ decimal number ++ line_feed
branch_line false number = codes "side " ++ decimal number ++ line_feed

abbrev pub branch_of_block : Bool → Option Block → List ℕ
branch_of_block best None = none_line
branch_of_block best (Some block) = branch_line best block.header.number

abbrev pub branch_of_place : List Block → Option ℕ → List ℕ
branch_of_place kept None = none_line
branch_of_place kept (Some place) = branch_of_block (is_on_best kept place) (block_at kept place)

-- ---- `transaction`

-- the place of the first transaction with a hash
abbrev pub place_among : List a_transaction → List ℕ → Option ℕ
place_among [] hash = None
place_among (one ∷ later) hash = if bytes_eq (transaction_hash one) hash then Some 0 else option_map suc (place_among later hash)

-- The first block of a branch that has a transaction with a hash, and its place there.
abbrev pub committed_by : Block → Option (Block × ℕ) → Option ℕ → Option (Block × ℕ)
committed_by block later None = later
committed_by block later (Some place) = Some (block, place)

abbrev pub committed_on : List Block → List ℕ → Option (Block × ℕ)
committed_on [] hash = None
committed_on (block ∷ later) hash = committed_by block (committed_on later hash) (place_among block.transactions hash)

-- a transaction that the block of this number and hash committed at a place
abbrev pub committed_line_of : ℕ → List ℕ → ℕ → List ℕ
committed_line_of number hash place = codes "committed " ++ decimal number ++ codes " " ++ decimal place ++ codes " " ++ hash_text hash ++ line_feed

abbrev pub committed_line : Option (Block × ℕ) → List ℕ
committed_line None = none_line
committed_line (Some found) = committed_line_of found.0.header.number (block_hash found.0) found.1

-- ---- A line

-- what is asked, over a chain
abbrev pub answer_to : Ask → Chain → List ℕ
answer_to (Query query) chain = answer_to_query query chain
answer_to (Header hash) chain = line_of_named header_of_block (block_named chain hash)
answer_to (Json hash) chain = line_of_named json_of_block (block_named chain hash)
answer_to (Whole hash) chain = line_of_named block_line (block_named chain hash)
answer_to (Branch hash) chain = branch_of_place chain.blocks (place_of chain.blocks hash)
answer_to (Transaction hash) chain = committed_line (committed_on (best_branch chain.blocks) hash)

abbrev pub no_question : List ℕ
no_question = codes "no question" ++ line_feed

abbrev pub answer_to_asked : Option Ask → Chain → List ℕ
answer_to_asked None chain = no_question
answer_to_asked (Some asked) chain = answer_to asked chain

-- a transaction to be judged comes before what is asked otherwise
abbrev pub answer_to_either : Option (List ℕ) → Option Ask → Chain → List ℕ
answer_to_either None asked chain = answer_to_asked asked chain
answer_to_either (Some transaction) asked chain = trial_line (trial chain transaction)

abbrev pub is_ascii : List ℕ → Bool
is_ascii line = list_all (λ byte. nat_lt byte 128) line

-- The answer to a line.
unfoldable pub answer : Chain → List ℕ → List ℕ
answer chain line = if is_ascii line then answer_to_either (checked_in (words_of line)) (asked_in (words_of line)) chain else no_question
