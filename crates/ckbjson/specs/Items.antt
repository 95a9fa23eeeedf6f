-- What a run of the program gives for an input, by what it is asked for.
use Rattle.std.specs.Prelude.{◌≡◌, ℕ, List, [], ◌∷◌, ◌++◌, map, length, codes, true, false, Vec, Option, Some, None}
use Rattle.std.specs.Global.{Global}
use Rattle.std.specs.Option.{option_map}
use Rattle.std.specs.List.{concat}
use Rattle.std.specs.Fmt.{decimal}
use Rattle.hex.specs.Hex.{encode_lower}
use Rattle.chain_defs.specs.Shape.{Shape, IsEncoding, encoded, decoded}
use Rattle.chain_defs.specs.Schema as schema
use Rattle.chain_defs.specs.Schema.{Transaction, Block}
use Rattle.chain_defs.specs.Kept.{header_hash}
use Rattle.chain_defs.specs.Hashes.{transaction_hash, witness_hash, proposal_id}
use Rattle.chain_defs.specs.Specification.{specification_of, keeps_s1}
use Rattle.json_defs.specs.Form.{Form, hex_text}
use Rattle.json_defs.specs.Blocks as form
use Rattle.json_defs.specs.Blocks.{text_of}
use Rattle.json_defs.specs.Laws.{IsReadAs, IsEncodingOf, IsNoText}
use Rattle.json_spec.specs.Form as spec_form
use Rattle.json_spec.specs.Bytes as spec_shape
use Rattle.block_seal.specs.Sealed.{IsSealed}
use Rattle.ckbjson.specs.declared.words.Kind.{Kind}
use Rattle.ckbjson.specs.declared.words.Kind.TheVariants as kinds

-- ---- a text that is read

-- the bytes encode what the text is read as
abbrev pub IsRead : Kind → List ℕ → List ℕ → Type 0
IsRead kinds.Transaction text bytes = IsEncodingOf form.transaction schema.transaction text bytes
IsRead kinds.Block text bytes = IsEncodingOf form.block schema.block text bytes
IsRead kinds.Script text bytes = IsEncodingOf form.script schema.script text bytes
IsRead kinds.Witness text bytes = IsEncodingOf form.cellbase_witness schema.cellbase_witness text bytes
IsRead kinds.Specification text bytes = IsEncodingOf spec_form.specification spec_shape.specification text bytes

-- the text is read as nothing of this kind
abbrev pub IsNotRead : Kind → List ℕ → Type 0
IsNotRead kinds.Transaction text = IsNoText form.transaction schema.transaction text
IsNotRead kinds.Block text = IsNoText form.block schema.block text
IsNotRead kinds.Script text = IsNoText form.script schema.script text
IsNotRead kinds.Witness text = IsNoText form.cellbase_witness schema.cellbase_witness text
IsNotRead kinds.Specification text = IsNoText spec_form.specification spec_shape.specification text

-- the bytes are of the block that the text is read as, sealed; or that block cannot be sealed
abbrev pub IsReadSealed : List ℕ → Option (Vec ℕ Global) → Type 0
IsReadSealed text sealed = (b : Block) × IsReadAs form.block text b × IsSealed b sealed

-- ---- bytes that are shown

-- the text and a line feed
abbrev pub IsLineOf : List ℕ → Option (Vec ℕ Global) → Type 0
IsLineOf text None = ⊥
IsLineOf text (Some line) = line.items ≡ text ++ 10 ∷ []

-- the line of the value that the bytes encode, or none where they encode none
abbrev pub IsShownAs : {V : Type 0} → Form V → Shape V → List ℕ → Option (Vec ℕ Global) → Type 0
IsShownAs {V} form shape bytes None = (v : V) → IsEncoding shape bytes v → ⊥
IsShownAs {V} form shape bytes (Some line) = (v : V) × IsEncoding shape bytes v × (line.items ≡ text_of form v ++ 10 ∷ [])

-- the line of the specification that bytes hold, or none where they break S1
abbrev pub IsShownSpecification : List ℕ → Option (Vec ℕ Global) → Type 0
IsShownSpecification bytes None = keeps_s1 bytes ≡ false
IsShownSpecification bytes (Some line) =
    (keeps_s1 bytes ≡ true) × (line.items ≡ text_of spec_form.specification (specification_of bytes) ++ 10 ∷ [])

abbrev pub IsShown : Kind → List ℕ → Option (Vec ℕ Global) → Type 0
IsShown kinds.Transaction bytes shown = IsShownAs form.transaction schema.transaction bytes shown
IsShown kinds.Block bytes shown = IsShownAs form.block schema.block bytes shown
IsShown kinds.Script bytes shown = IsShownAs form.script schema.script bytes shown
IsShown kinds.Witness bytes shown = IsShownAs form.cellbase_witness schema.cellbase_witness bytes shown
IsShown kinds.Specification bytes shown = IsShownSpecification bytes shown

-- ---- hashes that are printed

-- a name, and bytes in hex
abbrev pub hex_line : List ℕ → List ℕ → List ℕ
hex_line name bytes = name ++ codes " " ++ hex_text (encode_lower bytes) ++ codes "\n"

-- the size of so many bytes
abbrev pub size_line : ℕ → List ℕ
size_line size = codes "size " ++ decimal size ++ codes "\n"

unfoldable pub transaction_lines : Transaction → List ℕ
transaction_lines t =
    hex_line (codes "hash") (transaction_hash t) ++ hex_line (codes "witness hash") (witness_hash t)
    ++ hex_line (codes "proposal id") (proposal_id t) ++ size_line (length (encoded schema.transaction t))

abbrev pub transaction_line : Transaction → List ℕ
transaction_line t = hex_line (codes "transaction") (transaction_hash t)

unfoldable pub block_lines : Block → List ℕ
block_lines b = hex_line (codes "hash") (header_hash b.header) ++ concat (map transaction_line b.transactions)

abbrev pub lines_of : Option Transaction → Option Block → Option (List ℕ)
lines_of (Some t) b = Some (transaction_lines t)
lines_of None b = option_map block_lines b

-- the lines of the transaction that bytes encode, or else of the block
unfoldable pub identified : List ℕ → Option (List ℕ)
identified bytes = lines_of (decoded schema.transaction bytes) (decoded schema.block bytes)

-- those lines, or that the bytes are neither
abbrev pub IsIdentified : List ℕ → Option (Vec ℕ Global) → Type 0
IsIdentified bytes lines = option_map (λ (v : Vec ℕ Global). v.items) lines ≡ identified bytes
