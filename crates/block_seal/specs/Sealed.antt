-- A block whose header commits to it (docs/RULES.md, "What the header commits to").
use Rattle.std.specs.Prelude.{◌≡◌, ℕ, ◌^◌, ◌==◌, ◌&&◌, nat_lt, Bool, IsTrue, List, [], ◌∷◌, Vec, Option, Some, None, if◌then◌else◌}
use Rattle.std.specs.Global.{Global}
use Rattle.std.specs.Option.{option_map}
use Rattle.std.specs.List.{sum_by}
use Rattle.chain_defs.specs.Shape.{IsEncoding}
use Rattle.chain_defs.specs.Schema as schema
use Rattle.chain_defs.specs.Schema.{Header, Block}
use Rattle.chain_defs.specs.Dao.{DaoField, field_bytes, field_of_bytes}
use Rattle.chain_defs.specs.Hashes.{transactions_root, proposals_hash, uncles_hash}
use Rattle.rule_defs.specs.Body.{commits_to_proposals, commits_to_transactions, commits_to_uncles}
use Rattle.rule_defs.specs.Capacity.{held_out}
use Rattle.rule_defs.specs.Field.{made_by}
use Rattle.rule_defs.specs.Genesis.{is_first, has_no_uncles_or_proposals, has_transactions, all_pair_data, all_hold_capacity, genesis_rules}

-- ---- the DAO field

-- what the outputs of a block hold, and what they occupy
abbrev pub held_by : Block → ℕ
held_by b = sum_by held_out b.transactions

abbrev pub occupied_in : Block → ℕ
occupied_in b = sum_by made_by b.transactions

-- The field of a genesis: its C is what its cells hold, and its U what they occupy. The others stay as they are. There is none
-- where a u64 does not hold these.
abbrev pub genesis_field : Block → Option DaoField
genesis_field b =
    if nat_lt (held_by b) (2 ^ 64) && nat_lt (occupied_in b) (2 ^ 64)
    then Some (record (field_of_bytes b.header.dao) { issued = held_by b; occupied = occupied_in b })
    else None

-- A block that is no genesis keeps its field: what that has to be, its branch says.
abbrev pub dao_of : Block → Option (List ℕ)
dao_of b = if b.header.number == 0 then option_map field_bytes (genesis_field b) else Some b.header.dao

-- ---- the block

-- the header with this field, and with the root and the hashes of the block
abbrev pub committed : Block → List ℕ → Header
committed b dao = record (b.header) {
  transactions_root = transactions_root b.transactions;
  proposals_hash = proposals_hash b.proposals;
  uncles_hash = uncles_hash b.uncles;
  dao = dao;
}

abbrev pub with_header : Block → Header → Block
with_header b header = record b { header = header }

unfoldable pub sealed : Block → Option Block
sealed b = option_map (λ dao. with_header b (committed b dao)) (dao_of b)

-- the bytes of the sealed block, or none where there is none
abbrev pub IsSealed : Block → Option (Vec ℕ Global) → Type 0
IsSealed b None = sealed b ≡ None
IsSealed b (Some bytes) = (s : Block) × (sealed b ≡ Some s) × IsEncoding schema.block bytes.items s

-- ---- what that leaves of the rules

-- a sealed block breaks none of J11, J12 and J14
abbrev pub KeepsItsCommitments : Type 0
KeepsItsCommitments = (b s : Block) → sealed b ≡ Some s
    → IsTrue (commits_to_proposals s) × IsTrue (commits_to_transactions s) × IsTrue (commits_to_uncles s)

-- G4 of a sealed genesis: its cells hold something, and the AR of its field is above 0
abbrev pub is_rated_sealed : Block → Bool
is_rated_sealed b = nat_lt 0 (held_by b) && nat_lt 0 (field_of_bytes b.header.dao).rate

-- Of the rules on a genesis, sealing changes G4 alone.
abbrev pub KeepsTheGenesisRules : Type 0
KeepsTheGenesisRules = (b s : Block) → IsTrue (schema.block.encoding b).fits → b.header.number ≡ 0 → sealed b ≡ Some s
    → genesis_rules s
    ≡ (2, is_first b) ∷ (3, has_no_uncles_or_proposals b) ∷ (4, is_rated_sealed b) ∷ (5, has_transactions b) ∷ (6, all_pair_data b)
    ∷ (7, all_hold_capacity b) ∷ []
