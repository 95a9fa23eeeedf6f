-- Kept blocks in two lists of bytes: the encodings, and beside each its ext. Their proposal ids are kept beside them.
use Rattle.std.specs.Prelude.{◌≡◌, ℕ, ◌-◌, ◌^◌, ◌<◌, List, [], ◌∷◌, length, map, drop, Vec, Bool, true, false, Option, Some, None, slice_index_or, nat_lt, if◌then◌else◌, IsTrue, IsSome, IfSome}
use Rattle.std.specs.Global.{Global}
use Rattle.std.specs.List.{All}
use Rattle.std.proofs.lemmas.Bool.{ltb-true}
use Rattle.std.proofs.Common.{refl}
use Rattle.chain_defs.specs.Shape.{decoded}
use Rattle.chain_defs.specs.Schema.{Block, block}
use Rattle.chain_defs.specs.Hashes.{proposal_id}
use Rattle.chain_tree.specs.Told.{Stored}
use Rattle.chain_tree.specs.Reading.{Findings}
use Rattle.chain_defs.specs.Ext.{is_ext, count_at}

-- the blocks with their exts, the place of the one that was brought last, and the damage that readers found
pub record ListBlocksValue : Type 0 where
  pub stored : List Stored
  pub hand : Option ℕ
  pub damages : Findings

abbrev pub place_among : ℕ → Option ℕ → Option ℕ
place_among len None = None
place_among len (Some place) = if nat_lt place len then Some place else None

-- the place of the current one, which is one of them
abbrev pub current_place : ListBlocksValue → Option ℕ
current_place it = place_among (length it.stored) it.hand

-- the bytes in each of several vectors
abbrev pub contents : List (Vec ℕ Global) → List (List ℕ)
contents vectors = map (λ v. v.items) vectors

-- ---- What may be kept

-- the bytes encode a block
abbrev pub IsCanonical : List ℕ → Type 0
IsCanonical bytes = IsSome (decoded block bytes)

-- The bytes beside a block have the form of an ext, with a fee for each transaction of the block after the first.
pub record IsExtFor (bytes ext : List ℕ) : Type 0 where
  pub form : IsTrue (is_ext ext)
  pub fees : IfSome (decoded block bytes) (λ b. count_at ext 0 ≡ length b.transactions - 1)

-- Canonical blocks, and as many exts; nothing is asked of what stands beside the first, the genesis.
pub record AreKept (blocks exts : List (List ℕ)) : Type 0 where
  pub lengths : length exts ≡ length blocks
  pub few : length blocks < 2 ^ 32
  pub canonical : All IsCanonical blocks
  pub later : (place : ℕ) → 0 < place → place < length blocks → IsExtFor (slice_index_or blocks place []) (slice_index_or exts place [])

-- ---- What they are seen as

-- each block beside its ext
abbrev pub stored_from : List (List ℕ) → List (List ℕ) → List Stored
stored_from [] exts = []
stored_from (b ∷ blocks) [] = []
stored_from (b ∷ blocks) (ext ∷ exts) = record { block = block.decoding b; ext = ext } ∷ stored_from blocks exts

-- ---- The ids beside them

-- the proposal ids of the transactions of a block after its first
abbrev pub ids_of : Block → List (List ℕ)
ids_of b = map proposal_id (drop 1 b.transactions)

-- those of the block that each of several vectors encodes
abbrev pub all_ids : List (Vec ℕ Global) → List (List (List ℕ))
all_ids blocks = map (λ v. ids_of (block.decoding v.items)) blocks

-- the ids in each of several vectors
abbrev pub id_lists : List (Vec (List ℕ) Global) → List (List (List ℕ))
id_lists vectors = map (λ v. v.items) vectors

-- ---- The current one is one of them

pub tested-within : (place len : ℕ) (b : Bool) → nat_lt place len ≡ b → IfSome (if b then Some place else None) (λ e. e < len)
tested-within place len true below = ltb-true place len below
tested-within place len false past = tt

pub among-within : (len : ℕ) (hand : Option ℕ) → IfSome (place_among len hand) (λ e. e < len)
among-within len None = tt
among-within len (Some place) = tested-within place len (nat_lt place len) refl

pub hand_is_within : (it : ListBlocksValue) → IfSome (current_place it) (λ e. e < length it.stored)
hand_is_within it = among-within (length it.stored) it.hand
