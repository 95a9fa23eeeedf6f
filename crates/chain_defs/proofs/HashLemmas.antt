-- The length of a hash.
use Rattle.std.proofs.Common.{◌≡◌, ℕ, List, [], ◌∷◌, length, take, refl, ap}
use Rattle.std.specs.Prelude.{flat_map}
use Rattle.std.specs.Int.{w64, to_le_bytes}
use Rattle.chain_defs.specs.CkbHash.{initial_state, compress, absorb, blocks, ckbhash}
use Rattle.chain_defs.specs.FitLaws.{HashesHave32}

-- a state of eight words
record HasEight (state : List ℕ) : Type 0 where
  a : ℕ
  b : ℕ
  c : ℕ
  d : ℕ
  e : ℕ
  f : ℕ
  g : ℕ
  h : ℕ
  is : state ≡ a ∷ b ∷ c ∷ d ∷ e ∷ f ∷ g ∷ h ∷ []

initial-eight : HasEight initial_state
unfolding initial_state
initial-eight = record { a = _; b = _; c = _; d = _; e = _; f = _; g = _; h = _; is = refl }

compressed-eight : (h block : List ℕ) (t : ℕ) (last : _) → HasEight (compress h block t last)
unfolding compress
compressed-eight h block t last = record { a = _; b = _; c = _; d = _; e = _; f = _; g = _; h = _; is = refl }

absorbed-eight : (left : List (List ℕ)) (h : List ℕ) (t : ℕ) → HasEight h → HasEight (absorb h t left)
unfolding absorb
absorbed-eight [] h t eight = eight
absorbed-eight (block ∷ []) h t eight = compressed-eight h _ _ _
absorbed-eight (block ∷ next ∷ rest) h t eight = absorbed-eight (next ∷ rest) _ _ (compressed-eight h _ _ _)

pub hashes-have-32 : HashesHave32
unfolding ckbhash
hashes-have-32 message =
    let eight = absorbed-eight (blocks message) initial_state 0 initial-eight in
    ap (λ (state : List ℕ). length (take 32 (flat_map (to_le_bytes w64) state))) eight.is
