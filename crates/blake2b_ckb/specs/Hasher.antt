-- What a contract sees of a `Hasher`, and the message that it has taken in.
use Rattle.std.specs.Prelude.{◌≡◌, ℕ, zero, suc, ◌+◌, ◌-◌, ◌*◌, ◌/◌, ◌%◌, ◌^◌, false, List, length, take, drop}
use Rattle.chain_defs.specs.CkbHash.{compress, initial_state}

-- the state of a hash: that after some whole blocks, the count of their bytes, and the bytes
-- after them that wait
pub record Absorbed : Type 0 where
  pub state : List ℕ
  pub count : ℕ
  pub kept : List ℕ

-- the state after the first n blocks of a message, none of them its last (RFC 7693, 3.3)
unfoldable pub state_after : List ℕ → ℕ → List ℕ
state_after m zero = initial_state
state_after m (suc n) = compress (state_after m n) (take 128 (drop (128 * n) m)) (128 * (n + 1)) false

-- the first n blocks of the message m are taken in, and what follows them waits. The count is kept
-- modulo 2 ^ 128, as F reads it.
pub record HoldsAfter (a : Absorbed) (m : List ℕ) (n : ℕ) : Type 0 where
  pub state : a.state ≡ state_after m n
  pub count : a.count ≡ 128 * n % 2 ^ 128
  pub kept : a.kept ≡ drop (128 * n) m

-- the message m is taken in: its last block waits, since only that one is marked
unfoldable pub Holds : Absorbed → List ℕ → Type 0
Holds a m = HoldsAfter a m ((length m - 1) / 128)
