-- A part of the mixing function G that the code names.
use Rattle.std.specs.Prelude.{ℕ, ◌+◌, List, slice_index}
use Rattle.chain_defs.specs.CkbHash.{add_at, xor_rotate_at}

-- half of the mixing function G: what one message word does to the words a, b, c and d of v
unfoldable pub half_mix : List ℕ → ℕ → ℕ → ℕ → ℕ → ℕ → ℕ → ℕ → List ℕ
half_mix v a b c d word first second =
    let v1 = add_at v a (slice_index v b + word) in
    let v2 = xor_rotate_at v1 d (slice_index v1 a) first in
    let v3 = add_at v2 c (slice_index v2 d) in
    xor_rotate_at v3 b (slice_index v3 c) second
