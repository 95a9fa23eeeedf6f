-- The median time of a branch (RFC 0027, "timestamp"; docs/RULES.md, "Since and time").
use Rattle.std.specs.Prelude.{◌≡◌, ◌↔◌, ℕ, ◌-◌, ◌*◌, ◌/◌, ◌<◌, ◌≤◌, ◌==◌, nat_lt, nat_le, if◌then◌else◌, List, [], ◌∷◌, length, map, drop, count_by, slice_index}
use Rattle.chain_defs.specs.Schema.{Block}

-- sorted numbers and one more, in its order
abbrev pub put_in_order : ℕ → List ℕ → List ℕ
put_in_order n [] = n ∷ []
put_in_order n (first ∷ later) = if nat_lt first n then first ∷ put_in_order n later else n ∷ first ∷ later

-- the numbers, sorted
unfoldable pub sorted : List ℕ → List ℕ
sorted [] = []
sorted (n ∷ later) = put_in_order n (sorted later)

-- of the sorted numbers the one at half their count, rounded down
unfoldable pub median_of : List ℕ → ℕ
median_of numbers = slice_index (sorted numbers) (length numbers / 2)

-- the timestamps of the last blocks of a branch, at most so many
unfoldable pub last_timestamps : ℕ → List Block → List ℕ
last_timestamps most branch = map (λ block. block.header.timestamp) (drop (length branch - most) branch)

-- The median time at the block that a branch ends with: of the last up to 37 timestamps.
unfoldable pub median_time : List Block → ℕ
median_time branch = median_of (last_timestamps 37 branch)

-- A median in words.
pub record IsMedian (numbers : List ℕ) (median : ℕ) : Type 0 where
  -- it is one of the numbers
  pub among : 0 < count_by (λ n. n == median) numbers
  -- more than half of them are at most it
  pub at_most : length numbers < 2 * count_by (λ n. nat_le n median) numbers
  -- at least half of them are at least it
  pub at_least : length numbers ≤ 2 * count_by (λ n. nat_le median n) numbers

-- Law: of any numbers exactly one is so.
abbrev pub MediansAreMedians : Type 0
MediansAreMedians = (numbers : List ℕ) (median : ℕ) → 0 < length numbers → (median_of numbers ≡ median) ↔ IsMedian numbers median
