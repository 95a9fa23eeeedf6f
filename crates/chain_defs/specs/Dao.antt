-- Capacity and the Nervos DAO (RFC 0023). Capacities are in shannons; divisions round down.
use Rattle.std.specs.Prelude.{ℕ, ◌+◌, ◌-◌, ◌*◌, ◌/◌, ◌^◌, ℤ, pos, negsuc, ◌-ℤ◌, nat_abs, Bool, false, ◌&&◌, nat_lt, Option, Some, None, if◌then◌else◌, List, ◌++◌}
use Rattle.std.specs.Int.{w64, to_le_bytes, from_le_bytes}
use Rattle.std.specs.List.{slice_range}

-- ---- 64 bits

-- a number from 0 to the greatest u64
abbrev pub fits_u64 : ℤ → Bool
fits_u64 (pos n) = nat_lt n (2 ^ 64)
fits_u64 (negsuc n) = false

-- the number, where a u64 holds it
abbrev pub as_u64 : ℤ → Option ℕ
as_u64 z = if fits_u64 z then Some (nat_abs z) else None

-- ---- Capacity (RFC 0019, "Cell")

-- the bytes of the type script, where there is one: code hash, hash type and args
abbrev pub occupied_by_type : Option ℕ → ℕ
occupied_by_type None = 0
occupied_by_type (Some type_args) = 33 + type_args

-- Each byte takes 10^8 shannons: the 8 of the capacity, the lock script, the type script, the data.
abbrev pub occupied_capacity : ℕ → Option ℕ → ℕ → ℕ
occupied_capacity lock_args type_args content = (8 + 33 + lock_args + occupied_by_type type_args + content) * 10 ^ 8

-- What a withdrawing cell counts (RFC 0023, "Calculation"): the capacity beyond what the cell occupies
-- has grown with the accumulated rate from that of the deposit block to that of the withdrawing block.
abbrev pub counted_capacity : ℕ → ℕ → ℕ → ℕ → ℕ
counted_capacity capacity occupied rate_withdrawing rate_deposit =
    (capacity - occupied) * rate_withdrawing / rate_deposit + occupied

-- ---- The DAO field (RFC 0023, "Calculation")

pub record DaoField : Type 0 where
  -- C: all that was issued
  pub issued : ℕ
  -- AR: the accumulated rate
  pub rate : ℕ
  -- S: what savers and the treasury have not taken yet of the secondary issuance
  pub savings : ℕ
  -- U: what all live cells occupy
  pub occupied : ℕ

-- What a block moves: its shares of the primary and the secondary reward, the interest that it
-- withdraws, and the capacities that the cells occupy which it makes and which it spends.
pub record Movement : Type 0 where
  pub primary : ℕ
  pub secondary : ℕ
  pub interest : ℤ
  pub made : ℕ
  pub freed : ℕ

-- the miner's part of a secondary share: by what the cells occupied before the block
abbrev pub miner_part : DaoField → ℕ → ℕ
miner_part old secondary = secondary * old.occupied / old.issued

abbrev pub next_issued : DaoField → Movement → ℕ
next_issued old move = old.issued + move.primary + move.secondary

abbrev pub next_rate : DaoField → Movement → ℕ
next_rate old move = old.rate + old.rate * move.secondary / old.issued

abbrev pub next_savings : DaoField → Movement → ℤ
next_savings old move = pos (old.savings + move.secondary) -ℤ pos (miner_part old move.secondary) -ℤ move.interest

abbrev pub next_occupied : DaoField → Movement → ℤ
next_occupied old move = pos (old.occupied + move.made) -ℤ pos move.freed

-- The field after a block. There is none where one of the four is below 0 or above the greatest u64.
unfoldable pub next_field : DaoField → Movement → Option DaoField
next_field old move =
    if fits_u64 (pos (next_issued old move)) && fits_u64 (pos (next_rate old move))
    && fits_u64 (next_savings old move) && fits_u64 (next_occupied old move)
    then Some (record {
      issued = next_issued old move;
      rate = next_rate old move;
      savings = nat_abs (next_savings old move);
      occupied = nat_abs (next_occupied old move);
    })
    else None

-- The 32 bytes of the field: C, AR, S and U in this order, each a little-endian u64.
unfoldable pub field_bytes : DaoField → List ℕ
field_bytes field =
    to_le_bytes w64 field.issued ++ to_le_bytes w64 field.rate
    ++ to_le_bytes w64 field.savings ++ to_le_bytes w64 field.occupied

-- the field that 32 bytes hold
unfoldable pub field_of_bytes : List ℕ → DaoField
field_of_bytes bytes = record {
  issued = from_le_bytes w64 (slice_range bytes 0 8);
  rate = from_le_bytes w64 (slice_range bytes 8 16);
  savings = from_le_bytes w64 (slice_range bytes 16 24);
  occupied = from_le_bytes w64 (slice_range bytes 24 32);
}

-- A field is rated where its C and its AR are above 0: shares and withdrawals are divided by them (RFC 0023, "Calculation").
abbrev pub is_rated : List ℕ → Bool
is_rated bytes = nat_lt 0 (field_of_bytes bytes).issued && nat_lt 0 (field_of_bytes bytes).rate
