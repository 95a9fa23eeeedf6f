-- What a record after the genesis adds to what was read.
use Rattle.std.proofs.Common.{◌≡◌, inl, inr, ℕ, ◌+◌, ◌-◌, ◌*◌, ◌<◌, ◌≤◌, ◌^◌, true, length, ap, arith}
use Rattle.std.specs.Prelude.{◌==◌}
use Rattle.std.proofs.lemmas.Bool.{and_parts, eqb-true}
use Rattle.std.proofs.lemmas.List.{length_push}
use Rattle.chain_defs.specs.Kept.{kept_limit}
use Rattle.disk_defs.specs.Log.{Record, is_of_edition, is_edition}
use Rattle.log_file.specs.Grammar.{BlocksValue, ReadValue, IsTakenFrom, edition_room}

body_of_edition : (r : Record) → is_edition r ≡ true → length r.body ≡ 8
body_of_edition r is = eqb-true (length r.body) 8 (and_parts (is_of_edition r) (length r.body == 8) is).1

-- a record takes no more room than is left for it
pub taken_within : (at place next : ℕ) (r : Record) (old new : ReadValue) → IsTakenFrom at r old new → place + edition_room old.edition ≤ 2 ^ 33 * (length old.blocks.stored + 1)
    → next ≡ place + (6 + length r.body) → length r.body < 2 ^ 32 → next + edition_room new.edition ≤ 2 ^ 33 * (length new.blocks.stored + 1)
taken_within at place next r old new (inl (is, same)) start over fits =
    omega (arith, ap edition_room same, ap length is.stored, length_push old.blocks.stored (record { block = is.block; ext = is.ext }), start, over, fits)
taken_within at place next r old new (inr is) start over fits =
    omega (
      arith,
      ap edition_room is.first,
      ap edition_room is.edition,
      ap (λ (b : BlocksValue). length b.stored) is.blocks,
      body_of_edition r is.is,
      start,
      over,
    )

-- fewer can be taken after it
pub taken_fewer : (at : ℕ) (r : Record) (old new : ReadValue) → IsTakenFrom at r old new → length new.blocks.stored ≤ kept_limit
    → kept_limit - length new.blocks.stored + edition_room new.edition < kept_limit - length old.blocks.stored + edition_room old.edition
taken_fewer at r old new (inl (is, same)) few =
    omega (arith, ap edition_room same, ap length is.stored, length_push old.blocks.stored (record { block = is.block; ext = is.ext }), few)
taken_fewer at r old new (inr is) few =
    omega (arith, ap edition_room is.first, ap edition_room is.edition, ap (λ (b : BlocksValue). length b.stored) is.blocks)
