-- What a block of a height moves, in numbers.
use Rattle.std.proofs.Common.{◌≡◌, ℕ, ◌*◌, ◌+◌, pos, Bool, true, false, refl, ap, sym, ◌∙◌, add-mul}
use Rattle.std.specs.Int.{from_bool}
use Rattle.chain_defs.specs.Dao.{Movement}
use Rattle.rule_defs.specs.Shares.{primary_at, secondary_at}
use Rattle.gen_defs.specs.Start.{specification, lock}
use Rattle.gen_defs.specs.Heights.{count_if, commits, pays, plain_cell, movement_at}

pub counted : (there : Bool) → from_bool there ≡ count_if there
counted true = refl
counted false = refl

pub plain_cell_is : 4100000000 ≡ plain_cell
unfolding plain_cell lock
plain_cell_is = refl

abbrev moved : ℕ → ℕ → ℕ → ℕ → ℕ → Movement
moved primary secondary paid committed cell = record { primary = primary; secondary = secondary; interest = pos 0; made = paid * cell + committed * cell; freed = committed * cell }

pub movement_is : (height primary secondary paid committed : ℕ) → primary ≡ primary_at specification height → secondary ≡ secondary_at specification height
    → paid ≡ count_if (pays height) → committed ≡ count_if (commits height)
    → record { primary = primary; secondary = secondary; interest = pos 0; made = paid * 4100000000 + committed * 4100000000; freed = committed * 4100000000 }
    ≡ movement_at height
unfolding movement_at
movement_is height primary secondary paid committed primary_is secondary_is paid_is committed_is =
    ap (λ (n : ℕ). moved n secondary paid committed 4100000000) primary_is
    ∙ ap (λ (n : ℕ). moved (primary_at specification height) n paid committed 4100000000) secondary_is
    ∙ ap (λ (n : ℕ). moved (primary_at specification height) (secondary_at specification height) n committed 4100000000) paid_is
    ∙ ap (λ (n : ℕ). moved (primary_at specification height) (secondary_at specification height) (count_if (pays height)) n 4100000000) committed_is
    ∙ ap (λ (n : ℕ). moved (primary_at specification height) (secondary_at specification height) (count_if (pays height)) (count_if (commits height)) n) plain_cell_is
    ∙ ap (λ (n : ℕ). record { primary = primary_at specification height; secondary = secondary_at specification height; interest = pos 0; made = n; freed = count_if (commits height) * plain_cell })
    (sym (add-mul (count_if (pays height)) (count_if (commits height)) plain_cell))
