-- Entries that are rated up to a place.
use Rattle.std.proofs.Common.{◌≡◌, ◌<◌, ◌+◌, arith, ℕ, Bool, true, false, List, Some, refl, sym, ap, subst, ◌∙◌}
use Rattle.std.specs.Prelude.{nat_lt, IsTrue}
use Rattle.std.specs.Option.{unwrap_or}
use Rattle.std.proofs.lemmas.Bool.{ltb-true, ltb-false}
use Rattle.chain_defs.specs.Dao.{is_rated}
use Rattle.chain_tree.specs.declared.entry.Entry.{Entry}
use Rattle.chain_tree.specs.Entries.{entry_at}

abbrev pub IsRated : Entry → Type 0
IsRated entry = IsTrue (is_rated entry.dao)

abbrev pub AreRatedBelow : List Entry → ℕ → Type 0
AreRatedBelow entries count = (place : ℕ) (entry : Entry) → place < count → entry_at entries place ≡ Some entry → IsRated entry

-- one entry more
pub rated-by : (entries : List Entry) (count : ℕ) (last : Entry) → AreRatedBelow entries count → entry_at entries count ≡ Some last → IsRated last
    → (place : ℕ) (entry : Entry) → place < count + 1 → entry_at entries place ≡ Some entry → (b : Bool) → nat_lt place count ≡ b → IsRated entry
rated-by entries count last earlier at_last last_is place entry below there true before = earlier place entry (ltb-true place count before) there
rated-by entries count last earlier at_last last_is place entry below there false past =
    let same : place ≡ count = omega (arith, below, ltb-false place count past) in
    subst IsRated (ap (λ o. unwrap_or o last) (sym at_last ∙ ap (entry_at entries) (sym same) ∙ there)) last_is

pub rated-more : (entries : List Entry) (count : ℕ) (last : Entry) → AreRatedBelow entries count → entry_at entries count ≡ Some last → IsRated last
    → AreRatedBelow entries (count + 1)
rated-more entries count last earlier at_last last_is place entry below there =
    rated-by entries count last earlier at_last last_is place entry below there (nat_lt place count) refl
