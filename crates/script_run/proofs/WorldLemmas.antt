-- What a script is answered, by what was found for it.
use Rattle.std.proofs.Common.{◌≡◌, ℕ, Bool, true, false, cond, List, Option, Some, None, refl, sym, ap, subst, ◌∙◌, nat_eq}
use Rattle.std.specs.Prelude.{IfSome, IsSomeAnd, slice_get}
use Rattle.std.specs.Option.{option_map}
use Rattle.std.proofs.lemmas.Bool.{eqb-true}
use Rattle.std.proofs.lemmas.Option.{same_Some}
use Rattle.chain_defs.specs.Shape.{IsEncoding, decoded}
use Rattle.chain_defs.specs.Schema.{Block, Header, header}
use Rattle.chain_defs.proofs.ShapeLaws.{IsEncoding-decoded, decoded-is}
use Rattle.chain_defs.proofs.RowLaws.{header-check}
use Rattle.cell_state.specs.Copies.{ResolvedTxValue}
use Rattle.chain_tree.specs.Told.{Stored}
use Rattle.machine_defs.specs.World.{Call, Item, Items, Here, Unknown}
use Rattle.verdict_defs.specs.Scene.{Scene}
use Rattle.script_run.specs.declared.bytes.Lookup.{Lookup}
use Rattle.script_run.specs.Lookups.{AreRead, IsFound, ShowsHeaders, items_of, known_items, kept_header}
use Rattle.script_run.specs.Showing.{scene_shown}
use Rattle.script_run.specs.Shown.{GroupValue, Shows}
use Rattle.script_run.proofs.ShowingLemmas.{if-told, shown-over}

-- what was looked for is found, over any scene that is shown
abbrev pub Sought : ℕ → ResolvedTxValue → GroupValue → Call → Lookup → Type 0
Sought epoch_length it group call look = (headers : ℕ → Option Header) (scene : Scene) → Shows it scene → ShowsHeaders headers it scene → scene.epoch_length ≡ epoch_length
    → IsFound headers epoch_length (items_of scene group call) look

found-over : (second : Bool) (epoch_length : ℕ) (it : ResolvedTxValue) (group : GroupValue) (call : Call) (look other : Lookup) → Sought epoch_length it group call look → look ≡ other
    → (stored : List Stored) (scene : Scene) → scene_shown second epoch_length stored it ≡ Some scene → IsFound (kept_header stored) epoch_length (items_of scene group call) other
found-over second epoch_length it group call look other look_up is stored scene shown =
    let over = shown-over second epoch_length stored it scene shown in
    subst (λ (l : Lookup). IsFound (kept_header stored) epoch_length (items_of scene group call) l) is (look_up (kept_header stored) scene over.shows over.headers over.length_is)

pub by-look : (second : Bool) (epoch_length : ℕ) (it : ResolvedTxValue) (group : GroupValue) (told : Option (List Stored)) (call : Call) (look other : Lookup) → Sought epoch_length it group call look → look ≡ other
    → (P : Items → Type 0)
    → ((stored : List Stored) (scene : Scene) → told ≡ Some stored → IsFound (kept_header stored) epoch_length (items_of scene group call) other → P (items_of scene group))
    → IfSome (known_items second epoch_length it group told) P
by-look second epoch_length it group told call look other look_up is P each =
    if-told second epoch_length it group told P (λ stored scene told_are shown. each stored scene told_are (found-over second epoch_length it group call look other look_up is stored scene shown))

-- a block that is kept at a place
pub record Kept (stored : List Stored) (place : ℕ) (P : Header → Type 0) : Type 0 where
  pub made : Stored
  pub there : slice_get stored place ≡ Some made
  pub holds : P made.block.header

some-kept : (o : Option Stored) (P : Header → Type 0) → IsSomeAnd (option_map (λ it. it.block.header) o) P → (made : Stored) × (o ≡ Some made) × P made.block.header
some-kept None P some = absurd some
some-kept (Some made) P some = (made, refl, some)

pub kept : (stored : List Stored) (place : ℕ) (P : Header → Type 0) → IsSomeAnd (kept_header stored place) P → Kept stored place P
kept stored place P some = let t = some-kept (slice_get stored place) P some in record { made = t.0; there = t.1; holds = t.2 }

pub here-or-unknown : (item : Item) (bytes : List ℕ) → item ≡ Here bytes → item ≡ Unknown → ⊥
here-or-unknown item bytes here unknown = cc

-- what is no want of memory may be so of any call
pub not-wanted : (told : Option Items) (call : Call) (Wanted : Type 0) → (Wanted → ⊥) → IfSome told (λ items. items call ≡ Unknown → Wanted → ⊥)
not-wanted None call Wanted none = tt
not-wanted (Some items) call Wanted none = λ unknown. none

-- ---- Headers that were read

-- none at first
pub read-none : (told : Option (List Stored)) (read : ℕ → Option (List ℕ)) → ((place : ℕ) → read place ≡ None) → AreRead told read
read-none told read none place bytes is = absurd (other (sym (none place) ∙ is))
  where
    other : None ≡ Some bytes → ⊥
    other same = cc

-- the same, where as much is known and the same was read
pub read-still : (told now : Option (List Stored)) (old new : ℕ → Option (List ℕ)) → now ≡ told → ((place : ℕ) → new place ≡ old place) → AreRead told old → AreRead now new
read-still told now old new same unchanged are place bytes is =
    subst (λ (t : Option (List Stored)). IfSome t (λ stored. IfSome (slice_get stored place) (λ made. decoded header bytes ≡ Some made.block.header))) (sym same)
    (are place bytes (sym (unchanged place) ∙ is))

-- one more
pub read-more : (told : Option (List Stored)) (old new : ℕ → Option (List ℕ)) (place : ℕ) (bytes : List ℕ)
    → ((other : ℕ) → new other ≡ cond (nat_eq place other) (Some bytes) (old other))
    → IfSome told (λ stored. IfSome (slice_get stored place) (λ made. decoded header bytes ≡ Some made.block.header))
    → AreRead told old → AreRead told new
read-more told old new place bytes updates here are other found is = by_place (nat_eq place other) refl
  where
    Known : ℕ → List ℕ → Type 0
    Known e them = IfSome told (λ stored. IfSome (slice_get stored e) (λ made. decoded header them ≡ Some made.block.header))

    by_place : (same : Bool) → nat_eq place other ≡ same → Known other found
    by_place true same =
        let at : place ≡ other = eqb-true place other same in
        let one : bytes ≡ found = same_Some bytes found (sym (updates other ∙ ap (λ (b : Bool). cond b (Some bytes) (old other)) same) ∙ is) in
        subst (λ (e : ℕ). Known e found) at (subst (λ (them : List ℕ). Known place them) one here)
    by_place false same = are other found (sym (updates other ∙ ap (λ (b : Bool). cond b (Some bytes) (old other)) same) ∙ is)

-- the header that was read of a block that is known
pub read-header : (told : Option (List Stored)) (read : ℕ → Option (List ℕ)) (place : ℕ) (bytes : List ℕ) (stored : List Stored) (made : Stored) → AreRead told read
    → read place ≡ Some bytes → told ≡ Some stored → slice_get stored place ≡ Some made → IsEncoding header bytes made.block.header
read-header told read place bytes stored made are is tells there =
    IsEncoding-decoded header bytes made.block.header
    (subst (λ (it : Option Stored). IfSome it (λ one. decoded header bytes ≡ Some one.block.header)) there
    (subst (λ (t : Option (List Stored)). IfSome t (λ all. IfSome (slice_get all place) (λ one. decoded header bytes ≡ Some one.block.header))) tells (are place bytes is)))

-- that of the current block
pub hand-header : (told now : Option (List Stored)) (hand : Option ℕ) (place : ℕ) (view : Block) (bytes : List ℕ) → now ≡ told → hand ≡ Some place
    → IsEncoding header bytes view.header
    → IfSome now (λ stored. IfSome hand (λ e. IfSome (slice_get stored e) (λ it. view ≡ it.block)))
    → IfSome told (λ stored. IfSome (slice_get stored place) (λ made. decoded header bytes ≡ Some made.block.header))
hand-header told now hand place view bytes same taken is of_hand =
    by_told told (subst (λ (t : Option (List Stored)). IfSome t (λ stored. IfSome (slice_get stored place) (λ it. view ≡ it.block))) same
    (subst (λ (h : Option ℕ). IfSome now (λ stored. IfSome h (λ e. IfSome (slice_get stored e) (λ it. view ≡ it.block)))) taken of_hand))
  where
    by_made : (made : Option Stored) → IfSome made (λ it. view ≡ it.block) → IfSome made (λ it. decoded header bytes ≡ Some it.block.header)
    by_made None at = tt
    by_made (Some made) at = decoded-is header header-check bytes view.header is ∙ ap (λ (b : Block). Some b.header) at

    by_told : (t : Option (List Stored)) → IfSome t (λ stored. IfSome (slice_get stored place) (λ it. view ≡ it.block))
        → IfSome t (λ stored. IfSome (slice_get stored place) (λ made. decoded header bytes ≡ Some made.block.header))
    by_told None at = tt
    by_told (Some stored) at = by_made (slice_get stored place) at
