-- Blocks that are put after others, from their records.
use Rattle.std.proofs.Common.{◌≡◌, ◌⊎◌, inl, inr, ℕ, ◌<◌, Bool, true, false, cond, drop, List, [], ◌∷◌, ◌++◌, length, Option, Some, None, refl, sym, ap, ◌∙◌, subst, arith}
use Rattle.std.specs.Prelude.{◌==◌, ◌&&◌, is_none, slice_get, IsTrue}
use Rattle.std.proofs.lemmas.Bool.{and_right, eqb-true}
use Rattle.std.proofs.lemmas.List.{length-map, length_push, map_push}
use Rattle.chain_defs.specs.Shape.{decoded}
use Rattle.chain_defs.proofs.ShapeLaws.{IsEncoding-decoded}
use Rattle.chain_defs.specs.Schema.{Block}
use Rattle.chain_defs.specs.Schema as shapes
use Rattle.chain_defs.specs.Ext.{is_ext}
use Rattle.chain_defs.specs.Kept.{kept_limit}
use Rattle.chain_defs.proofs.KeptLaws.{slice_get-pushed}
use Rattle.chain_defs.specs.First.{first_failing}
use Rattle.chain_defs.specs.FitLaws.{IsCanonical, AreCanonical}
use Rattle.chain_tree.specs.declared.entry.Entry.{Entry}
use Rattle.chain_tree.specs.Blocks.{IndexesBlocks}
use Rattle.chain_tree.specs.Told.{Stored, blocks_of}
use Rattle.rule_defs.specs.Genesis.{is_first, genesis_rules, broken_by, broken_genesis_rule}
use Rattle.disk_defs.specs.Log.{record_limit, is_genesis}
use Rattle.log_file.specs.Grammar.{record_of, AreBlocks}

pub limit_is : record_limit ≡ 999999
unfolding record_limit kept_limit
limit_is = refl

pub kept_limit_is : kept_limit ≡ 1000000
unfolding kept_limit
kept_limit_is = refl

-- ---- One block more

-- what is so of what stands at each place is so of one more
each-push : {X : Type 0} (P : ℕ → X → Type 0) (xs : List X) (x : X) → ((place : ℕ) (y : X) → slice_get xs place ≡ Some y → P place y) → P (length xs) x
    → (place : ℕ) (y : X) → slice_get (xs ++ x ∷ []) place ≡ Some y → P place y
each-push {X} P xs x each last place y there = by_place (slice_get-pushed xs x place y there)
  where
    by_place : ((place < length xs) × (slice_get xs place ≡ Some y)) ⊎ ((place ≡ length xs) × (x ≡ y)) → P place y
    by_place (inl (within, here)) = each place y here
    by_place (inr (at, is)) = subst (λ (n : ℕ). P n y) (sym at) (subst (P (length xs)) is last)

-- in no list is there one
none-at : {X : Type 0} (P : ℕ → X → Type 0) (place : ℕ) (y : X) → slice_get [] place ≡ Some y → P place y
none-at P place y there = absurd (cc)

abbrev HasForm : ℕ → Stored → Type 0
HasForm place it = 0 < place → IsTrue (is_ext it.ext)

abbrev IsCanonicalAt : ℕ → Block → Type 0
IsCanonicalAt place b = IsCanonical b

pub blocks-push : (stored : List Stored) (it : Stored) → blocks_of (stored ++ it ∷ []) ≡ blocks_of stored ++ it.block ∷ []
blocks-push stored it = map_push (λ (x : Stored). x.block) stored it

pub as_many : (stored : List Stored) → length (blocks_of stored) ≡ length stored
as_many stored = length-map stored (λ (x : Stored). x.block)

pub blocks_more : (stored later : List Stored) (entries entries1 : List Entry) (it : Stored) → AreBlocks stored entries → IsCanonical it.block → IsTrue (is_ext it.ext)
    → later ≡ stored ++ it ∷ [] → length stored < kept_limit → IndexesBlocks (blocks_of stored ++ it.block ∷ []) entries1 → AreBlocks later entries1
blocks_more stored later entries entries1 it are canonical form more few indexed =
    subst (λ (list : List Stored). AreBlocks list entries1) (sym more) (record {
      indexed = subst (λ (blocks : List Block). IndexesBlocks blocks entries1) (sym (blocks-push stored it)) indexed;
      canonical = subst AreCanonical (sym (blocks-push stored it)) (each-push IsCanonicalAt (blocks_of stored) it.block are.canonical canonical);
      forms = each-push HasForm stored it are.forms (λ _. form);
      few = omega (arith, few, length_push stored it);
    })

-- ---- The genesis

pub not_genesis : (kind : ℕ) (body : List ℕ) → decoded shapes.block body ≡ None → is_genesis (record_of kind body) ≡ false
unfolding broken_genesis_rule
not_genesis kind body none =
    let wrong : is_none (broken_genesis_rule body) ≡ false = ap (λ (o : Option Block). is_none (broken_by o)) none in
    and_right (kind == 2) (is_none (broken_genesis_rule body)) wrong

-- a block that breaks a rule on a genesis is none
pub breaks_a_rule : (kind : ℕ) (body : List ℕ) (b : Block) (rule : ℕ) → decoded shapes.block body ≡ Some b → broken_by (Some b) ≡ Some rule
    → is_genesis (record_of kind body) ≡ false
unfolding broken_genesis_rule
breaks_a_rule kind body b rule there broken =
    let wrong : is_none (broken_genesis_rule body) ≡ false = ap (λ (o : Option Block). is_none (broken_by o)) there ∙ ap (λ (o : Option ℕ). is_none o) broken in
    and_right (kind == 2) (is_none (broken_genesis_rule body)) wrong

-- and one that breaks none is one
pub breaks_none : (kind : ℕ) (body : List ℕ) (b : Block) → kind ≡ 2 → decoded shapes.block body ≡ Some b → broken_by (Some b) ≡ None
    → is_genesis (record_of kind body) ≡ true
unfolding broken_genesis_rule
breaks_none kind body b second there none =
    ap (λ (k : ℕ). (k == 2) && is_none (broken_genesis_rule body)) second ∙ ap (λ (o : Option Block). is_none (broken_by o)) there
    ∙ ap (λ (o : Option ℕ). is_none o) none

-- G2: the number of a genesis is 0
pub genesis_first : (b : Block) → broken_by (Some b) ≡ None → b.header.number ≡ 0
unfolding first_failing
genesis_first b kept = by_test (is_first b) refl kept
  where
    by_test : (t : Bool) → is_first b ≡ t → cond {A = Option ℕ} t (first_failing (drop 1 (genesis_rules b))) (Some 2) ≡ None → b.header.number ≡ 0
    by_test true is none = eqb-true b.header.number 0 is
    by_test false is none = absurd (cc)

pub genesis_blocks : (stored : List Stored) (entries : List Entry) (body : List ℕ) (b : Block) → decoded shapes.block body ≡ Some b
    → stored ≡ record { block = b; ext = [] } ∷ [] → IndexesBlocks (b ∷ []) entries → AreBlocks stored entries
genesis_blocks stored entries body b there one indexed =
    subst (λ (list : List Stored). AreBlocks list entries) (sym one) (record {
      indexed = indexed;
      canonical = each-push IsCanonicalAt [] b (none-at IsCanonicalAt) (IsEncoding-decoded shapes.block body b there).fits;
      forms = each-push HasForm [] (record { block = b; ext = [] }) (none-at HasForm) (λ above. absurd (omega (arith, above)));
      few = omega (arith, kept_limit_is);
    })
