-- How many steps an import takes, by the items that its source gave.
use Rattle.std.proofs.Common.{◌≡◌, ◌⊎◌, inl, inr, ℕ, ◌+◌, ◌≤◌, Bool, false, List, [], ◌∷◌, ◌++◌, length, refl, ap, sym, ◌∙◌, subst, arith, append-nil, length-append}
use Rattle.std.specs.Prelude.{Option, Some, IfSome}
use Rattle.std.specs.List.{concat}
use Rattle.outside.specs.Image.{Image}
use Rattle.outside.specs.Streams.{Gives}
use Rattle.outside.proofs.Streams.{gives_more}
use Rattle.verdict_defs.specs.Verdict.{joins}
use Rattle.verdict_defs.specs.Chain.{Chain, verdict_over, chain_after, chain_over}
use Rattle.outside.specs.Disk.{IsKnownAsBefore}
use Rattle.store_defs.specs.Store.{Keeps, store_of, StandsFor, IsSound}
use Rattle.report_defs.specs.Items.{Split, split_of}
use Rattle.report_defs.specs.Report.{item_limit, input_limit, import_limits}
use Rattle.report_defs.specs.Survival.{NoneJoins}
use Rattle.run_text.specs.Items.{SourceGave, IsPartial, IsItemAt}
use Rattle.run_text.proofs.Reading.{few_partial}
use Rattle.node_store.specs.Node.{NodeValue, IsSoundNode, IsSoundWhereTold}
use Rattle.node_store.specs.OpeningSteps.{moves_to_open}
use Rattle.node_store.specs.Steps.{moves_for, steps_over}
use Rattle.run_import.specs.Import.{AreGiven}
use Rattle.run_import.proofs.LineLemmas.{concat-push}
use Rattle.run_import.proofs.ImportLemmas.{Whole, all-push, steps-push}
use Rattle.run_import.proofs.ImportReport.{split_is}
use Rattle.run_store.proofs.DiskLemmas.{opened_sound}
use Rattle.run_text.proofs.StoreLemmas.{if_told, same_chain, store_of_stands}

given_also : (P : List (List ℕ) → Type 0) (items : List (List ℕ)) (rest given : List ℕ) → AreGiven items rest given → P items → P (split_of import_limits given).items
given_also P items rest given are has = subst (λ (s : Split). P s.items) (sym (split_is items rest given are)) has

-- ---- Items one after the other

module _ (watched : Option (List ℕ)) (chain : Chain) (offset : ℕ) (left_old left left_new taken_old taken : Option (List ℕ)) (now : Chain) (refused : Bool)
    (were_sound are_sound was_on is_on : Type 0) (leaves : (Image → Type 0) → Type 0) (steps_old steps_now : ℕ)
    (whole : Whole watched chain offset left_old left taken_old taken now refused were_sound are_sound was_on is_on leaves steps_old steps_now) where
  -- What has P of the items, where no whole one stands after them.
  pub part_also : (P : List (List ℕ) → Type 0) → P whole.items → (given : List ℕ) → Gives left left_new given
      → IsPartial item_limit (Some input_limit) offset given → SourceGave left_old left_new (λ given. P (split_of import_limits given).items)
  part_also P has given gives partial = (
    concat whole.items ++ given,
    gives_more left_old left left_new (concat whole.items) given whole.gives gives,
    given_also P whole.items given (concat whole.items ++ given) (record {
      whole = refl;
      all = whole.all;
      within = rw (← whole.place) whole.within;
      partial = rw (← whole.place) partial;
    }) has,
  )

  -- where an item stands after them
  pub item_also : (P : List (List ℕ) → Type 0) (item given : List ℕ) → IsItemAt item_limit (Some input_limit) offset item given → Gives left left_new given
      → P (whole.items ++ item ∷ []) → SourceGave left_old left_new (λ given. P (split_of import_limits given).items)
  item_also P item given at gives has = (
    concat whole.items ++ item,
    gives_more left_old left left_new (concat whole.items) item whole.gives (subst (Gives left left_new) at.same gives),
    given_also P (whole.items ++ item ∷ []) [] (concat whole.items ++ item) (record {
      whole = sym (append-nil (concat (whole.items ++ item ∷ [])) ∙ concat-push whole.items item);
      all = all-push whole.items item whole.all at.is_item;
      within = rw concat-push (omega (arith, at.within, whole.place, length-append (concat whole.items) item));
      partial = few_partial item_limit (Some input_limit) (length (concat (whole.items ++ item ∷ []))) [] (omega arith);
    }) has,
  )

  -- where the reading was stopped
  pub stop_also : (P : List (List ℕ) → Type 0) → P whole.items → (given : List ℕ) → Gives left left_new given
      → P (whole.items ++ given ∷ [])
      → IsPartial item_limit (Some input_limit) offset given ⊎ IsItemAt item_limit (Some input_limit) offset given given
      → SourceGave left_old left_new (λ given. P (split_of import_limits given).items)
  stop_also P has given gives more (inl partial) = part_also P has given gives partial
  stop_also P has given gives more (inr item) = item_also P given given item gives more

  steps_more : (steps_new : ℕ) (item : List ℕ) → steps_new ≤ steps_now + moves_for now item → were_sound
      → steps_new ≤ steps_old + steps_over chain (whole.items ++ item ∷ [])
  steps_more steps_new item most sound =
      omega (
        arith,
        whole.steps sound,
        steps-push chain whole.items item,
        subst (λ (k : Chain). steps_new ≤ steps_now + moves_for k item) (whole.kept_now sound) most,
      )

  -- what stands after them holds no whole item
  pub counted_to_part : (given : List ℕ) → Gives left left_new given → IsPartial item_limit (Some input_limit) offset given
      → SourceGave left_old left_new (λ given. were_sound → steps_now ≤ steps_old + steps_over chain (split_of import_limits given).items)
  counted_to_part given gives partial = part_also (λ xs. were_sound → steps_now ≤ steps_old + steps_over chain xs) whole.steps given gives partial

  -- an item stands after them
  pub counted_to_item : (steps_new : ℕ) (item given : List ℕ) → IsItemAt item_limit (Some input_limit) offset item given → Gives left left_new given
      → steps_new ≤ steps_now + moves_for now item
      → SourceGave left_old left_new (λ given. were_sound → steps_new ≤ steps_old + steps_over chain (split_of import_limits given).items)
  counted_to_item steps_new item given at gives most =
      item_also (λ xs. were_sound → steps_new ≤ steps_old + steps_over chain xs) item given at gives (steps_more steps_new item most)

  -- the reading was stopped
  pub counted_to_stop : (given : List ℕ) → Gives left left_new given
      → IsPartial item_limit (Some input_limit) offset given ⊎ IsItemAt item_limit (Some input_limit) offset given given
      → SourceGave left_old left_new (λ given. were_sound → steps_now ≤ steps_old + steps_over chain (split_of import_limits given).items)
  counted_to_stop given gives =
      stop_also (λ xs. were_sound → steps_now ≤ steps_old + steps_over chain xs) whole.steps given gives (steps_more steps_now given (omega arith))

-- ---- Items none of which joins

pub none-push : (chain : Chain) (items : List (List ℕ)) (item : List ℕ) → NoneJoins chain (items ++ item ∷ [])
    → NoneJoins chain items × (joins (verdict_over (chain_over chain items) item) ≡ false)
none-push chain [] item none = (tt, none.0)
none-push chain (x ∷ items) item none = let later = none-push (chain_after chain x) items item none.1 in ((none.0, later.0), later.1)

pub stays_there : (chain now : Chain) (items : List (List ℕ)) (item : List ℕ) → now ≡ chain_over chain items
    → joins (verdict_over (chain_over chain items) item) ≡ false → joins (verdict_over now item) ≡ false
stays_there chain now items item is stays = ap (λ (k : Chain). joins (verdict_over k item)) is ∙ stays

-- ---- A store that was opened

-- the chain that was opened is the one that the disk read as, and the node is sound
pub opened_over : (before after : Option Image) (opened : NodeValue) (chain : Chain) (now : Image)
    → IfSome before (λ image. store_of image ≡ Keeps opened.chain) → IsKnownAsBefore before after → (IsSound now → IsSoundNode opened) → before ≡ Some now → StandsFor chain now
    → (opened.chain ≡ chain) × IsSoundWhereTold opened after
opened_over before after opened chain now kept as_before sound told stands = (
  same_chain opened.chain chain (sym (if_told before (λ image. store_of image ≡ Keeps opened.chain) now kept told) ∙ store_of_stands chain now stands),
  opened_sound opened before after now as_before sound told (chain, stands),
)

pub none_over : (opened chain : Chain) (items : List (List ℕ)) → opened ≡ chain → NoneJoins chain items → NoneJoins opened items
none_over opened chain items same none = subst (λ (k : Chain). NoneJoins k items) (sym same) none

pub counted_over : (before after : Option Image) (opened : NodeValue) (chain : Chain) (now : Image) (items : List (List ℕ)) (steps_old steps_now steps_new : ℕ)
    → IfSome before (λ image. store_of image ≡ Keeps opened.chain) → IsKnownAsBefore before after → (IsSound now → IsSoundNode opened) → before ≡ Some now → StandsFor chain now
    → steps_now ≤ steps_old + moves_to_open now → (IsSoundWhereTold opened after → steps_new ≤ steps_now + steps_over opened.chain items)
    → steps_new ≤ steps_old + moves_to_open now + steps_over chain items
counted_over before after opened chain now items steps_old steps_now steps_new kept as_before sound told stands most counts =
    let over = opened_over before after opened chain now kept as_before sound told stands in
    omega (
      arith,
      most,
      subst (λ (k : Chain). steps_new ≤ steps_now + steps_over k items) over.0 (counts over.1),
    )
