-- Starts that are made and moved.
use Rattle.std.proofs.Common.{◌≡◌, ℕ, ◌+◌, ◌-◌, ◌<◌, ◌≤◌, Bool, true, false, true≢false, cond, ◌||◌, List, take, Option, Some, None, refl, sym, ap, ◌∙◌, inl, inr, ◌⊎◌, arith}
use Rattle.std.specs.Prelude.{slice_get, nat_le, ◌&&◌, IsTrue}
use Rattle.std.specs.Option.{option_map}
use Rattle.std.specs.List.{list_any}
use Rattle.std.specs.Str.{bytes_eq}
use Rattle.std.proofs.lemmas.Bool.{cases_lt, eq-eqb, ne_eqb, leb-true, and_parts, and_from}
use Rattle.std.proofs.lemmas.Bool.Decides.{nat_tests}
use Rattle.std.proofs.lemmas.List.Folds.{list_any_more}
use Rattle.std.proofs.lemmas.Option.{slice_get_within, get_or_from_slice_get, same_Some}
use Rattle.chain_defs.specs.Schema.{Block}
use Rattle.chain_defs.specs.Specification.{Specification, keeps_s3}
use Rattle.chain_defs.specs.Kept.{block_at}
use Rattle.rule_defs.specs.Window.{proposed_ids, proposes, proposes_at, earliest, IsEarliest}
use Rattle.rule_defs.proofs.WindowLaws.{earliest-is-earliest}
use Rattle.rule_defs.specs.Reward.{is_at}
use Rattle.rewards.specs.Starts.{is_started, AreStarts}

-- ---- One id more that is moved

abbrev pub among : List (List ℕ) → List ℕ → Bool
among ids id = list_any (λ other. bytes_eq other id) ids

among-more : (ids : List (List ℕ)) (i : ℕ) (key id : List ℕ) → slice_get ids i ≡ Some key → among (take (i + 1) ids) id ≡ (among (take i ids) id || bytes_eq key id)
among-more ids i key id there =
    list_any_more (λ other. bytes_eq other id) ids i key (slice_get_within ids i key there)
    ∙ ap (λ (it : List ℕ). among (take i ids) id || bytes_eq it id) (get_or_from_slice_get ids i key key there)

-- where it has a start
pub moved-some : (ids : List (List ℕ)) (i start was : ℕ) (key id : List ℕ) (old now next : Option ℕ) → slice_get ids i ≡ Some key
    → next ≡ cond (bytes_eq key id) (Some start) now → (bytes_eq key id ≡ true → now ≡ Some was)
    → now ≡ cond (among (take i ids) id) (option_map (λ _. start) old) old
    → next ≡ cond (among (take (i + 1) ids) id) (option_map (λ _. start) old) old
moved-some ids i start was key id old now next there is had so_far =
    by_tests (among (take i ids) id) (bytes_eq key id) old is had so_far
    ∙ ap (λ (b : Bool). cond b (option_map (λ _. start) old) old) (sym (among-more ids i key id there))
  where
    by_tests : (a b : Bool) (old : Option ℕ) → next ≡ cond b (Some start) now → (b ≡ true → now ≡ Some was) → now ≡ cond a (option_map (λ _. start) old) old
        → next ≡ cond (a || b) (option_map (λ _. start) old) old
    by_tests true false old is had so_far = is ∙ so_far
    by_tests false false old is had so_far = is ∙ so_far
    by_tests true true (Some from) is had so_far = is
    by_tests false true (Some from) is had so_far = is
    by_tests true true None is had so_far = let here : now ≡ Some was = had refl in absurd (cc)
    by_tests false true None is had so_far = let here : now ≡ Some was = had refl in absurd (cc)

-- where it has none
pub moved-none : (ids : List (List ℕ)) (i start : ℕ) (key id : List ℕ) (old now : Option ℕ) → slice_get ids i ≡ Some key
    → (bytes_eq key id ≡ true → now ≡ None)
    → now ≡ cond (among (take i ids) id) (option_map (λ _. start) old) old
    → now ≡ cond (among (take (i + 1) ids) id) (option_map (λ _. start) old) old
moved-none ids i start key id old now there had so_far =
    by_tests (among (take i ids) id) (bytes_eq key id) old had so_far
    ∙ ap (λ (b : Bool). cond b (option_map (λ _. start) old) old) (sym (among-more ids i key id there))
  where
    by_tests : (a b : Bool) (old : Option ℕ) → (b ≡ true → now ≡ None) → now ≡ cond a (option_map (λ _. start) old) old
        → now ≡ cond (a || b) (option_map (λ _. start) old) old
    by_tests true b old had so_far = so_far
    by_tests false false old had so_far = so_far
    by_tests false true None had so_far = so_far
    by_tests false true (Some from) had so_far = let here : now ≡ None = had refl in absurd (cc)

-- ---- The ids of the proposer

pub proposes-among : (branch : List Block) (id : List ℕ) (height : ℕ) (ids : List (List ℕ)) → option_map proposed_ids (block_at branch height) ≡ Some ids
    → among ids id ≡ proposes_at branch id height
unfolding proposes_at
proposes-among branch id height ids are = by_block (block_at branch height) are
  where
    by_block : (found : Option Block) → option_map proposed_ids found ≡ Some ids → among ids id ≡ proposes id found
    by_block None is = absurd (cc)
    by_block (Some b) is = ap (λ (l : List (List ℕ)). among l id) (sym (same_Some (proposed_ids b) ids is))

-- ---- Starts that are moved over some heights

-- Of the ids that are asked for those that a block proposes have starts, and no others; each is the least height from which on no window reaches one of the heights, from `low`
-- up to `end`, that propose the id too.
pub record AreMoved (w_far : ℕ) (branch : List Block) (asked : List ℕ → Bool) (proposer low end : ℕ) (start_of : List ℕ → Option ℕ) : Type 0 where
  pub none : (id : List ℕ) → asked id ≡ true → start_of id ≡ None → proposes_at branch id proposer ≡ false
  pub some : (id : List ℕ) (start : ℕ) → start_of id ≡ Some start → proposes_at branch id proposer ≡ true
  pub passed : (id : List ℕ) (start height : ℕ) → start_of id ≡ Some start → low ≤ height → height < end → proposes_at branch id height ≡ true
      → height + w_far < start
  pub least : (id : List ℕ) (start commit : ℕ) → start_of id ≡ Some start
      → ((height : ℕ) → low ≤ height → height < end → proposes_at branch id height ≡ true → height + w_far < commit) → start ≤ commit

-- over none
pub moved-first : (w_far : ℕ) (branch : List Block) (asked : List ℕ → Bool) (proposer low : ℕ) (start_of : List ℕ → Option ℕ)
    → ((id : List ℕ) → start_of id ≡ cond (proposes_at branch id proposer && asked id) (Some 0) None) → AreMoved w_far branch asked proposer low low start_of
moved-first w_far branch asked proposer low start_of starts = record {
  none = λ id wanted is. by_none (proposes_at branch id proposer) (asked id) refl wanted (sym (starts id) ∙ is);
  some = λ id start is. by_some (proposes_at branch id proposer) (asked id) refl (sym (starts id) ∙ is);
  passed = λ id start height is from below proposed. absurd (omega (arith, from, below));
  least = λ id start commit is above. let zero : start ≡ 0 = at_zero (proposes_at branch id proposer && asked id) start (sym (starts id) ∙ is) in omega (arith, zero);
}
  where
    by_none : {P : Bool} (b c : Bool) → P ≡ b → c ≡ true → cond {A = Option ℕ} (b && c) (Some 0) None ≡ None → P ≡ false
    by_none true true is wanted none = absurd (cc)
    by_none true false is wanted none = absurd (cc)
    by_none false c is wanted none = is

    by_some : {P : Bool} {start : ℕ} (b c : Bool) → P ≡ b → cond {A = Option ℕ} (b && c) (Some 0) None ≡ Some start → P ≡ true
    by_some true c is some = is
    by_some false c is some = absurd (cc)

    at_zero : (b : Bool) (start : ℕ) → cond {A = Option ℕ} b (Some 0) None ≡ Some start → start ≡ 0
    at_zero true start is = sym (same_Some 0 start is)
    at_zero false start is = absurd (cc)

-- as the code has it
pub moved-by : (at w_far start : ℕ) (b other : Bool) (was new : Option ℕ) → new ≡ cond b (option_map (λ _. start) was) was → other ≡ b → start ≡ at + w_far + 1
    → new ≡ cond other (option_map (λ _. at + w_far + 1) was) was
moved-by at w_far start b other was new is same start_is = is ∙ (λ i. cond (sym same i) (option_map (λ _. start_is i) was) was)

-- over one more
pub moved-next : (w_far : ℕ) (branch : List Block) (asked : List ℕ → Bool) (proposer low at : ℕ) (old new : List ℕ → Option ℕ) → AreMoved w_far branch asked proposer low at old → low ≤ at
    → ((id : List ℕ) → new id ≡ cond (proposes_at branch id at) (option_map (λ _. at + w_far + 1) (old id)) (old id))
    → AreMoved w_far branch asked proposer low (at + 1) new
moved-next w_far branch asked proposer low at old new before from moves = record {
  none = λ id wanted is. by_none id wanted (proposes_at branch id at) (old id) refl (sym (moves id) ∙ is);
  some = λ id start is. by_some id (proposes_at branch id at) (old id) refl (sym (moves id) ∙ is);
  passed = λ id start height is first below proposed. by_passed id start height (proposes_at branch id at) (old id) refl refl (sym (moves id) ∙ is) first below proposed;
  least = λ id start commit is above. by_least id start commit (proposes_at branch id at) (old id) refl refl (sym (moves id) ∙ is) above;
}
  where
    after : Bool → Option ℕ → Option ℕ
    after b was = cond b (option_map (λ _. at + w_far + 1) was) was

    by_none : (id : List ℕ) → asked id ≡ true → (b : Bool) (was : Option ℕ) → old id ≡ was → after b was ≡ None → proposes_at branch id proposer ≡ false
    by_none id wanted b None is none = before.none id wanted is
    by_none id wanted true (Some start) is none = absurd (cc)
    by_none id wanted false (Some start) is none = absurd (cc)

    by_some : {start : ℕ} (id : List ℕ) (b : Bool) (was : Option ℕ) → old id ≡ was → after b was ≡ Some start → proposes_at branch id proposer ≡ true
    by_some id true None is some = absurd (cc)
    by_some id false None is some = absurd (cc)
    by_some id b (Some start) is some = before.some id start is

    by_passed : (id : List ℕ) (start height : ℕ) (b : Bool) (was : Option ℕ) → proposes_at branch id at ≡ b → old id ≡ was → after b was ≡ Some start
        → low ≤ height → height < at + 1 → proposes_at branch id height ≡ true → height + w_far < start
    by_passed id start height true None here is moved first below proposed = absurd (cc)
    by_passed id start height true (Some x) here is moved first below proposed =
        let new_start : at + w_far + 1 ≡ start = same_Some (at + w_far + 1) start moved in omega (arith, new_start, below)
    by_passed id start height false was here is moved first below proposed = by_order (cases_lt height at)
      where
        by_order : (height < at) ⊎ (at ≤ height) → height + w_far < start
        by_order (inl less) = before.passed id start height (is ∙ moved) first less proposed
        by_order (inr more) = let same : height ≡ at = omega (arith, more, below) in
            let fails : proposes_at branch id height ≡ false = ap (proposes_at branch id) same ∙ here in absurd (cc)

    by_least : (id : List ℕ) (start commit : ℕ) (b : Bool) (was : Option ℕ) → proposes_at branch id at ≡ b → old id ≡ was → after b was ≡ Some start
        → ((height : ℕ) → low ≤ height → height < at + 1 → proposes_at branch id height ≡ true → height + w_far < commit) → start ≤ commit
    by_least id start commit true None here is moved above = absurd (cc)
    by_least id start commit true (Some x) here is moved above =
        let new_start : at + w_far + 1 ≡ start = same_Some (at + w_far + 1) start moved in
        let last : at + w_far < commit = above at from (omega arith) here in omega (arith, new_start, last)
    by_least id start commit false was here is moved above =
        before.least id start commit (is ∙ moved) (λ height first below proposed. above height first (omega (arith, below)) proposed)

-- ---- What starts say

-- a window is not empty
pub window-order : (w_close w_far : ℕ) → IsTrue (keeps_s3 w_close w_far) → w_close ≤ w_far
window-order w_close w_far keeps =
    let both = and_parts (nat_le 1 w_close && nat_le w_close w_far) (nat_le w_far 100) keeps in
    leb-true w_close w_far (and_parts (nat_le 1 w_close) (nat_le w_close w_far) both.0).1

pub not-at : (proposer : ℕ) (found : Option ℕ) → (found ≡ Some proposer → ⊥) → false ≡ is_at proposer found
not-at proposer None differ = refl
not-at proposer (Some other) differ = sym (ne_eqb other proposer (λ same. differ (ap (λ (n : ℕ). Some n) same)))

-- over all heights below the proposer from which a commit that may be given to it can be proposed
pub starts-all : (spec : Specification) (branch : List Block) (asked : List ℕ → Bool) (proposer low : ℕ) (start_of : List ℕ → Option ℕ) → low ≡ proposer + spec.w_close - spec.w_far
    → AreMoved spec.w_far branch asked proposer low proposer start_of → AreStarts spec branch proposer asked start_of
starts-all spec branch asked proposer low start_of from moved id commit wanted close far = by_start (start_of id) refl
  where
    no_later : (earliest spec branch id commit ≡ Some proposer → ⊥) → false ≡ is_at proposer (earliest spec branch id commit)
    no_later = not-at proposer (earliest spec branch id commit)

    is : (earliest spec branch id commit ≡ Some proposer → IsEarliest spec branch id commit proposer)
        × (IsEarliest spec branch id commit proposer → earliest spec branch id commit ≡ Some proposer)
    is = earliest-is-earliest spec branch id commit proposer

    by_start : (start : Option ℕ) → start_of id ≡ start → is_started start commit ≡ is_at proposer (earliest spec branch id commit)
    by_start None none = no_later (λ found. let proposed = (is.0 found).proposed in let fails = moved.none id wanted none in absurd (cc))
    by_start (Some start) some = by_order (cases_lt commit start)
      where
        by_order : (commit < start) ⊎ (start ≤ commit) → nat_le start commit ≡ is_at proposer (earliest spec branch id commit)
        by_order (inl before) =
            let test : nat_le start commit ≡ false = grind (arith, nat_tests, before) in
            test ∙ no_later (λ found. let first = is.0 found in
            let reached : start ≤ commit = moved.least id start commit some (λ height above below proposed. past first height below proposed (cases_lt (height + spec.w_far) commit)) in
            omega (arith, before, reached))
          where
            past : IsEarliest spec branch id commit proposer → (height : ℕ) → height < proposer → proposes_at branch id height ≡ true
                → (height + spec.w_far < commit) ⊎ (commit ≤ height + spec.w_far) → height + spec.w_far < commit
            past first height below proposed (inl less) = less
            past first height below proposed (inr more) = let fails = first.lowest height below more in absurd (cc)
        by_order (inr reached) =
            let test : nat_le start commit ≡ true = grind (arith, nat_tests, reached) in
            let found : earliest spec branch id commit ≡ Some proposer = is.1 (record {
              close = close;
              far = far;
              proposed = moved.some id start some;
              lowest = λ other below more. lower other below more (proposes_at branch id other) refl;
            }) in
            test ∙ sym (ap (is_at proposer) found ∙ eq-eqb proposer proposer refl)
          where
            lower : (other : ℕ) → other < proposer → commit ≤ other + spec.w_far → (b : Bool) → proposes_at branch id other ≡ b → proposes_at branch id other ≡ false
            lower other below more false fails = fails
            lower other below more true proposed =
                let passed : other + spec.w_far < start = moved.passed id start other some (omega (arith, from, close, more)) below proposed in
                absurd (omega (arith, passed, reached, more))

-- where none of the ids that are asked for is proposed there are none
pub starts-none : (spec : Specification) (branch : List Block) (asked : List ℕ → Bool) (proposer : ℕ) (start_of : List ℕ → Option ℕ)
    → ((id : List ℕ) → start_of id ≡ None) → ((id : List ℕ) → false ≡ (proposes_at branch id proposer && asked id)) → AreStarts spec branch proposer asked start_of
starts-none spec branch asked proposer start_of empty none id commit wanted close far =
    ap (λ (start : Option ℕ). is_started start commit) (empty id)
    ∙ not-at proposer (earliest spec branch id commit) (λ found.
    let proposed = ((earliest-is-earliest spec branch id commit proposer).0 found).proposed in
    let both : (proposes_at branch id proposer && asked id) ≡ true = and_from (proposes_at branch id proposer) (asked id) proposed wanted in
    true≢false (sym both ∙ sym (none id)))
