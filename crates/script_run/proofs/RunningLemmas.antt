-- Groups that are gone through one after the other, and what comes of each.
use Rattle.std.proofs.Common.{◌≡◌, ℕ, suc, ◌+◌, ◌-◌, ◌<◌, ◌≤◌, Bool, true, false, cond, List, [], ◌∷◌, length, map, drop, get_or, Option, Some, None, Result, Ok, Err, refl, sym, ap, subst, ◌∙◌, arith, add-one, drop-cons}
use Rattle.std.specs.Prelude.{slice_get, IfOk}
use Rattle.std.specs.List.{All, AllZip}
use Rattle.std.specs.Option.{option_map}
use Rattle.std.proofs.lemmas.List.{drop_all, length-map}
use Rattle.std.proofs.lemmas.List.Elements.{All-get_or}
use Rattle.std.proofs.lemmas.Option.{slice_get_within, get_or_from_slice_get, slice_get-get_or, slice_get-map}
use Rattle.chain_defs.specs.Schema.{Script}
use Rattle.machine_defs.specs.Program.{Execution, execution}
use Rattle.machine_defs.specs.Answer.{syscall}
use Rattle.verdict_defs.specs.declared.failure.Failure.{Failure}
use Rattle.verdict_defs.specs.Scene.{Scene}
use Rattle.verdict_defs.specs.Groups.{Group, groups_of}
use Rattle.verdict_defs.specs.Codes.{Code, Is, code_of, is_type_id}
use Rattle.verdict_defs.specs.Items.{items}
use Rattle.verdict_defs.specs.Outcome.{has_no_code, lacks_code, or_later, first_without_code, executed, run_code, run_type_id, run_group, with_cycles, followed_by, run_from, unless, outcome_of}
use Rattle.script_run.specs.declared.stop.ScriptStop.{ScriptStop}
use Rattle.script_run.specs.declared.stop.ScriptStop.TheVariants.{Failed, Read}
use Rattle.script_run.specs.Running.{IsOutcome, answer_of, read_stop_of}
use Rattle.script_run.specs.Shown.{AreCodesIn, CodesValue, GroupValue, HasItsHash, IsShownAs, ShownTxValue, codes_of}

-- ---- The code of one group

-- what is found for its script, where that is not TYPE_ID
pub lacks-code : (scene : Scene) (place : ℕ) (group : Group) (script : Script) (code : Code) → script ≡ group.script → is_type_id script ≡ false
    → code ≡ code_of scene.second scene.deps script → lacks_code place code ≡ has_no_code scene place group
lacks-code scene place group script code same other is = rw (← same, other) (ap (lacks_code place) is)

-- ---- Groups by their places

abbrev pub groups_in : List GroupValue → List Group
groups_in values = map (λ (it : GroupValue). it.group) values

value-there : (values : List GroupValue) (i : ℕ) (value : GroupValue) → i < length values → value ≡ get_or values i value → slice_get values i ≡ Some value
value-there values i value within is = slice_get-get_or values i value within ∙ ap Some (sym is)

-- those from a place on: the one that stands there, and those after it
pub from-place : (values : List GroupValue) (i : ℕ) (value : GroupValue) → i < length values → value ≡ get_or values i value
    → drop i (groups_in values) ≡ value.group ∷ drop (suc i) (groups_in values)
from-place values i value within is =
    let there : slice_get (groups_in values) i ≡ Some value.group =
    slice_get-map (λ (it : GroupValue). it.group) values i ∙ ap (option_map (λ (it : GroupValue). it.group)) (value-there values i value within is) in
    drop-cons (groups_in values) i value.group (slice_get_within (groups_in values) i value.group there)
    ∙ ap (λ (group : Group). group ∷ drop (suc i) (groups_in values)) (get_or_from_slice_get (groups_in values) i value.group value.group there)

none-left : (values : List GroupValue) (i : ℕ) → length values ≤ i → drop i (groups_in values) ≡ []
none-left values i all =
    let long : length (groups_in values) ≡ length values = length-map values (λ (it : GroupValue). it.group) in
    drop_all i (groups_in values) (omega (arith, long, all))

pub its-hash : (values : List GroupValue) (i : ℕ) (value : GroupValue) → i < length values → value ≡ get_or values i value → All HasItsHash values → HasItsHash value
its-hash values i value within is all = subst (λ (it : GroupValue). HasItsHash it) (sym is) (All-get_or HasItsHash values i value within all)

-- ---- The code of each

looked-at : (scene : Scene) (values : List GroupValue) (i : ℕ) (value : GroupValue) → i < length values → value ≡ get_or values i value
    → first_without_code scene i (drop i (groups_in values)) ≡ or_later (has_no_code scene i value.group) (first_without_code scene (suc i) (drop (suc i) (groups_in values)))
unfolding first_without_code
looked-at scene values i value within is = ap (first_without_code scene i) (from-place values i value within is)

-- that of a group is not found
pub found-lacking : (scene : Scene) (values : List GroupValue) (i : ℕ) (value : GroupValue) (whole : Option Failure) (why : Failure)
    → whole ≡ first_without_code scene i (drop i (groups_in values)) → i < length values → value ≡ get_or values i value → Some why ≡ has_no_code scene i value.group
    → Some why ≡ whole
found-lacking scene values i value whole why so_far within is lacks =
    sym (so_far ∙ looked-at scene values i value within is
    ∙ ap (λ (first : Option Failure). or_later first (first_without_code scene (suc i) (drop (suc i) (groups_in values)))) (sym lacks))

-- that of a group is found
pub found-code : (scene : Scene) (values : List GroupValue) (i : ℕ) (value : GroupValue) (whole : Option Failure)
    → whole ≡ first_without_code scene i (drop i (groups_in values)) → i < length values → value ≡ get_or values i value → None ≡ has_no_code scene i value.group
    → whole ≡ first_without_code scene (i + 1) (drop (i + 1) (groups_in values))
found-code scene values i value whole so_far within is found =
    rw add-one (so_far ∙ looked-at scene values i value within is
    ∙ ap (λ (first : Option Failure). or_later first (first_without_code scene (suc i) (drop (suc i) (groups_in values)))) (sym found))

pub found-each : (scene : Scene) (values : List GroupValue) (i : ℕ) (whole : Option Failure)
    → whole ≡ first_without_code scene i (drop i (groups_in values)) → length values ≤ i → None ≡ whole
unfolding first_without_code
found-each scene values i whole so_far all = sym (so_far ∙ ap (first_without_code scene i) (none-left values i all))

-- ---- One group

pub of-type-id : (scene : Scene) (left place : ℕ) (group : Group) (result : Result ℕ Failure) → is_type_id group.script ≡ true → result ≡ run_type_id scene left place group
    → run_group scene left place group ≡ result
unfolding run_group
of-type-id scene left place group result is came =
    ap (λ (test : Bool). cond test (run_type_id scene left place group) (run_code scene left place group (code_of scene.second scene.deps group.script))) is ∙ sym came

-- by the code of its script
pub of-code : (scene : Scene) (left place : ℕ) (group : Group) (code : Code) → is_type_id group.script ≡ false → code ≡ code_of scene.second scene.deps group.script
    → run_group scene left place group ≡ run_code scene left place group code
unfolding run_group
of-code scene left place group code is found =
    ap (λ (test : Bool). cond test (run_type_id scene left place group) (run_code scene left place group (code_of scene.second scene.deps group.script))) is
    ∙ ap (run_code scene left place group) (sym found)

pub of-execution : (scene : Scene) (left place : ℕ) (group : Group) (code : List ℕ) (came : Execution) (result : Result ℕ Failure) → is_type_id group.script ≡ false
    → Is code ≡ code_of scene.second scene.deps group.script → came ≡ execution (syscall (items scene group)) left code → result ≡ executed place came
    → run_group scene left place group ≡ result
of-execution scene left place group code came result is found ran ended =
    of-code scene left place group (Is code) is found ∙ ap (executed place) (sym ran) ∙ sym ended

-- codes of a transaction whose deps are shown
pub codes-in : (scene : Scene) (codes : CodesValue) (tx : ShownTxValue) → codes ≡ codes_of tx → AllZip IsShownAs tx.it.deps scene.deps → scene.second ≡ tx.second → AreCodesIn codes scene
codes-in scene codes tx same shown second = subst (λ (these : CodesValue). AreCodesIn these scene) (sym same) (record { deps = shown; second = second })

-- ---- Answers

pub as-expected : (expected came : Result ℕ Failure) (result : Result ℕ ScriptStop) → expected ≡ came → result ≡ answer_of came → IsOutcome expected result
as-expected expected came result is answered = subst (λ (r : Result ℕ ScriptStop). IsOutcome expected r) (sym answered) (of_answer came is)
  where
    of_answer : (came : Result ℕ Failure) → expected ≡ came → IsOutcome expected (answer_of came)
    of_answer (Ok cycles) same = same
    of_answer (Err why) same = same

-- an answer tells nothing of what was read
pub no-read-stop : (came : Result ℕ Failure) (result : Result ℕ ScriptStop) → result ≡ answer_of came → None ≡ read_stop_of result
no-read-stop came result answered = sym (ap read_stop_of answered ∙ of_answer came)
  where
    of_answer : (came : Result ℕ Failure) → read_stop_of (answer_of came) ≡ None
    of_answer (Ok cycles) = refl
    of_answer (Err why) = refl

pub answer-within : (came : Result ℕ Failure) (result : Result ℕ ScriptStop) (limit : ℕ) → result ≡ answer_of came → IfOk came (λ cycles. cycles ≤ limit) → IfOk result (λ cycles. cycles ≤ limit)
answer-within came result limit answered within = subst (λ (r : Result ℕ ScriptStop). IfOk r (λ cycles. cycles ≤ limit)) (sym answered) (of_answer came within)
  where
    of_answer : (came : Result ℕ Failure) → IfOk came (λ cycles. cycles ≤ limit) → IfOk (answer_of came) (λ cycles. cycles ≤ limit)
    of_answer (Ok cycles) within = within
    of_answer (Err why) within = tt

-- ---- One after the other

more-cycles : (used cycles : ℕ) (later : Result ℕ Failure) → with_cycles used (with_cycles cycles later) ≡ with_cycles (used + cycles) later
more-cycles used cycles (Ok later) = let sum : used + (cycles + later) ≡ used + cycles + later = omega arith in ap Ok sum
more-cycles used cycles (Err why) = refl

next-run : (scene : Scene) (left : ℕ) (values : List GroupValue) (i : ℕ) (value : GroupValue) → i < length values → value ≡ get_or values i value
    → run_from scene left i (drop i (groups_in values))
    ≡ followed_by (λ used. run_from scene (left - used) (suc i) (drop (suc i) (groups_in values))) (run_group scene left i value.group)
unfolding run_from
next-run scene left values i value within is = ap (run_from scene left i) (from-place values i value within is)

-- a group took cycles
pub ran-one : (scene : Scene) (budget used : ℕ) (values : List GroupValue) (i : ℕ) (value : GroupValue) (whole : Result ℕ Failure) (cycles : ℕ)
    → whole ≡ with_cycles used (run_from scene (budget - used) i (drop i (groups_in values))) → i < length values → value ≡ get_or values i value
    → run_group scene (budget - used) i value.group ≡ Ok cycles
    → whole ≡ with_cycles (used + cycles) (run_from scene (budget - (used + cycles)) (i + 1) (drop (i + 1) (groups_in values)))
ran-one scene budget used values i value whole cycles so_far within is took =
    let left : budget - used - cycles ≡ budget - (used + cycles) = omega arith in
    rw add-one (so_far ∙ ap (with_cycles used) (next-run scene (budget - used) values i value within is
    ∙ ap (followed_by (λ used. run_from scene _ (suc i) (drop (suc i) (groups_in values)))) took)
    ∙ more-cycles used cycles _ ∙ ap (λ (n : ℕ). with_cycles (used + cycles) (run_from scene n (suc i) (drop (suc i) (groups_in values)))) left)

-- a group stopped the run
pub ran-to-stop : (scene : Scene) (budget used : ℕ) (values : List GroupValue) (i : ℕ) (value : GroupValue) (whole : Result ℕ Failure) (stop : ScriptStop)
    → whole ≡ with_cycles used (run_from scene (budget - used) i (drop i (groups_in values))) → i < length values → value ≡ get_or values i value
    → IsOutcome (run_group scene (budget - used) i value.group) (Err stop) → IsOutcome whole (Err stop)
ran-to-stop scene budget used values i value whole (Failed why) so_far within is stopped =
    so_far ∙ ap (with_cycles used) (next-run scene (budget - used) values i value within is
    ∙ ap (followed_by (λ used. run_from scene _ (suc i) (drop (suc i) (groups_in values)))) stopped)
ran-to-stop scene budget used values i value whole (Read stop) so_far within is stopped = tt

pub ran-each : (scene : Scene) (budget used : ℕ) (values : List GroupValue) (i : ℕ) (whole : Result ℕ Failure)
    → whole ≡ with_cycles used (run_from scene (budget - used) i (drop i (groups_in values))) → length values ≤ i → whole ≡ Ok used
unfolding run_from
ran-each scene budget used values i whole so_far all =
    let none_more : used + 0 ≡ used = omega arith in
    so_far ∙ ap (λ (left : List Group). with_cycles used (run_from scene (budget - used) i left)) (none-left values i all) ∙ ap Ok none_more

-- ---- All groups of a transaction

pub first-fails : (scene : Scene) (budget : ℕ) (groups : List Group) (why : Failure) → groups ≡ groups_of scene → Some why ≡ first_without_code scene 0 groups
    → outcome_of scene budget ≡ Err why
unfolding outcome_of
first-fails scene budget groups why are lacks =
    ap (λ (all : List Group). unless (first_without_code scene 0 all) (run_from scene budget 0 all)) (sym are)
    ∙ ap (λ (first : Option Failure). unless first (run_from scene budget 0 groups)) (sym lacks)

pub all-run : (scene : Scene) (budget : ℕ) (groups : List Group) (result : Result ℕ ScriptStop) → groups ≡ groups_of scene → None ≡ first_without_code scene 0 groups
    → IsOutcome (run_from scene budget 0 groups) result → IsOutcome (outcome_of scene budget) result
unfolding outcome_of
all-run scene budget groups result are found ran =
    subst (λ (expected : Result ℕ Failure). IsOutcome expected result)
    (sym (ap (λ (all : List Group). unless (first_without_code scene 0 all) (run_from scene budget 0 all)) (sym are)
    ∙ ap (λ (first : Option Failure). unless first (run_from scene budget 0 groups)) (sym found))) ran
