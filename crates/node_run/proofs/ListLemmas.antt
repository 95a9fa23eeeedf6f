-- Calls one after the other.
use Rattle.std.proofs.Common.{◌≡◌, ℕ, List, [], ◌∷◌, ◌++◌, ◌+◌, ◌<◌, ◌≤◌, length, get_or, set, take, drop, length-set, refl, sym, ap, ◌∙◌, subst, arith}
use Rattle.std.proofs.lemmas.List.{drop_more, take_more, take_more_set, drop-set-lt, take_all}
use Rattle.std.specs.Prelude.{Option, Some, None, IsSome, is_some, IfSome}
use Rattle.outside.specs.Image.{Image}
use Rattle.verdict_defs.specs.Chain.{Chain, chain_of_genesis}
use Rattle.outside.specs.Disk.{HasOneImage, IsKnownAsBefore}
use Rattle.outside.specs.Causes.{up_to_last}
use Rattle.crashing.specs.declared.armed.Armed.{Armed}
use Rattle.crashing.specs.Arming.{armed_faults}
use Rattle.store_defs.specs.Store.{StandsFor}
use Rattle.report_defs.specs.declared.command.Command.{Command}
use Rattle.report_defs.specs.declared.command.Command.TheVariants.{Init}
use Rattle.report_defs.specs.declared.status.Status.{Status}
use Rattle.report_defs.specs.declared.status.Status.TheVariants.{Done}
use Rattle.report_defs.specs.Survival.{Each, Run, IsDone, IsLeftBy, KeepsDisk, IsNewStore, IsPromised}
use Rattle.report_defs.specs.Lists.{AreReplayed, BeginsStore, ArePromised}
use Rattle.node_run.specs.declared.list.Call.{Call}
use Rattle.node_run.specs.declared.list.Stop.{Stop}
use Rattle.node_run.specs.Runs.{IsRunWith, IsCallOf, AreCallsOf}

-- what a disk reads as is known afterwards where it was known before
tells_on : (old new : Option Image) → IsKnownAsBefore old new → IsSome old → IsSome new
tells_on old new same told = same ∙ told

told_image : (reads : Option Image) → IsSome reads → (now : Image) × (reads ≡ Some now)
told_image None told = absurd (cc)
told_image (Some now) told = (now, refl)

-- no run at all
no_runs : (reads : Option Image) (at_start : Image → Type 0) → ArePromised reads at_start at_start []
no_runs reads at_start = record {
  from_past = λ told genesis past by. record { survives = by; answers = tt };
  from_init = λ told. tt;
}

-- What is promised over the images to come is promised over those that they come from.
carried : (reads then : Option Image) (at_start next at_end : Image → Type 0) (runs : List Run) → (IsSome reads → IsSome then)
    → (IsSome reads → (image : Image) → next image → at_start image) → ArePromised then next at_end runs → ArePromised reads at_start at_end runs
carried reads then at_start next at_end runs tells from promised = record {
  from_past = λ told genesis past by. promised.from_past (tells told) genesis past (λ image here. by image (from told image here));
  from_init = λ told. promised.from_init (tells told);
}

pub same_count : {D : Type 0} (faults : D → ℕ) (old new : Armed D) → new.disk ≡ old.disk → new.refused ≡ old.refused → armed_faults faults new ≡ armed_faults faults old
same_count faults old new disk refused = ap (λ n. up_to_last (n + new.refused)) (ap faults disk) ∙ ap (λ n. up_to_last (faults old.disk + n)) refused

among_those : (reads : Option Image) (some all : Image → Type 0) → ((image : Image) → some image → all image) → IfSome reads some → IfSome reads all
among_those None some all of here = tt
among_those (Some now) some all of here = of now here

-- a crash takes one of the images
crash_takes : (reads : Option Image) (at_exit images : Image → Type 0) → IfSome reads at_exit → HasOneImage reads images → IsSome reads
    → (image : Image) → images image → at_exit image
crash_takes None at_exit images among one told image here = absurd (cc)
crash_takes (Some now) at_exit images among one told image here = subst at_exit (sym (one image here)) among

-- One run more before the others.
module _ (reads between : Option Image) (at_start at_exit meanwhile at_end : Image → Type 0) (left : Option (List ℕ)) (status : Status) (run : Run) (later : List Run)
    (ended : run.status ≡ Some status)
    (promised : IsPromised run.command reads at_start at_exit meanwhile left run.given run.taken status)
    (rest : ArePromised between at_exit at_end later) where
  same_run : record { command = run.command; given = run.given; taken = run.taken; status = Some status } ≡ run
  same_run = ap (λ (s : Option Status). record { command = run.command; given = run.given; taken = run.taken; status = s }) (sym ended)

  runs_after : IsSome reads → IsSome between → (genesis : Chain) (past : List Run) → Each at_start (IsLeftBy genesis past) → AreReplayed genesis past (run ∷ later) at_end
  runs_after told then genesis past by =
      let next : Each at_exit (IsLeftBy genesis (run ∷ past)) =
      subst (λ (r : Run). Each at_exit (IsLeftBy genesis (r ∷ past))) same_run (promised.survives told genesis past by) in
      let others = rest.from_past then genesis (run ∷ past) next in
      record {
        survives = others.survives;
        answers = (λ done. promised.answers told genesis past by (subst IsDone ended done), others.answers);
      }

  begins_store : IsSome reads → IsSome between → run.command ≡ Some Init → run.status ≡ Some Done → BeginsStore run later at_end
  begins_store told then init done =
      let now = told_image reads told in
      let status_is : status ≡ Done = cc in
      let new : IsNewStore run.given at_exit =
      subst (λ (c : Option Command). KeepsDisk c now.0 at_start at_exit meanwhile run.given run.taken status) init (promised.disk now.0 now.1) status_is in
      let chain = chain_of_genesis new.specification new.genesis in
      record {
        specification = new.specification;
        genesis = new.genesis;
        items = new.items;
        replayed = rest.from_past then chain [] (λ image here. (chain, refl, subst (StandsFor chain) (sym (new.one image here)) new.stands));
      }

  one_before : (IsSome reads → IsSome between) → ArePromised reads at_start at_end (run ∷ later)
  one_before tells = record {
    from_past = λ told. runs_after told (tells told);
    from_init = λ told. (begins_store told (tells told), rest.from_init (tells told));
  }

module _ {S K D : Type 0} (left : S → Option (List ℕ)) (input_faults : S → ℕ) (taken_by : K → Option (List ℕ)) (out_faults : K → ℕ)
    (reads_as : D → Option Image) (images : D → Image → Type 0) (moment : D → ℕ) (left_since : D → ℕ → Image → Type 0) (disk_faults : D → ℕ)
    (picks : D → ℕ → Image → Type 0) (picks_images : (disk : D) (pick : ℕ) (image : Image) → picks disk pick image → images disk image) where
  abbrev IsWith : Option Stop → Call S K → Call S K → Armed D → Armed D → Run → Type 0
  IsWith = IsRunWith left input_faults taken_by out_faults reads_as images moment left_since disk_faults picks

  abbrev IsCall : Call S K → Call S K → Armed D → Armed D → Run → Type 0
  IsCall = IsCallOf left input_faults taken_by out_faults reads_as images moment left_since disk_faults picks

  abbrev AreCalls : List (Call S K) → List (Call S K) → Armed D → Armed D → List Run → Type 0
  AreCalls = AreCallsOf left input_faults taken_by out_faults reads_as images moment left_since disk_faults picks

  -- what the disk reads as is known after a call where it was known before it
  told_with : (stop : Option Stop) (before after : Call S K) (old new : Armed D) (run : Run) → IsWith stop before after old new run → IsKnownAsBefore (reads_as old.disk) (reads_as new.disk)
  told_with None before after old new run is = is.told
  told_with (Some stop) before after old new run (armed, arms, exit, is, crashed) = crashed.told ∙ (is.told ∙ ap is_some arms.as_before.reads)

  -- what the calls after one promise, it promises with them
  one_call : (stop : Option Stop) (before after : Call S K) (old between new : Armed D) (run : Run) (later : List Run) → IsWith stop before after old between run
      → ArePromised (reads_as between.disk) (images between.disk) (images new.disk) later → ArePromised (reads_as old.disk) (images old.disk) (images new.disk) (run ∷ later)
  one_call None before after old between new run later is rest =
      one_before (reads_as old.disk) (reads_as between.disk) (images old.disk) (images between.disk) (left_since between.disk (moment old.disk)) (images new.disk) (left after.input) is.status run later
      is.ended is.promised rest (tells_on (reads_as old.disk) (reads_as between.disk) is.told)
  one_call (Some stop) before after old between new run later (armed, arms, exit, is, crashed) rest =
      let tells = tells_on (reads_as exit.disk) (reads_as between.disk) crashed.told in
      let among = among_those (reads_as between.disk) (picks exit.disk stop.pick) (images exit.disk) (picks_images exit.disk stop.pick) crashed.picked in
      let at_exit : ArePromised (reads_as exit.disk) (images exit.disk) (images new.disk) later =
      carried (reads_as exit.disk) (reads_as between.disk) (images exit.disk) (images between.disk) (images new.disk) later tells
      (λ told. crash_takes (reads_as between.disk) (images exit.disk) (images between.disk) among crashed.one_image (tells told)) rest in
      let over_armed : ArePromised (reads_as armed.disk) (images armed.disk) (images new.disk) (run ∷ later) =
      one_before (reads_as armed.disk) (reads_as exit.disk) (images armed.disk) (images exit.disk) (left_since exit.disk (moment armed.disk)) (images new.disk) (left after.input) is.status run later
      is.ended is.promised at_exit (tells_on (reads_as armed.disk) (reads_as exit.disk) is.told) in
      carried (reads_as old.disk) (reads_as armed.disk) (images old.disk) (images armed.disk) (images new.disk) (run ∷ later)
      (tells_on (reads_as old.disk) (reads_as armed.disk) (ap is_some arms.as_before.reads)) (λ told image here. (arms.as_before.images image).0 here) over_armed

  -- what a list of runs promises follows from what each of them does
  are_promised : (befores afters : List (Call S K)) (old new : Armed D) (runs : List Run) → AreCalls befores afters old new runs
      → ArePromised (reads_as old.disk) (images old.disk) (images new.disk) runs
  are_promised [] [] old new [] same = subst (λ (d : Armed D). ArePromised (reads_as old.disk) (images old.disk) (images d.disk) []) (sym same) (no_runs (reads_as old.disk) (images old.disk))
  are_promised (before ∷ befores) (after ∷ afters) old new (run ∷ runs) (between, is, rest) =
      one_call before.stop before after old between new run runs is (are_promised befores afters between new runs rest)
  are_promised [] [] old new (run ∷ runs) never = absurd never
  are_promised [] (after ∷ afters) old new runs never = absurd never
  are_promised (before ∷ befores) [] old new runs never = absurd never
  are_promised (before ∷ befores) (after ∷ afters) old new [] never = absurd never

  -- what the disk reads as is known after them where it was known before
  tell_on : (befores afters : List (Call S K)) (old new : Armed D) (runs : List Run) → AreCalls befores afters old new runs → IsKnownAsBefore (reads_as old.disk) (reads_as new.disk)
  tell_on [] [] old new [] same = ap (λ (d : Armed D). is_some (reads_as d.disk)) same
  tell_on (before ∷ befores) (after ∷ afters) old new (run ∷ runs) (between, is, rest) = tell_on befores afters between new runs rest ∙ told_with before.stop before after old between run is
  tell_on [] [] old new (run ∷ runs) never = absurd never
  tell_on [] (after ∷ afters) old new runs never = absurd never
  tell_on (before ∷ befores) [] old new runs never = absurd never
  tell_on (before ∷ befores) (after ∷ afters) old new [] never = absurd never

  -- one run more after the others
  one_after : (befores afters : List (Call S K)) (before after : Call S K) (old between new : Armed D) (runs : List Run) (run : Run)
      → AreCalls befores afters old between runs → IsCall before after between new run
      → AreCalls (befores ++ before ∷ []) (afters ++ after ∷ []) old new (runs ++ run ∷ [])
  one_after [] [] before after old between new [] run same is = (new, subst (λ (d : Armed D). IsCall before after d new run) same is, refl)
  one_after (first ∷ befores) (then ∷ afters) before after old between new (one ∷ runs) run (next, was, rest) is =
      (next, was, one_after befores afters before after next between new runs run rest is)
  one_after [] [] before after old between new (one ∷ runs) run never is = absurd never
  one_after [] (then ∷ afters) before after old between new runs run never is = absurd never
  one_after (first ∷ befores) [] before after old between new runs run never is = absurd never
  one_after (first ∷ befores) (then ∷ afters) before after old between new [] run never is = absurd never

  -- One call more of a list was run: the others are as they were.
  pub next_call : (befores now : List (Call S K)) (at : ℕ) (before after any : Call S K) (old between new : Armed D) → at < length now → length now ≡ length befores
      → drop at now ≡ drop at befores → before ≡ get_or now at any
      → (runs : List Run) × AreCalls (take at befores) (take at now) old between runs → (run : Run) × IsCall before after between new run
      → ((runs : List Run) × AreCalls (take (at + 1) befores) (take (at + 1) (set now at after)) old new runs)
      × (length (set now at after) ≡ length befores) × (drop (at + 1) (set now at after) ≡ drop (at + 1) befores)
  next_call befores now at before after any old between new within long same is runs run =
      let both : get_or now at any ∷ drop (at + 1) now ≡ get_or befores at any ∷ drop (at + 1) befores =
      sym (drop_more now at any within) ∙ same ∙ drop_more befores at any (omega (arith, within, long)) in
      let first : get_or befores at any ≡ before = sym (is ∙ ap (λ (l : List (Call S K)). get_or l 0 any) both) in
      let taken : take (at + 1) befores ≡ take at befores ++ before ∷ [] =
      take_more befores at any (omega (arith, within, long)) ∙ ap (λ (call : Call S K). take at befores ++ call ∷ []) first in (
        (
          runs.0 ++ run.0 ∷ [],
          subst (λ (l : List (Call S K)). AreCalls l (take (at + 1) (set now at after)) old new (runs.0 ++ run.0 ∷ [])) (sym taken)
              (subst (λ (l : List (Call S K)). AreCalls (take at befores ++ before ∷ []) l old new (runs.0 ++ run.0 ∷ [])) (sym (take_more_set now at after within))
              (one_after (take at befores) (take at now) before after old between new runs.0 run.0 runs.1 run.1)),
        ),
        length-set now at after ∙ long,
        drop-set-lt (at + 1) now at after (omega arith) ∙ ap (drop 1) both,
      )

  all_runs : (befores now : List (Call S K)) (at : ℕ) (old new : Armed D) (runs : List Run) → length now ≤ at → length now ≡ length befores
      → AreCalls (take at befores) (take at now) old new runs → AreCalls befores now old new runs
  all_runs befores now at old new runs past long are =
      subst (λ (l : List (Call S K)). AreCalls l now old new runs) (take_all at befores (omega (arith, past, long)))
      (subst (λ (l : List (Call S K)). AreCalls (take at befores) l old new runs) (take_all at now past) are)

  -- All calls were run.
  pub all_calls : (befores now : List (Call S K)) (at : ℕ) (old new : Armed D) → length now ≤ at → length now ≡ length befores
      → (runs : List Run) × AreCalls (take at befores) (take at now) old new runs
      → (runs : List Run) × AreCalls befores now old new runs × ArePromised (reads_as old.disk) (images old.disk) (images new.disk) runs
  all_calls befores now at old new past long runs =
      let are = all_runs befores now at old new runs.0 past long runs.1 in
      (runs.0, are, are_promised befores now old new runs.0 are)

  pub all_tell : (befores now : List (Call S K)) (at : ℕ) (old new : Armed D) → length now ≤ at → length now ≡ length befores
      → (runs : List Run) × AreCalls (take at befores) (take at now) old new runs → IsKnownAsBefore (reads_as old.disk) (reads_as new.disk)
  all_tell befores now at old new past long runs = tell_on befores now old new runs.0 (all_runs befores now at old new runs.0 past long runs.1)
