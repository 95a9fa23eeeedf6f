-- A call on the file of an area, which is taken from its place and put back.
use Rattle.std.proofs.Common.{◌≡◌, false, Option, None, Some, Result, Ok, Err, refl, sym, subst, ◌∙◌, ap}
use Rattle.std.specs.Prelude.{IfSome, IfOk, OnErr, OnOk, IsErr, IsOk, IsSome, is_err}
use Rattle.outside.specs.declared.disk.Area.{Area}
use Rattle.outside.specs.declared.disk.Area.TheVariants.{Log, SnapA, SnapB}
use Rattle.outside.specs.Causes.{Rose}
use Rattle.outside_os.specs.Files.{Held, OpenFile, Opened, Stays, OthersStay, IsLent, KeepsAll, Reaches, FailsAt, file_of, with_file}

pub ok_then : {A E : Type 0} (answer : Result A E) (P Q : A → Type 0) → ((a : A) → P a → Q a) → IfOk answer P → IfOk answer Q
ok_then (Ok a) P Q then holds = then a holds
ok_then (Err _) P Q then holds = tt

pub done_then : {A E : Type 0} (answer : Result A E) (P Q : Type 0) → (P → Q) → OnOk answer P → OnOk answer Q
done_then (Ok a) P Q then holds = then holds
done_then (Err _) P Q then holds = tt

pub err_then : {A E : Type 0} (answer : Result A E) (P : Type 0) → (IsErr answer → P) → OnErr answer P
err_then (Ok a) P then = tt
err_then (Err _) P then = then refl

pub when_err : {A E : Type 0} (answer : Result A E) (P : Type 0) → OnErr answer P → IsErr answer → P
when_err (Ok a) P holds fails = absurd (cc)
when_err (Err _) P holds fails = holds

file_of_with : (area : Area) (file : Option OpenFile) (opened : Opened) → file_of area (with_file area file opened) ≡ file
file_of_with Log file opened = refl
file_of_with SnapA file opened = refl
file_of_with SnapB file opened = refl

pub doubt_with : (area : Area) (file : Option OpenFile) (opened : Opened) → (with_file area file opened).is_doubtful ≡ opened.is_doubtful
doubt_with Log file opened = refl
doubt_with SnapA file opened = refl
doubt_with SnapB file opened = refl

others_with : (area : Area) (file : Option OpenFile) (old opened : Opened) → OthersStay area old opened → OthersStay area old (with_file area file opened)
others_with Log file old opened others = record { log = λ apart. absurd (apart refl); snap_a = others.snap_a; snap_b = others.snap_b }
others_with SnapA file old opened others = record { log = others.log; snap_a = λ apart. absurd (apart refl); snap_b = others.snap_b }
others_with SnapB file old opened others = record { log = others.log; snap_a = others.snap_a; snap_b = λ apart. absurd (apart refl) }

module _ (area : Area) (lent after : OpenFile) (old mid new : Opened) (does : Held → Held → Type 0) where
  pub reaches : IsLent area lent old mid → new ≡ with_file area (Some after) mid → does lent.held after.held → Reaches area does old new
  reaches lending is step = record {
    before = lent;
    after = after;
    was = lending.was;
    is = ap (file_of area) is ∙ file_of_with area (Some after) mid;
    step = step;
    others = subst (OthersStay area old) (sym is) (others_with area (Some after) old mid lending.others);
    no_doubt = lending.no_doubt;
    still_none = ap (λ (opened : Opened). opened.is_doubtful) is ∙ doubt_with area (Some after) mid ∙ lending.still_none;
  }

  pub fails_at : IfSome (file_of area old) (λ before. before ≡ lent) → OthersStay area old mid → old.is_doubtful ≡ false
      → new ≡ with_file area (Some after) mid → does lent.held after.held → Rose lent.failures after.failures → FailsAt area does old new
  fails_at was others no_doubt is step rose = record {
    file = put_back (file_of area old) was;
    others = subst (OthersStay area old) (sym is) (others_with area (Some after) old mid others);
    doubtful = λ doubt. absurd (cc);
  }
    where
      put_back : (file : Option OpenFile) → IfSome file (λ before. before ≡ lent) → IfSome file (λ before. (now : OpenFile) × (file_of area new ≡ Some now)
          × does before.held now.held × (old.is_doubtful ≡ false → IsSome old.log → Rose before.failures now.failures))
      put_back None same = tt
      put_back (Some before) same = (
        after,
        ap (file_of area) is ∙ file_of_with area (Some after) mid,
        subst (λ (file : OpenFile). does file.held after.held) (sym same) step,
        λ doubt log. subst (λ (file : OpenFile). Rose file.failures after.failures) (sym same) rose,
      )

-- where the file was not reached
pub fails_before : (area : Area) (old new : Opened) (does : Held → Held → Type 0) → ((held : Held) → does held held) → KeepsAll area old new → FailsAt area does old new
fails_before area old new does same keeps = record {
  file = unchanged (file_of area old) keeps.file;
  others = keeps.others;
  doubtful = keeps.doubtful;
}
  where
    unchanged : (file : Option OpenFile) → IfSome file (λ before. (file_of area new ≡ Some before) × (old.is_doubtful ≡ false → IsSome old.log → ⊥))
        → IfSome file (λ before. (now : OpenFile) × (file_of area new ≡ Some now) × does before.held now.held
        × (old.is_doubtful ≡ false → IsSome old.log → Rose before.failures now.failures))
    unchanged None kept = tt
    unchanged (Some before) kept = (before, kept.0, same before.held, λ doubt log. absurd (kept.1 doubt log))

pub done_from : {A E : Type 0} (answer : Result A E) (P : Type 0) → (IsOk answer → P) → OnOk answer P
done_from (Ok a) P then = then refl
done_from (Err _) P then = tt

pub when_done : {A E : Type 0} (answer : Result A E) (P : Type 0) → OnOk answer P → IsOk answer → P
when_done (Ok a) P holds done = holds
when_done (Err _) P holds done = absurd (cc)

-- the files are the same, whatever is known of failed syncs
others_as : (area : Area) (old mid now : Opened) → now.log ≡ mid.log → now.snap_a ≡ mid.snap_a → now.snap_b ≡ mid.snap_b → OthersStay area old mid → OthersStay area old now
others_as area old mid now log snap_a snap_b others = record {
  log = λ apart. subst (Stays old.log) (sym log) (others.log apart);
  snap_a = λ apart. subst (Stays old.snap_a) (sym snap_a) (others.snap_a apart);
  snap_b = λ apart. subst (Stays old.snap_b) (sym snap_b) (others.snap_b apart);
}

pub lent_as : (area : Area) (file : OpenFile) (old mid now : Opened) → now.log ≡ mid.log → now.snap_a ≡ mid.snap_a → now.snap_b ≡ mid.snap_b → now.is_doubtful ≡ false
    → IsLent area file old mid → IsLent area file old now
lent_as area file old mid now log snap_a snap_b still lending = record {
  was = lending.was;
  others = others_as area old mid now log snap_a snap_b lending.others;
  no_doubt = lending.no_doubt;
  still_none = still;
}

pub others_lent : (area : Area) (file : OpenFile) (old mid now : Opened) → now.log ≡ mid.log → now.snap_a ≡ mid.snap_a → now.snap_b ≡ mid.snap_b
    → IsLent area file old mid → OthersStay area old now
others_lent area file old mid now log snap_a snap_b lending = others_as area old mid now log snap_a snap_b lending.others

pub no_err : {A E : Type 0} (answer : Result A E) → IsOk answer → is_err answer ≡ false
no_err (Ok a) done = refl
no_err (Err _) done = absurd (cc)
