-- An input that is read whole: which bytes the source gave for it.
use Rattle.std.specs.Prelude.{◌≡◌, ℕ, ◌≤◌, List, ◌++◌, map, length, Option, Some, Result, Ok, Err, Vec}
use Rattle.std.specs.declared.alloc.Global.{Global}
use Rattle.std.specs.List.{concat}
use Rattle.std.specs.Io.KnownBytes.{IsAtEnd}
use Rattle.report_defs.specs.Items.{AreItems, split_of, end_offset, whole_limits, end_of_whole, ReadsNoFurther}
use Rattle.report_defs.specs.declared.end.End.{End}
use Rattle.report_defs.specs.declared.end.End.TheVariants.{AtEnd, Cut, BadSize, Extra}
use Rattle.report_defs.specs.declared.status.Status.{Status}
use Rattle.run_text.specs.Items.{IsReadingStop}
use Rattle.run_text.specs.declared.whole.Whole.{Whole}
use Rattle.run_text.specs.declared.whole.Whole.TheVariants as wholes

-- Items within the limits were given, the needed ones among them, and nothing after them.
pub record IsWhole (limits : List ℕ) (needed : ℕ) (left : Option (List ℕ)) (items : List (List ℕ)) (given : List ℕ) : Type 0 where
  pub same : given ≡ concat items
  pub all : AreItems (whole_limits limits) 0 items
  pub count : needed ≤ length items
  pub to_end : IsAtEnd left

-- The input ends otherwise, whatever follows what was given.
pub record EndsEarly (limits : List ℕ) (needed : ℕ) (left : Option (List ℕ)) (end : End) (offset : ℕ) (given : List ℕ) : Type 0 where
  pub early : end ≡ AtEnd → ⊥
  pub ends : (more : List ℕ) → left ≡ Some more → end_of_whole needed (split_of (whole_limits limits) (given ++ more)) ≡ end
  pub there : (more : List ℕ) → left ≡ Some more → end_offset (split_of (whole_limits limits) (given ++ more)) ≡ offset
  pub enough : offset ≤ length given
  pub no_further : ReadsNoFurther (whole_limits limits) given

abbrev pub IsReadWhole : List ℕ → ℕ → Option (List ℕ) → Result Whole Status → List ℕ → Type 0
IsReadWhole limits needed left (Ok (wholes.Items items)) given = IsWhole limits needed left (map (λ item. item.items) items.items) given
IsReadWhole limits needed left (Ok (wholes.Early end offset)) given = EndsEarly limits needed left end offset given
IsReadWhole limits needed left (Err status) given = IsReadingStop status × ReadsNoFurther (whole_limits limits) given

-- what is answered where the reading ends so at an offset, after these items
abbrev pub whole_at : Vec (Vec ℕ Global) Global → ℕ → End → Whole
whole_at items offset AtEnd = wholes.Items items
whole_at items offset Cut = wholes.Early Cut offset
whole_at items offset BadSize = wholes.Early BadSize offset
whole_at items offset Extra = wholes.Early Extra offset
