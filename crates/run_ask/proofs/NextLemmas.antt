-- A line that is read byte by byte.
use Rattle.std.proofs.Common.{◌≡◌, ℕ, ◌≤◌, Bool, true, false, List, [], ◌∷◌, ◌++◌, length, Vec, Global, refl, ap, sym, ◌∙◌, subst, arith, length-append}
use Rattle.std.specs.Prelude.{Option, Ok, ◌==◌, if◌then◌else◌}
use Rattle.std.specs.Io.KnownBytes.{IsAtEnd}
use Rattle.std.proofs.lemmas.Bool.{eqb-true}
use Rattle.ask_defs.specs.Lines.{line_limit, IsLine}
use Rattle.run_ask.specs.Reading.{IsBegun, IsNextLine, last_of}
use Rattle.run_ask.specs.declared.next.NextLine.{NextLine}
use Rattle.run_ask.specs.declared.next.NextLine.TheVariants.{Last, End}
use Rattle.run_ask.proofs.LineLemmas.{no_feed_push}

pub line_limit-is : line_limit ≡ 2097154
unfolding line_limit
line_limit-is = refl

pub begun_none : IsBegun []
begun_none = record { unbroken = refl; short = omega arith }

-- one byte more
pub begun_more : (line : List ℕ) (byte : ℕ) → IsBegun line → length line ≤ 2097154 → (byte ≡ 10 → ⊥) → IsBegun (line ++ byte ∷ [])
begun_more line byte begun short other = record {
  unbroken = no_feed_push line byte begun.unbroken other;
  short = omega (arith, short, line_limit-is, length-append line (byte ∷ []));
}

-- a line that is short enough
pub is_line : (line : List ℕ) → IsBegun line → length line ≤ 2097154 → IsLine line
is_line line begun short = record { unbroken = begun.unbroken; short = omega (arith, short, line_limit-is) }

-- the input ended after it
pub ended : (left : Option (List ℕ)) (line : Vec ℕ Global) (given : List ℕ) (result : NextLine) → result ≡ last_of line → given ≡ line.items → IsBegun line.items
    → length line.items ≤ 2097154 → IsAtEnd left → IsNextLine left (Ok result) given
ended left line given result is same begun short at_end =
    subst (λ (r : NextLine). IsNextLine left (Ok r) given) (sym is) (by_length line.items refl (length line.items == 0) refl)
  where
    by_length : (items : List ℕ) → line.items ≡ items → (t : Bool) → (length items == 0) ≡ t → IsNextLine left (Ok (if t then End else Last line)) given
    by_length [] none true is = (same ∙ none, at_end)
    by_length [] none false is = absurd (cc is)
    by_length (b ∷ bs) some true is = absurd (omega (arith, eqb-true (length (b ∷ bs)) 0 is))
    by_length (b ∷ bs) some false is = (record { is_line = is_line line.items begun short; to_end = at_end }, omega (arith, ap length some), same)
