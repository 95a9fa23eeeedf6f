-- What the parts of the reader give. It takes numbers where it finds digits; that the line is the instruction's text is
-- known at the end, by comparing the two.
use Rattle.std.specs.Prelude.{ℕ, ℤ, pos, ◌-ℤ◌, ◌+◌, ◌-◌, ◌*◌, ◌%◌, ◌==◌, nat_lt, nat_le, ◌&&◌, Bool, List, [], ◌∷◌, Option, Some, None, if◌then◌else◌}
use Rattle.std.specs.List.{list_any}
use Rattle.std.specs.Str.{bytes_eq}
use Rattle.machine_defs.specs.declared.ins.Ins.{Ins}
use Rattle.machine_defs.specs.Instruction.{sign_extended}
use Rattle.machine_defs.specs.Text.{form_of}
use Rattle.rv_text.specs.declared.read.Numbers.{Numbers}
use Rattle.machine_defs.specs.declared.operands.Operands.{Operands}
use Rattle.machine_defs.specs.declared.operands.Operands.TheVariants.{Registers, Immediate, Shift, WordShift, Address, Store, Branch, Jump, Upper, Bare}

-- the first of these instructions that has the name
unfoldable pub named_in : List Ins → List ℕ → Option Ins
named_in [] name = None
named_in (i ∷ rest) name = if bytes_eq (form_of i).name name then Some i else named_in rest name

-- where the first space stands, or the end
unfoldable pub space_at : List ℕ → ℕ
space_at [] = 0
space_at (c ∷ cs) = if c == 32 then 0 else space_at cs + 1

abbrev pub is_digit : ℕ → Bool
is_digit c = nat_le 48 c && nat_le c 57

-- what is left from the first digit on
unfoldable pub from_digit : List ℕ → List ℕ
from_digit [] = []
from_digit (c ∷ cs) = if is_digit c then c ∷ cs else from_digit cs

-- the number that the digits at the start write, after those of `n`, and what follows it; at most eight are read
unfoldable pub leading : ℕ → List ℕ → ℕ × List ℕ
leading n [] = (n, [])
leading n (c ∷ cs) = if is_digit c && nat_lt n 10000000 then leading (n * 10 + (c - 48)) cs else (n, c ∷ cs)

abbrev pub next_number : List ℕ → ℕ × List ℕ
next_number text = leading 0 (from_digit text)

unfoldable pub has_minus : List ℕ → Bool
has_minus text = list_any (λ c. c == 45) text

unfoldable pub numbers_in : List ℕ → Numbers
numbers_in text =
    let one = next_number text in
    let two = next_number one.1 in
    let three = next_number two.1 in
    record { first = one.0; second = two.0; third = three.0; is_negative = has_minus text }

abbrev pub signed : Bool → ℕ → ℤ
signed negative n = if negative then (pos 0 -ℤ pos n) else pos n

-- operands of the template's form
unfoldable pub filled : Operands → Numbers → Operands
filled (Registers _ _ _) n = Registers (n.first % 32) (n.second % 32) (n.third % 32)
filled (Immediate _ _ _) n = Immediate (n.first % 32) (n.second % 32) (signed n.is_negative n.third)
filled (Shift _ _ _) n = Shift (n.first % 32) (n.second % 32) (signed n.is_negative n.third)
filled (WordShift _ _ _) n = WordShift (n.first % 32) (n.second % 32) (signed n.is_negative n.third)
filled (Address _ _ _) n = Address (n.first % 32) (n.third % 32) (signed n.is_negative n.second)
filled (Store _ _ _) n = Store (n.third % 32) (n.first % 32) (signed n.is_negative n.second)
filled (Branch _ _ _) n = Branch (n.first % 32) (n.second % 32) (signed n.is_negative n.third)
filled (Jump _ _) n = Jump (n.first % 32) (signed n.is_negative n.second)
filled (Upper _ _) n = Upper (n.first % 32) (sign_extended 32 (n.second % 1048576 * 4096))
filled Bare n = Bare

-- where the first line feed stands, or the end
unfoldable pub line_end : List ℕ → ℕ
line_end [] = 0
line_end (c ∷ cs) = if c == 10 then 0 else line_end cs + 1
