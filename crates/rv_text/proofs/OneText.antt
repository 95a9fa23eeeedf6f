-- At most one instruction that fits has a text: what is read of the text is its row and its operands, and these give a word that encodes it.
use Rattle.std.proofs.Common.{◌≡◌, ℕ, ℤ, ◌+◌, ◌*◌, ◌/◌, ◌%◌, ◌^◌, ◌<◌, List, take, drop, Some, refl, sym, ap, ◌∙◌, subst, arith}
use Rattle.machine_defs.specs.declared.ins.Ins.{Ins}
use Rattle.machine_defs.specs.Instruction.{FitsFormat, IsImmediate}
use Rattle.machine_defs.specs.declared.operands.Operands.{Operands}
use Rattle.machine_defs.specs.declared.operands.Operands.TheVariants.{Registers, Immediate, Shift, WordShift, Address, Store, Branch, Jump, Upper, Bare}
use Rattle.machine_defs.specs.Text.{form_of, show, IsWord}
use Rattle.machine_defs.specs.TextLaws.{OneInstructionHasText}
use Rattle.rv_text.specs.declared.names.TheConstants.{TEMPLATES}
use Rattle.rv_text.specs.Reading.{space_at, named_in, numbers_in, filled}
use Rattle.rv_text.specs.Words.{FitsOperands, HasBits, AreBitsOf}
use Rattle.rv_text.proofs.Likely.{is-read, IsRead}
use Rattle.rv_text.proofs.WordLaws.{fits-is, word-is}

-- ---- What fits has bits

bits-of : (width unit : ℕ) (z : ℤ) → (h : IsImmediate width unit z) → AreBitsOf width unit z h.0
bits-of width unit z h = record { bound = h.1; whole = h.2; number = h.3 }

has-bits : (o : Operands) → FitsOperands o → (bits : ℕ) × HasBits o bits
has-bits (Registers d a b) h = (_, (record { first = h.0.0; second = h.0.1; sum = refl }, h.0.2))
has-bits (Immediate d a z) h = (_, (h.1.0, bits-of 12 1 z h.1, record { first = h.0.0; second = h.0.1; sum = refl }))
has-bits (Shift d a z) h = (_, (h.1.0, h.1.1, h.1.2, record { first = h.0.0; second = h.0.1; sum = refl }))
has-bits (WordShift d a z) h = (_, (h.1.0, h.1.1, h.1.2, record { first = h.0.0; second = h.0.1; sum = refl }))
has-bits (Address d a z) h = (_, (h.1.0, bits-of 12 1 z h.1, record { first = h.0.0; second = h.0.1; sum = refl }))
has-bits (Store a b z) h =
    let bound : h.1.0 < 4096 = h.1.1 in
    (_, (h.1.0, bits-of 12 1 z h.1, record { first = omega arith; second = h.0.0; sum = refl }, h.0.1))
has-bits (Branch a b z) h =
    let bound : h.1.0 < 8192 = h.1.1 in
    (_, (h.1.0, bits-of 13 2 z h.1, record { first = omega arith; second = h.0.0; sum = refl }, h.0.1))
has-bits (Jump d z) h = (_, (h.1.0, bits-of 21 2 z h.1, h.0, refl))
has-bits (Upper d z) h = (_, (h.1.0, bits-of 32 4096 z h.1, h.0, refl))
has-bits Bare h = (0, refl)

-- ---- What is read of a text

some-ins : (a b : Ins) → Some a ≡ Some b → a ≡ b
some-ins a b e = cc

some-pair : (a b : Ins × ℕ) → Some a ≡ Some b → a ≡ b
some-pair a b e = cc

read-of : (i : Ins) (line : List ℕ) → FitsFormat i → line ≡ show i → IsRead i (take (space_at line) line) (drop (space_at line) line)
read-of i line fits text = is-read i line (take (space_at line) line) (drop (space_at line) line) fits text refl refl

-- an instruction's word is decoded as it alone
decoded-same : (i j : Ins) (word : ℕ) → IsWord i word → IsWord j word → i ≡ j
decoded-same i j word a b = ap (λ (d : Ins × ℕ). d.0) (some-pair (i, 4) (j, 4) (sym a.1 ∙ b.1))

read-same : (i j : Ins) (name rest : List ℕ) → FitsFormat i → IsRead i name rest → IsRead j name rest → i ≡ j
read-same i j name rest fits a b =
    let template : a.template ≡ b.template = some-ins a.template b.template (sym a.found ∙ b.found) in
    let word : (form_of i).word ≡ (form_of j).word = sym a.word ∙ ap (λ t. (form_of t).word) template ∙ b.word in
    let operands : (form_of i).operands ≡ (form_of j).operands =
    sym a.operands ∙ ap (λ t. filled (form_of t).operands (numbers_in rest)) template ∙ b.operands in
    let coded = has-bits (form_of i).operands (fits-is i fits) in
    let sum : ((form_of i).word + coded.0) % 4294967296 ≡ ((form_of j).word + coded.0) % 4294967296 = ap (λ n. (n + coded.0) % 4294967296) word in
    decoded-same i j (((form_of i).word + coded.0) % 4294967296) (word-is i coded.0 (((form_of i).word + coded.0) % 4294967296) coded.1 refl)
    (word-is j coded.0 (((form_of i).word + coded.0) % 4294967296) (subst (λ o. HasBits o coded.0) operands coded.1) sum)

pub one-text : OneInstructionHasText
one-text i j fits other text = read-same i j (take (space_at (show i)) (show i)) (drop (space_at (show i)) (show i)) fits (read-of i (show i) fits refl) (read-of j (show i) other text)
