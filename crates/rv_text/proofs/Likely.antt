-- A line that is an instruction's text is read as its name and its operands.
use Rattle.std.proofs.Common.{◌≡◌, ℕ, List, take, drop, length, Some, ap, ◌∙◌}
use Rattle.std.proofs.Math.Seq.{take-append_seam, drop-append_seam}
use Rattle.machine_defs.specs.declared.ins.Ins.{Ins}
use Rattle.machine_defs.specs.Instruction.{FitsFormat}
use Rattle.rv_text.specs.declared.names.TheConstants.{TEMPLATES}
use Rattle.machine_defs.specs.declared.operands.Operands.{Operands}
use Rattle.machine_defs.specs.Text.{Form, form, form_of, operands_text, show}
use Rattle.rv_text.specs.Reading.{space_at, named_in, numbers_in, filled}
use Rattle.rv_text.proofs.Templates.{blank, template-of}
use Rattle.rv_text.proofs.ReadBack.{read-back, after-name, spaced}
use Rattle.rv_text.proofs.WordLaws.{fits-is}

pub record IsRead (i : Ins) (name rest : List ℕ) : Type 0 where
  pub template : Ins
  pub found : named_in TEMPLATES name ≡ Some template
  pub word : (form_of template).word ≡ (form_of i).word
  pub operands : filled (form_of template).operands (numbers_in rest) ≡ (form_of i).operands

pub is-read : (i : Ins) (line name rest : List ℕ) → FitsFormat i → line ≡ show i → name ≡ take (space_at line) line
    → rest ≡ drop (space_at line) line → IsRead i name rest
unfolding show
is-read i line name rest fits text n r =
    let t = template-of i in
    let own : List ℕ = (form_of i).name in
    let tail : List ℕ = operands_text (form_of i).operands in
    let at : space_at line ≡ length own = ap space_at text ∙ after-name own tail t.no_space (spaced (form_of i).operands) in
    let name' : name ≡ own = n ∙ ap (λ k. take k line) at ∙ ap (take (length own)) text ∙ take-append_seam own tail in
    let rest' : rest ≡ tail = r ∙ ap (λ k. drop k line) at ∙ ap (drop (length own)) text ∙ drop-append_seam own tail in
    record {
      template = t.template;
      found = ap (named_in TEMPLATES) name' ∙ t.found;
      word = t.word;
      operands = ap (λ o. filled o (numbers_in rest)) t.operands ∙ ap (λ x. filled (blank (form_of i).operands) (numbers_in x)) rest'
          ∙ read-back (form_of i).operands (fits-is i fits);
    }

-- what the reader fills in is the instruction's row, with its operands
pub filled-is : (i : Ins) (name rest : List ℕ) (t : Ins) (n : List ℕ) (w : ℕ) (o : Operands) (r : Operands) → IsRead i name rest
    → named_in TEMPLATES name ≡ Some t → form n w o ≡ form_of t → r ≡ filled o (numbers_in rest)
    → (w ≡ (form_of i).word) × (r ≡ (form_of i).operands)
filled-is i name rest t n w o r read found row is =
    let same : t ≡ read.template = let e = read.found in cc in (
      ap (λ (x : Form). x.word) row ∙ ap (λ x. (form_of x).word) same ∙ read.word,
      is ∙ ap (λ x. filled x (numbers_in rest)) (ap (λ (x : Form). x.operands) row ∙ ap (λ x. (form_of x).operands) same) ∙ read.operands,
    )
