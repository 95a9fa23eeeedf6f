use Rattle.std.proofs.Common.{◌≡◌, arith, sym, ◌∙◌, length}
use Rattle.chain_defs.specs.Molecule.{header_number}
use Rattle.mol_schema.specs.Layout.{IsLaidOut}
use Rattle.mol_schema.proofs.Reading.{layout-short, layout-empty, header-within}
use Rattle.mol_schema.proofs.layout.is_laid_out_by.Goals as goal
use Rattle.mol_schema.proofs.layout.is_laid_out_by.Goals.{then-header-len-via-then-header-len, then-header-len-via-else-header-len+then-start-header}

pub returns-then-len-lt8 : goal.returns-then-len-lt8
returns-then-len-lt8 c =
    let bytes = c.args.bytes.now in
    let size : header_number bytes 0 ≡ length bytes = sym c.read_u32.ensures.value ∙ c.if-read_u32-len.false in
    let empty : length bytes ≡ 4 → IsLaidOut bytes = λ len. layout-empty bytes len size in
    let short : IsLaidOut bytes → length bytes ≡ 4 = λ laid. layout-short bytes laid c.if-len-lt8.true in
    grind arith

pub returns-then-header-len : goal.returns-then-header-len
returns-then-header-len c = (
  λ no. absurd cc,
  λ laid.
      elim c.then-header-len.branch [
        | then-header-len-via-then-header-len w ↦ absurd (omega (arith, header-within c.args.bytes.now laid, c.requires.counted))
        | then-header-len-via-else-header-len+then-start-header w ↦ absurd (grind (arith, laid.header, c.requires.counted, w.start.ensures))
      ],
)

pub returns : goal.returns
returns c =
    let bytes = c.args.bytes.now in (
      λ yes. record {
        whole = omega arith;
        size = sym c.read_u32.ensures.value ∙ c.if-read_u32-len.false;
        header = grind (arith, c.requires.counted, c.start.ensures);
        rises = λ i lt. c.rises.ensures.0 yes i (omega (arith, c.requires.counted));
      },
      λ laid. c.rises.ensures.1 (λ i lt. laid.rises i (omega (arith, c.requires.counted))),
    )
