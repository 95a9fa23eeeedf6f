use Rattle.std.proofs.Common.{◌≡◌, ℕ, ◌+◌, ◌<◌, List, [], ◌∷◌, ◌++◌, length, drop, slice_index_or, sym, ap, ◌∙◌, append_assoc, arith, add-one, drop-cons}
use Rattle.std.specs.Prelude.{sum}
use Rattle.std.specs.Int.{w32, to_le_bytes}
use Rattle.std.proofs.lemmas.List.{append-nil, drop_all}
use Rattle.mol_write.proofs.Fields.{offsets_by, offsets-lengths, sum-cons}
use Rattle.mol_write.proofs.builder.push_offsets.Goals as goal

-- the lengths from place i on
left : (lengths : List ℕ) (i : ℕ) → i < length lengths → drop i lengths ≡ slice_index_or lengths i 0 ∷ drop (i + 1) lengths
left lengths i within = rw add-one (drop-cons lengths i 0 within)

sum-left : (lengths : List ℕ) (i : ℕ) → i < length lengths → sum (drop i lengths) ≡ slice_index_or lengths i 0 + sum (drop (i + 1) lengths)
sum-left lengths i within = ap sum (left lengths i within) ∙ sum-cons (slice_index_or lengths i 0) (drop (i + 1) lengths)

offsets-left : (at : ℕ) (lengths : List ℕ) (i : ℕ) → i < length lengths
    → offsets_by at (drop i lengths) ≡ to_le_bytes w32 at ++ offsets_by (at + slice_index_or lengths i 0) (drop (i + 1) lengths)
unfolding offsets_by
offsets-left at lengths i within = ap (offsets_by at) (left lengths i within)

offsets-end : (at : ℕ) (lengths : List ℕ) (i : ℕ) → i ≡ length lengths → offsets_by at (drop i lengths) ≡ []
unfolding offsets_by
offsets-end at lengths i end = ap (offsets_by at) (drop_all i lengths (omega arith))

pub overflow_add-at : goal.overflow_add-at
overflow_add-at c = omega (arith, c.requires, c.offsets.invariant.0, sum-left c.args.lengths.now c.offsets.length-index c.offsets-test.true)

pub offsets-preserved : goal.offsets-preserved
offsets-preserved c =
    let lengths : List ℕ = c.args.lengths.now in
    let i = c.offsets.length-index in
    let at = c.offsets.at in
    let within : i < length lengths = c.offsets-test.true in
    let others = offsets_by (at + slice_index_or lengths i 0) (drop (i + 1) lengths) in
    let written : c.extend_from_slice.new.self.items ≡ c.offsets.bytes.items ++ to_le_bytes w32 at = c.in_ok-extend_from_slice.ensures.items ∙ ap (λ (l : List ℕ). c.offsets.bytes.items ++ l) c.to_le_bytes.ensures in (
      omega (arith, c.offsets.invariant.0, sum-left lengths i within),
      ap (λ (l : List ℕ). l ++ others) written
          ∙ append_assoc c.offsets.bytes.items (to_le_bytes w32 at) others
          ∙ ap (λ (l : List ℕ). c.offsets.bytes.items ++ l) (sym (offsets-left at lengths i within))
          ∙ c.offsets.invariant.1,
    )

pub returns : goal.returns
returns c =
    let lengths : List ℕ = c.args.lengths.now in
    let at_end : c.offsets.length-index ≡ length lengths = omega (arith, c.offsets-test.false, c.offsets.auto.length-index-end) in
    λ parts is. sym (append-nil c.offsets.bytes.items)
    ∙ ap (λ (l : List ℕ). c.offsets.bytes.items ++ l) (sym (offsets-end c.offsets.at lengths c.offsets.length-index at_end))
    ∙ c.offsets.invariant.1
    ∙ ap (λ (l : List ℕ). c.args.bytes.now.items ++ l) (ap (offsets_by c.args.start) (sym is) ∙ sym (offsets-lengths c.args.start parts))
