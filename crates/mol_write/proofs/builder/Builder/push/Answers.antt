use Rattle.std.proofs.Common.{◌≡◌, ℕ, ◌+◌, List, [], ◌∷◌, ◌++◌, length, ap, ◌∙◌, arith, length-append}
use Rattle.std.specs.Prelude.{sum}
use Rattle.chain_defs.specs.Molecule.{full_size}
use Rattle.mol_write.specs.Builder.{fields_by_lengths}
use Rattle.mol_write.proofs.Fields.{sum-push, fields_by_lengths-push, full_size-push, full_size-fields_by_lengths}
use Rattle.mol_write.proofs.builder.Builder.push.Goals as goal

pub invariant_of-self-2 : goal.invariant_of-self-2
invariant_of-self-2 c =
    let sizes : List ℕ = c.self.inside.lengths.items in
    let content : List ℕ = c.self.inside.content.items in
    let field : List ℕ = c.args.field.now in
    let more_sizes : c.push.new.self.items ≡ sizes ++ length field ∷ [] = (rw c.unwrap.ensures at c.push.ensures.items) ∙ ap (λ (l : List ℕ). l ++ length field ∷ []) c.reserve.ensures.items in
    let more_content : c.extend_from_slice.new.self.items ≡ content ++ field = c.in_ok-extend_from_slice.ensures.items in
    let size_count : length c.push.new.self.items ≡ length sizes + 1 = ap length more_sizes ∙ length-append sizes (length field ∷ []) in
    let content_len : length c.extend_from_slice.new.self.items ≡ length content + length field = ap length more_content ∙ length-append content field in
    let summed : sum c.push.new.self.items ≡ sum sizes + length field = ap sum more_sizes ∙ sum-push sizes (length field) in (
      omega (arith, c.self.invariant.0),
      omega (arith, c.requires, ap full_size c.self.view_is, full_size-fields_by_lengths sizes content c.self.invariant.0),
    )

pub returns-clause-ok : goal.returns-clause-ok
returns-clause-ok c =
    let sizes : List ℕ = c.self.inside.lengths.items in
    let content : List ℕ = c.self.inside.content.items in
    let field : List ℕ = c.args.field.now in
    let more_sizes : c.push.new.self.items ≡ sizes ++ length field ∷ [] = (rw c.unwrap.ensures at c.push.ensures.items) ∙ ap (λ (l : List ℕ). l ++ length field ∷ []) c.reserve.ensures.items in
    ap (λ (l : List ℕ). fields_by_lengths l c.extend_from_slice.new.self.items) more_sizes
    ∙ ap (λ (l : List ℕ). fields_by_lengths (sizes ++ length field ∷ []) l) c.in_ok-extend_from_slice.ensures.items
    ∙ fields_by_lengths-push sizes content field c.self.invariant.0
    ∙ ap (λ (l : List (List ℕ)). l ++ field ∷ []) c.self.view_is

pub returns-clause-size : goal.returns-clause-size
returns-clause-size c = ap full_size (returns-clause-ok c) ∙ full_size-push c.args.self.now c.args.field.now
