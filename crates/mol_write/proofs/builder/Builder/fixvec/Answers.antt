use Rattle.std.proofs.Common.{◌≡◌, ℕ, List, ◌++◌, length, ap, subst, ◌∙◌, arith}
use Rattle.std.specs.Int.{w32, to_le_bytes}
use Rattle.chain_defs.specs.Molecule.{IsFixvec}
use Rattle.mol_write.specs.Builder.{AllHaveSize}
use Rattle.mol_write.proofs.Fields.{is_fixvec}
use Rattle.mol_write.proofs.builder.Builder.fixvec.Goals as goal

pub returns : goal.returns
returns c =
    let sizes : List ℕ = c.self.inside.lengths.items in
    let content : List ℕ = c.self.inside.content.items in
    let count : c.len-2.result ≡ length sizes = c.len-2.ensures ∙ c.self.inside.lengths.ok.0 in
    let counted : c.extend_from_slice.new.self.items ≡ to_le_bytes w32 (length sizes) =
    c.in_ok-extend_from_slice.ensures.items ∙ ap (λ (l : List ℕ). l ++ c.to_le_bytes.result) c.in_ok-bytes.ensures.items
    ∙ c.to_le_bytes.ensures ∙ ap (to_le_bytes w32) count in
    let whole : c.extend_from_slice-2.new.self.items ≡ to_le_bytes w32 (length sizes) ++ content =
    c.in_ok-extend_from_slice-2.ensures.items ∙ ap (λ (l : List ℕ). l ++ c.deref.result.now) counted
    ∙ ap (λ (l : List ℕ). to_le_bytes w32 (length sizes) ++ l) c.deref.ensures.value in
    subst (λ (fields : List (List ℕ)). (size : ℕ) → AllHaveSize size fields → IsFixvec size c.extend_from_slice-2.new.self.items fields) c.self.view_is
    (is_fixvec sizes content c.extend_from_slice-2.new.self.items c.self.invariant.0 (omega (arith, c.self.invariant.1)) whole)
