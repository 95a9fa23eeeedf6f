use Rattle.std.proofs.Common.{◌≡◌, ℕ, ◌+◌, ◌*◌, List, ◌++◌, length, map, sym, ap, subst, ◌∙◌, arith}
use Rattle.std.specs.Int.{w32, to_le_bytes}
use Rattle.chain_defs.specs.Molecule.{offsets, IsDynvec}
use Rattle.mol_write.specs.Builder.{fields_by_lengths}
use Rattle.mol_write.proofs.Fields.{lengths-fields_by_lengths, is_dynvec}
use Rattle.mol_write.proofs.builder.Builder.dynvec.Goals as goal

pub returns : goal.returns
returns c =
    let sizes : List ℕ = c.self.inside.lengths.items in
    let content : List ℕ = c.self.inside.content.items in
    let fields = fields_by_lengths sizes content in
    let sums = c.self.invariant.0 in
    let count : c.len.result ≡ length sizes = c.len.ensures ∙ c.self.inside.lengths.ok.0 in
    let content_len : c.len-2.result ≡ length content = c.len-2.ensures ∙ c.self.inside.content.ok.0 in
    let header_is : 4 + 4 * c.len.result ≡ 4 + 4 * length sizes = ap (λ (n : ℕ). 4 + 4 * n) count in
    let full_is : 4 + 4 * c.len.result + c.len-2.result ≡ 4 + 4 * length sizes + length content = omega (arith, count, content_len) in
    let lengths : map length fields ≡ c.deref.result.now = lengths-fields_by_lengths sizes content sums ∙ sym c.deref.ensures.value in
    let size : c.extend_from_slice.new.self.items ≡ to_le_bytes w32 (4 + 4 * length sizes + length content) =
    c.in_ok-extend_from_slice.ensures.items ∙ ap (λ (l : List ℕ). l ++ c.to_le_bytes.result) c.in_ok-bytes.ensures.items
    ∙ c.to_le_bytes.ensures ∙ ap (to_le_bytes w32) full_is in
    let header : c.push_offsets.new.bytes.items ≡ to_le_bytes w32 (4 + 4 * length sizes + length content) ++ offsets (4 + 4 * length sizes) fields =
    c.in_ok-push_offsets.ensures fields lengths ∙ ap (λ (l : List ℕ). l ++ offsets (4 + 4 * c.len.result) fields) size
    ∙ ap (λ (n : ℕ). to_le_bytes w32 (4 + 4 * length sizes + length content) ++ offsets n fields) header_is in
    let whole : c.extend_from_slice-2.new.self.items ≡ (to_le_bytes w32 (4 + 4 * length sizes + length content) ++ offsets (4 + 4 * length sizes) fields) ++ content =
    c.in_ok-extend_from_slice-2.ensures.items ∙ ap (λ (l : List ℕ). l ++ c.deref-2.result.now) header
    ∙ ap (λ (l : List ℕ). (to_le_bytes w32 (4 + 4 * length sizes + length content) ++ offsets (4 + 4 * length sizes) fields) ++ l) c.deref-2.ensures.value in
    subst (IsDynvec c.extend_from_slice-2.new.self.items) c.self.view_is (is_dynvec sizes content c.extend_from_slice-2.new.self.items sums c.self.invariant.1 whole)
