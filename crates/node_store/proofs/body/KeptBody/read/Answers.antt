use Rattle.std.proofs.Common.{◌≡◌, ◌-◌, ◌≤◌, ℕ, List, length, take, drop, Some, ap, sym, subst, ◌∙◌}
use Rattle.chain_defs.specs.Shape.{decoded}
use Rattle.chain_defs.specs.Schema.{block}
use Rattle.cell_state.proofs.ListBlockLemmas.{decoding-is}
use Rattle.node_store.specs.Stored.{parts_in}
use Rattle.node_store.proofs.StoredLemmas.{body-read, is-canonical}
use Rattle.node_store.proofs.body.KeptBody.read.Goals as goal

pub invariant_of-result : goal.invariant_of-result
invariant_of-result c =
    let start : ℕ = c.in-Some.start in
    let end : ℕ = c.in-Some.end in
    let b = c.in-Some-read.field-0 in
    let seen : decoded block (take (end - start) (drop start c.deref-2.result.now)) ≡ Some b = sym c.in-Some-read.ensures.value in
    let is : decoded block (take (end - start) (drop start c.args.bytes.items)) ≡ Some b = rw (sym c.deref-2.ensures.value) seen in (
      c.in-Some.ensures.ordered,
      subst (λ (bytes : List ℕ). end ≤ length bytes) c.deref.ensures.value c.in-Some.ensures.within,
      is-canonical _ b is,
      tt,
    )

pub returns-in-Some-read : goal.returns-in-Some-read
returns-in-Some-read c =
    let start : ℕ = c.in-Some.start in
    let end : ℕ = c.in-Some.end in
    let b = c.in-Some-read.field-0 in
    let seen : decoded block (take (end - start) (drop start c.deref-2.result.now)) ≡ Some b = sym c.in-Some-read.ensures.value in
    let is : decoded block (take (end - start) (drop start c.args.bytes.items)) ≡ Some b = rw (sym c.deref-2.ensures.value) seen in
    let parts : Some (take (end - start) (drop start c.args.bytes.items), drop end c.args.bytes.items) ≡ parts_in c.args.place c.args.bytes.items =
    subst (λ (bytes : List ℕ). Some (take (end - start) (drop start bytes), drop end bytes) ≡ parts_in c.args.place bytes) c.deref.ensures.value c.in-Some.ensures.parts in
    body-read c.args.place c.args.bytes.items _ _ b parts is
