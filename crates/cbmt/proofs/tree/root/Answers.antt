use Rattle.std.proofs.Common.{◌≡◌, ◌≢◌, ℕ, ◌+◌, ◌-◌, ◌*◌, ◌<◌, ◌≤◌, List, [], ◌++◌, length, slice_set, slice_index_or, inl, inr, sym, ap, ◌∙◌, arith, length-set, get_or-set_other, rules}
use Rattle.std.proofs.lemmas.Bool.{cases_eq}
use Rattle.std.proofs.lemmas.Grind.{get_or-set_at}
use Rattle.chain_defs.specs.CkbHash.{ckbhash}
use Rattle.chain_defs.specs.Root.{node}
use Rattle.chain_defs.proofs.RootLaws.{node-inner}
use Rattle.cbmt.proofs.tree.root.Goals as goal

-- with node i written, the nodes from i on are known
known_more : (items inner : List (List ℕ)) (i : ℕ) (hash : List ℕ) → i < length inner → hash ≡ node items i
    → ((k : ℕ) → i + 1 ≤ k → k < length inner → slice_index_or inner k [] ≡ node items k)
    → (k : ℕ) → i ≤ k → k < length inner → slice_index_or (slice_set inner i hash) k [] ≡ node items k
known_more items inner i hash within is known k from to =
    elim (cases_eq k i) [
      | inl same ↦ get_or-set_at inner i k hash [] same within ∙ is ∙ ap (node items) (sym same)
      | inr other ↦ let other_is : k ≢ i = other in rw get_or-set_other (known k (omega arith) to)
    ]

pub inner_nodes-preserved : goal.inner_nodes-preserved
inner_nodes-preserved c =
    let items : List (List ℕ) = c.args.items.now in
    let inner : List (List ℕ) = c.inner_nodes.inner.items in
    let j = c.inner_nodes.j in
    let keeps = c.inner_nodes.invariant in
    let same : length (slice_set inner (j - 1) c.hash_pair.result) ≡ length inner = length-set inner (j - 1) c.hash_pair.result in
    let within : j - 1 < length inner = omega (arith, keeps.1, c.inner_nodes-test.true) in
    let children : c.hash_pair.result ≡ ckbhash (node items (2 * (j - 1) + 1) ++ node items (2 * (j - 1) + 2)) =
    c.hash_pair.ensures ∙ ap (λ (hash : List ℕ). ckbhash (hash ++ c.node_at-in-inner_nodes.result.now)) c.node_at.ensures
    ∙ ap (λ (hash : List ℕ). ckbhash (node items (2 * (j - 1) + 1) ++ hash)) c.node_at-in-inner_nodes.ensures in
    let is : c.hash_pair.result ≡ node items (j - 1) = children ∙ sym (node-inner items (j - 1) (omega (arith, keeps.0))) in (
      omega (arith, keeps.0),
      omega (arith, keeps.1),
      λ k from to. known_more items inner (j - 1) c.hash_pair.result within is (λ i low high. keeps.2 i (omega arith) high) k from (omega arith),
    )

pub node_at-requires-2-clause-known : goal.node_at-requires-2-clause-known
node_at-requires-2-clause-known c = search rules

pub returns-then-is_empty : goal.returns-then-is_empty
returns-then-is_empty c = search rules
