use Rattle.std.proofs.Common.{◌≡◌, ◌∷◌, [], ◌++◌, List, ℕ, Some, cond, ap, ◌∙◌, arith}
use Rattle.std.specs.Str.{bytes_eq}
use Rattle.std.specs.Map.{lookup}
use Rattle.std.specs.HashMap.{get}
use Rattle.chain_tree.specs.declared.entry.Entry.{Entry}
use Rattle.chain_tree.proofs.IndexLemmas.{IsIndexed-one}
use Rattle.chain_tree.proofs.tree.Tree.new.Goals as goal

pub invariant_of-result : goal.invariant_of-result
invariant_of-result c =
    let entries : c.push.new.self.items ≡ c.args.genesis ∷ [] =
    (rw c.in_ok-push.was at c.push.ensures.items) ∙ ap (λ (es : List Entry). es ++ c.args.genesis ∷ []) c.new-entries.ensures.items in
    let jumps : c.push-2.new.self.items ≡ 0 ∷ [] =
    (rw c.in_ok-push-2.was at c.push-2.ensures.items) ∙ ap (λ (js : List ℕ). js ++ 0 ∷ []) c.new-jumps.ensures.items in (
      rw (entries, jumps) (IsIndexed-one c.args.genesis (get bytes_eq c.insert.new.self) c.requires
          (λ hash. c.in_ok-insert.ensures.updates.0 hash
          ∙ ap (λ (es : List (List ℕ × ℕ)). cond (bytes_eq c.args.genesis.hash hash) (Some 0) (lookup (bytes_eq hash) es)) c.with_hasher-places.ensures.empty)),
      omega (arith, c.push.new.self.ok),
      omega (arith, c.push-2.new.self.ok),
      omega arith,
    )
