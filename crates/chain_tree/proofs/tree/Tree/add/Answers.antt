use Rattle.std.proofs.Common.{◌≡◌, ◌<◌, ◌+◌, ◌^◌, ◌++◌, ◌∷◌, [], List, length, ap, sym, ◌∙◌, subst, arith}
use Rattle.std.specs.Str.{bytes_eq}
use Rattle.std.specs.HashMap.{get}
use Rattle.chain_tree.specs.declared.entry.Entry.{Entry}
use Rattle.chain_tree.specs.Entries.{TreeValue, place_of_hash, FollowsParent, IsAncestor, IsTipEntry}
use Rattle.chain_tree.proofs.EntryLemmas.{there-within}
use Rattle.chain_tree.proofs.IndexLemmas.{IsIndexed-push}
use Rattle.chain_tree.proofs.BlockLemmas.{IndexesBlocks-push}
use Rattle.chain_tree.proofs.tree.Tree.add.Goals as goal

pub overflow_cast-place : goal.overflow_cast-place
overflow_cast-place c =
    omega (arith, c.len-place.ensures, c.self.inside.entries.ok, c.self.invariant.0.tree.few)

pub jump_over-jump-requires-clause-within : goal.jump_over-jump-requires-clause-within
jump_over-jump-requires-clause-within c =
    let same = c.deref.ensures.value ∙ ap (λ (v : TreeValue). v.entries) c.self.view_is in
    there-within c.deref.result.now c.args.entry.parent (λ p. c.args.entry.number ≡ p.number + 1)
    (subst (λ (es : List Entry). FollowsParent es c.args.entry) (sym same) c.requires.parent)

pub tip_after-self-inside-requires-clause-few : goal.tip_after-self-inside-requires-clause-few
tip_after-self-inside-requires-clause-few c =
    omega (arith, ap length c.deref-3.ensures.value, c.self.invariant.0.tree.few)

pub invariant_of-self : goal.invariant_of-self
invariant_of-self c =
    let old = c.self.inside in
    let seen : old.entries.items ≡ c.args.self.now.entries = ap (λ (v : TreeValue). v.entries) c.self.view_is in
    let spare : old.spare ≡ c.args.self.now.spare = ap (λ (v : TreeValue). v.spare) c.self.view_is in
    let some : 0 < old.spare = omega (arith, spare, c.requires.spare) in
    let few : length old.entries.items + 1 < 2 ^ 32 = omega (arith, ap length seen, c.requires.few) in
    let place : c.len-place.result ≡ length old.entries.items = omega (arith, c.len-place.ensures, old.entries.ok) in (
      rw (c.push_reserved.ensures.items, c.push_reserved-2.ensures.items)
          (IsIndexed-push old.entries.items old.jumps.items (get bytes_eq old.places) (get bytes_eq c.insert-added.new.self) old.tip c.args.entry
          c.len-place.result c.jump_over-jump.result c.tip_after-self-inside.result c.self.invariant.0 few
          (subst (λ (es : List Entry). FollowsParent es c.args.entry) (sym seen) c.requires.parent)
          (ap (λ (es : List Entry). place_of_hash es c.args.entry.hash) seen ∙ c.requires.new) place
          (rw c.unwrap.ensures at c.insert-added.ensures.updates).0
          (subst (λ (es : List Entry). IsAncestor es c.args.entry.parent c.jump_over-jump.result) c.deref.ensures.value c.jump_over-jump.ensures.up)
          (subst (λ (es : List Entry). IsTipEntry (es ++ c.args.entry ∷ []) c.tip_after-self-inside.result) c.deref-3.ensures.value c.tip_after-self-inside.ensures)),
      omega (arith, c.push_reserved.ensures.len, c.push_reserved.ensures.capacity, c.push_reserved.new.self.ok, old.entries.ok, c.self.invariant.1, some),
      omega (arith, c.push_reserved-2.ensures.len, c.push_reserved-2.ensures.capacity, c.push_reserved-2.new.self.ok, old.jumps.ok, c.self.invariant.2, some),
      omega (arith, c.insert-added.ensures.spare, c.self.invariant.3, some),
    )

pub returns-clause-of_blocks : goal.returns-clause-of_blocks
returns-clause-of_blocks c kept block indexes is named =
    let seen : c.self.inside.entries.items ≡ c.args.self.now.entries = ap (λ (v : TreeValue). v.entries) c.self.view_is in
    rw (c.push_reserved.ensures.items, seen) (IndexesBlocks-push kept c.args.self.now.entries block c.args.entry indexes is named c.requires.parent c.requires.new)
