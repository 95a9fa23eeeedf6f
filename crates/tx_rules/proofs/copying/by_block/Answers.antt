use Rattle.std.proofs.Common.{◌<◌, ℕ, [], ◌∷◌, ◌++◌, Vec, Global, length, ap, ◌∙◌}
use Rattle.std.proofs.lemmas.List.Elements.{All-nil, All-push, All-same}
use Rattle.std.proofs.lemmas.List.Sorted.{All-permutation}
use Rattle.tx_rules.proofs.copying.by_block.Goals as goal
use Rattle.tx_rules.proofs.copying.by_block.Goals.{then-is_none+in_ok-push, else-is_none}

abbrev IsWithin : ℕ → ℕ × ℕ → Type 0
IsWithin count it = it.1 < count

pub rows-init : goal.rows-init
rows-init c = All-same (IsWithin (length c.args.rows.now)) c.new-order.result.items [] c.new-order.ensures.items (All-nil (IsWithin (length c.args.rows.now)))

pub rows-preserved : goal.rows-preserved
rows-preserved c = elim c.if-is_none.branch [
  | then-is_none+in_ok-push w ↦
      All-same (IsWithin (length c.args.rows.now)) _ (c.rows.order.items ++ _ ∷ []) (ap (λ (order : Vec (ℕ × ℕ) Global). order.items) w.order-is ∙ w.in_ok-push.ensures.items)
      (All-push (IsWithin (length c.args.rows.now)) c.rows.order.items _ c.rows.invariant c.rows-test.true)
  | else-is_none w ↦
      All-same (IsWithin (length c.args.rows.now)) _ c.rows.order.items (ap (λ (order : Vec (ℕ × ℕ) Global). order.items) w.order-is) c.rows.invariant
]

pub returns : goal.returns
returns c = record {
  places = All-permutation (IsWithin (length c.args.rows.now)) c.rows.order.items c.sort_unstable.new.self.items c.sort_unstable.ensures.permutation c.rows.invariant;
}
