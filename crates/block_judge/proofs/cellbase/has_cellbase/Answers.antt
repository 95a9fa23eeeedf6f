use Rattle.std.proofs.Common.{◌≡◌, Bool, drop, sym, ap, ◌∙◌, subst, arith}
use Rattle.std.specs.Prelude.{not, IfOk}
use Rattle.std.specs.List.{list_any}
use Rattle.std.proofs.lemmas.Bool.{and_left, and_right, and_from}
use Rattle.chain_defs.specs.Hashes.{are_distinct}
use Rattle.rule_defs.specs.Cellbase.{is_cellbase}
use Rattle.block_judge.proofs.CellbaseLemmas.{begins, begins-not, no-cellbase, one-cellbase}
use Rattle.block_judge.proofs.cellbase.has_cellbase.Goals as goal
use Rattle.block_judge.proofs.cellbase.has_cellbase.Goals.{then-not-is_cellbase-via-then-not-is_cellbase, then-not-is_cellbase-via-else-not-is_cellbase+then-has_later_cellbase}

pub returns-then-transactions_count-eq0 : goal.returns-then-transactions_count-eq0
returns-then-transactions_count-eq0 c =
    no-cellbase c.args.block.now (begins-not c.args.block.now.transactions (omega (arith, c.transactions_count.ensures.value, c.if-transactions_count-eq0.true)))

pub returns-then-not-is_cellbase : goal.returns-then-not-is_cellbase
returns-then-not-is_cellbase c =
    let txs = c.args.block.now.transactions in
    let first = c.transactions_item.result in
    no-cellbase c.args.block.now (begins txs first c.transactions_item.ensures
    ∙ elim c.then-not-is_cellbase.branch [
      | then-not-is_cellbase-via-then-not-is_cellbase w ↦
          and_left (is_cellbase first) (not (list_any is_cellbase (drop 1 txs))) (sym c.is_cellbase.ensures ∙ w.if-not-is_cellbase.true)
      | then-not-is_cellbase-via-else-not-is_cellbase+then-has_later_cellbase w ↦
          and_right (is_cellbase first) (not (list_any is_cellbase (drop 1 txs))) (ap not (sym w.has_later_cellbase.ensures ∙ w.if-has_later_cellbase.true))
    ])

pub returns : goal.returns
returns c =
    let txs = c.args.block.now.transactions in
    let first = c.transactions_item.result in
    let begun = begins txs first c.transactions_item.ensures
    ∙ and_from (is_cellbase first) (not (list_any is_cellbase (drop 1 txs))) (sym c.is_cellbase.ensures ∙ c.if-not-is_cellbase.false)
    (ap not (sym c.has_later_cellbase.ensures ∙ c.if-has_later_cellbase.false)) in
    subst (λ (b : Bool). IfOk c.are_hashes_distinct.result (λ has. has ≡ b)) (ap are_distinct c.requires.hashes ∙ one-cellbase c.args.block.now begun) c.are_hashes_distinct.ensures
