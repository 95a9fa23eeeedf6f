use Rattle.std.proofs.Common.{sym, subst}
use Rattle.std.specs.Prelude.{IfOk}
use Rattle.chain_defs.specs.Branch.{branch}
use Rattle.chain_tree.specs.Told.{blocks_of}
use Rattle.block_judge.specs.Standing.{seen}
use Rattle.pool_defs.specs.Assembly.{Assembly}
use Rattle.pool_defs.specs.declared.line.Line.{Line}
use Rattle.tx_pool.specs.Draft.{IsDraftSoFar, draft_of, with_line}
use Rattle.tx_pool.proofs.DraftLemmas.{so-far-answered, take-none, take-some}
use Rattle.tx_pool.proofs.draft.Draft.take_bytes.Goals as goal

pub returns-in-None-clause-taken : goal.returns-in-None-clause-taken
returns-in-None-clause-taken g c stored so_far tells proposed is =
    so-far-answered stored (seen g.C.Cells.rows c.args.context.now) so_far _ (draft_of g.C.Cells.rows c.args.self.now) _
    (take-none c.args.context.now.spec.now (branch (blocks_of stored) c.args.context.now.parent) so_far c.args.item.now c.in-None.ensures.value) is

pub returns-in-Some-clause-taken : goal.returns-in-Some-clause-taken
returns-in-Some-clause-taken g c stored so_far tells proposed is =
    subst (λ (all : Assembly). IfOk c.take_transaction.result (λ (line : Line). IsDraftSoFar stored (seen g.C.Cells.rows c.args.context.now) all
    (with_line (draft_of g.C.Cells.rows c.take_transaction.new.self) line)))
    (sym (take-some c.args.context.now.spec.now (branch (blocks_of stored) c.args.context.now.parent) so_far c.args.item.now c.in-Some.tx c.in-Some.ensures.value))
    (c.take_transaction.ensures.taken stored so_far tells proposed is)
