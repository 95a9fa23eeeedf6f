use Rattle.std.proofs.Common.{arith}
use Rattle.std.proofs.lemmas.Result.{on_ok_weaker}
use Rattle.block_judge.proofs.ChangeLemmas.{taken-first, taken-later}
use Rattle.block_judge.proofs.block_cells.BlockCells.take.Goals as goal
use Rattle.block_judge.proofs.block_cells.BlockCells.take.Goals.{then-not-is_cellbase+in_ok-spend, else-not-is_cellbase}

pub returns : goal.returns
returns g c = elim c.if-not-is_cellbase.branch [
  | then-not-is_cellbase+in_ok-spend w ↦ record {
    rows = rw w.self-is (on_ok_weaker c.make.result (λ made height o above.
        taken-later c.args.e c.args.tx.now height c.args.place c.args.self.now.changed w.spend.new.self c.make.new.self
        (g.C.Cells.rows c.args.self.now.base.now) o above (omega (arith, w.if-not-is_cellbase.true)) (w.in_ok-spend.ensures.rows c.args.e (g.C.Cells.rows c.args.self.now.base.now) o)
        (made height (g.C.Cells.rows c.args.self.now.base.now) o))
        (rw w.self-is at c.make.ensures.rows));
  }
  | else-not-is_cellbase w ↦ record {
    rows = rw w.self-is (on_ok_weaker c.make.result (λ made height o above.
        taken-first c.args.e c.args.tx.now height c.args.place c.args.self.now.changed c.make.new.self
        (g.C.Cells.rows c.args.self.now.base.now) o (omega (arith, w.if-not-is_cellbase.false)) (made height (g.C.Cells.rows c.args.self.now.base.now) o))
        (rw w.self-is at c.make.ensures.rows));
  }
]
