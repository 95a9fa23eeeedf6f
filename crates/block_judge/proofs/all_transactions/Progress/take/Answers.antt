use Rattle.std.proofs.Common.{refl, arith}
use Rattle.block_judge.proofs.MovedLemmas.{interest-sum, can-move-more}
use Rattle.block_judge.proofs.all_transactions.Progress.take.Goals as goal

pub returns : goal.returns
returns g c =
    let sum = interest-sum c.args.place c.args.self.now.interest c.args.passed.now.interest c.args.self.now.freed c.args.passed.now.freed c.requires.few.few c.requires.few.moves
    c.requires.moves in record {
      moved = can-move-more c.args.place c.args.self.now.interest c.args.passed.now.interest _ c.args.self.now.freed c.args.passed.now.freed _
          c.requires.few.moves c.requires.moves sum refl;
      taken = record {
        left_is = refl;
        fees_are = c.in_ok-push_ext.ensures.fees;
        rows_are = c.in_ok-push_ext.ensures.spent;
        interest_is = sum;
        freed_is = refl;
      };
      within = omega arith;
      rows = c.in_ok-take.ensures.rows;
    }
