use Rattle.std.proofs.Common.{length, ap, ◌∙◌, arith}
use Rattle.outside.proofs.Endings.{no_answer}
use Rattle.chain_defs.specs.Branch.{branch}
use Rattle.chain_tree.specs.Told.{blocks_of}
use Rattle.chain_tree.proofs.ReadLemmas.{unread, read_on}
use Rattle.block_judge.proofs.Exits.{as_step}
use Rattle.block_judge.specs.Standing.{seen}
use Rattle.tx_pool.proofs.DraftLemmas.{so-far-as, taken-more, taken-all}
use Rattle.tx_pool.proofs.draft.Draft.take_items.Goals as goal

pub items-init : goal.items-init
items-init g c = record {
  read = unread c.args.blocks.now;
  fits = c.requires.fits;
  count = ap length c.requires.none;
  within = omega arith;
  taken = λ stored so_far tells proposed is. is;
}

pub items-preserved : goal.items-preserved
items-preserved g c = record {
  read = read_on c.items.invariant.read c.in-Ok.ensures.read;
  fits = c.in-Ok.ensures.fits;
  count = let more = c.in-Ok.ensures.lines in let count = c.items.invariant.count in omega (arith, more, count);
  within = let more = c.items-test.true in omega (arith, more);
  taken = λ stored so_far tells proposed is.
      so-far-as stored (seen g.C.Cells.rows c.args.context.now) _ _ _
      (taken-more c.args.context.now.spec.now (branch (blocks_of stored) c.args.context.now.parent) so_far c.args.items.now c.items.i c.index-items-i.result _
      (omega (arith, c.items-test.true)) c.index-items-i.is c.deref.ensures.value)
      (c.in-Ok.ensures.taken stored _ (c.items.invariant.read.told ∙ tells) proposed (c.items.invariant.taken stored so_far tells proposed is));
}

pub returns-in-Err : goal.returns-in-Err
returns-in-Err g c = record {
  read = read_on c.items.invariant.read c.in-Err.ensures.read;
  fits = tt;
  lines = tt;
  taken = λ stored so_far tells proposed is. tt;
  undamaged = λ stored so_far tells proposed is damage same.
      c.in-Err.ensures.undamaged stored _ (c.items.invariant.read.told ∙ tells) (c.items.invariant.taken stored so_far tells proposed is) damage (as_step same);
}

pub returns : goal.returns
returns g c = record {
  read = c.items.invariant.read;
  fits = c.items.invariant.fits;
  lines = omega (arith, c.items.invariant.count, c.items.invariant.within, c.items-test.false);
  taken = λ stored so_far tells proposed is.
      let past = c.items-test.false in
      so-far-as stored (seen g.C.Cells.rows c.args.context.now) _ _ _
      (taken-all c.args.context.now.spec.now (branch (blocks_of stored) c.args.context.now.parent) so_far c.args.items.now c.items.i (omega (arith, past)))
      (c.items.invariant.taken stored so_far tells proposed is);
  undamaged = λ stored so_far tells proposed is damage same. absurd (no_answer _ _ same);
}
