use Rattle.std.proofs.Common.{arith}
use Rattle.chain_tree.specs.Told.{blocks_of}
use Rattle.block_judge.specs.Standing.{seen}
use Rattle.tx_pool.specs.Draft.{draft_of}
use Rattle.tx_pool.proofs.DraftLemmas.{canonical-size, fits-started, started-so-far}
use Rattle.tx_pool.proofs.draft.Draft.start.Goals as goal

pub returns-in-Ok-clause-fits : goal.returns-in-Ok-clause-fits
returns-in-Ok-clause-fits g c =
    let size = canonical-size c.args.cellbase.now c.from_encoding-tx.result c.requires.canonical c.from_encoding-tx.ensures in
    let small = c.requires.size in
    fits-started c.args.context.now.spec.now c.timestamp_on-timestamp.result (g.C.Cells.rows c.args.context.now.cells.now) (draft_of g.C.Cells.rows c.empty-draft.result) (draft_of g.C.Cells.rows c.put.new.self)
    c.len-e.result c.from_encoding-tx.result c.empty-draft.ensures.empty c.in-Ok.ensures.put (omega (arith, size, small))
    c.empty-draft.ensures.few

pub returns-in-Ok-clause-started : goal.returns-in-Ok-clause-started
returns-in-Ok-clause-started g c stored witness stands isa =
    started-so-far stored (seen g.C.Cells.rows c.args.context.now) witness c.timestamp_on-timestamp.result c.len-e.result c.from_encoding-tx.result
    (draft_of g.C.Cells.rows c.empty-draft.result) (draft_of g.C.Cells.rows c.put.new.self) c.requires.parent
    (c.timestamp_on-timestamp.ensures (blocks_of stored) stands.indexed) c.len-e.ensures.len stands c.empty-draft.ensures.empty c.in-Ok.ensures.put
    (c.from_encoding-tx.ensures _ isa)
