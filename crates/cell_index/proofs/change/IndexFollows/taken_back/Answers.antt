use Rattle.std.proofs.Common.{List, None, sym, ◌∙◌, subst}
use Rattle.chain_tree.specs.Told.{blocks_of}
use Rattle.chain_defs.specs.Schema.{OutPoint}
use Rattle.chain_defs.specs.Events.{events_of_block}
use Rattle.chain_defs.specs.Row.{Row, row_after, live_row, ListsRows}
use Rattle.chain_defs.specs.Undo.{with_rows}
use Rattle.cell_index.specs.Index.{without_all}
use Rattle.cell_index.proofs.FollowLemmas.{takes-it-back, holds-same}
use Rattle.cell_index.proofs.change.IndexFollows.taken_back.Goals as goal

pub returns-in-Ok-exchanged-clause-stands : goal.returns-in-Ok-exchanged-clause-stands
returns-in-Ok-exchanged-clause-stands g c what stored parent tells step has =
    let it = step.it in
    let can = step.can in
    let before = live_row (blocks_of stored) parent in
    let after = live_row (blocks_of stored) c.args.place in
    let takes = takes-it-back c.args.place it.block it.ext after before c.deref-2.result.now c.deref.result.now can
    (c.deref-2.ensures.value ∙ c.in-Ok.ensures.spent stored it can.ext tells step.there can.fits can.bytes_are)
    (subst (λ (l : List (OutPoint × Row)). ListsRows (row_after c.args.place (events_of_block can.height it.block) (λ _. None)) l) (sym c.deref.ensures.value)
    (c.in-Ok.ensures.left stored it can.height tells step.there can.above)) in
    holds-same (with_rows c.deref-2.result.now (without_all c.deref.result.now after)) before c.in-Ok-exchanged.index
    takes.rows (c.in-Ok-exchanged.ensures.rows after has takes.there takes.free)

pub returns-in-Err-Odd-clause-undamaged : goal.returns-in-Err-Odd-clause-undamaged
returns-in-Err-Odd-clause-undamaged g c what stored parent tells step has damage same =
    let it = step.it in
    let can = step.can in
    let before = live_row (blocks_of stored) parent in
    let after = live_row (blocks_of stored) c.args.place in
    let takes = takes-it-back c.args.place it.block it.ext after before c.deref-2.result.now c.deref.result.now can
    (c.deref-2.ensures.value ∙ c.in-Ok.ensures.spent stored it can.ext tells step.there can.fits can.bytes_are)
    (subst (λ (l : List (OutPoint × Row)). ListsRows (row_after c.args.place (events_of_block can.height it.block) (λ _. None)) l) (sym c.deref.ensures.value)
    (c.in-Ok.ensures.left stored it can.height tells step.there can.above)) in
    c.in-Err-Odd.ensures.odd after has takes.there takes.free (let is = c.in-Err-Odd.field-0-is in cc)
