use Rattle.std.proofs.Common.{◌≡◌, length, refl, ap, arith}
use Rattle.std.proofs.lemmas.Int.{ints}
use Rattle.chain_defs.specs.Specification.{Specification}
use Rattle.block_judge.specs.Standing.{seen}
use Rattle.block_judge.proofs.MovedLemmas.{interest-sum, can-move-more}
use Rattle.tx_pool.specs.Draft.{draft_of}
use Rattle.tx_pool.proofs.DraftLemmas.{can-move-as, commit-fits, commit-later, committed-so-far, few-items, fits-committed, so-far-as}
use Rattle.tx_pool.proofs.draft.Draft.commit.Goals as goal

pub returns-then-self-size-clause-committed : goal.returns-then-self-size-clause-committed
returns-then-self-size-clause-committed g c stored so_far is begins comes =
    let most : c.spec.inside.max_block_bytes ≡ c.args.context.now.spec.now.max_block_bytes = ap (λ (s : Specification). s.max_block_bytes) c.spec.view_is in
    let size = ap length c.bytes.ensures.encoding in
    commit-later stored (seen g.C.Cells.rows c.args.context.now) so_far (draft_of g.C.Cells.rows c.args.self.now) is c.requires.fits c.args.tx.now
    (omega (arith, c.if-self-size.true, most, c.from.ensures, size))

pub put-requires-clause-few : goal.put-requires-clause-few
put-requires-clause-few g c =
    let few = few-items _ c.requires.room in
    let more = c.requires.fits.few in
    omega (arith, few, more)

pub overflow_add-self-3 : goal.overflow_add-self-3
overflow_add-self-3 g c =
    let few = few-items _ c.requires.room in
    let more = c.requires.fits.few in
    let before = c.requires.fits.moves.interest_fits in
    let adds = c.requires.moves.interest_fits in
    let same = c.in_ok-put.ensures.put.interest in
    omega (arith, ints, few, more, before, adds, same)

pub overflow_add-self-4 : goal.overflow_add-self-4
overflow_add-self-4 g c =
    let few = few-items _ c.requires.room in
    let more = c.requires.fits.few in
    let before = c.requires.fits.moves.freed_fits in
    let adds = c.requires.moves.freed_fits in
    let same = c.in_ok-put.ensures.put.freed in
    omega (arith, few, more, before, adds, same)

pub returns-clause-fits : goal.returns-clause-fits
returns-clause-fits g c =
    let few = few-items _ c.requires.room in
    let more = c.requires.fits.few in
    let put = c.in_ok-put.ensures.put in
    let size = ap length c.bytes.ensures.encoding in
    let can = can-move-as (length c.args.self.now.transactions.items) _ c.args.self.now.interest _ c.args.self.now.freed _ refl put.interest put.freed c.requires.fits.moves in
    let sum = interest-sum (length c.args.self.now.transactions.items) c.put.new.self.interest c.args.passed.now.interest c.put.new.self.freed c.args.passed.now.freed
    (omega (arith, few, more)) can c.requires.moves in
    fits-committed (draft_of g.C.Cells.rows c.args.self.now) (draft_of g.C.Cells.rows c.put.new.self) _ _ c.args.tx.now _ c.spec.inside.max_block_bytes c.args.passed.now.cycles
    c.requires.fits put refl (omega (arith, c.if-self-size.false, c.from.ensures, size)) (omega arith)
    (can-move-more (length c.args.self.now.transactions.items) c.put.new.self.interest c.args.passed.now.interest _ c.put.new.self.freed c.args.passed.now.freed _
    can c.requires.moves sum refl)

pub returns-clause-committed : goal.returns-clause-committed
returns-clause-committed g c stored so_far is begins comes =
    let most : c.spec.inside.max_block_bytes ≡ c.args.context.now.spec.now.max_block_bytes = ap (λ (s : Specification). s.max_block_bytes) c.spec.view_is in
    let few = few-items _ c.requires.room in
    let more = c.requires.fits.few in
    let put = c.in_ok-put.ensures.put in
    let size = ap length c.bytes.ensures.encoding in
    let can = can-move-as (length c.args.self.now.transactions.items) _ c.args.self.now.interest _ c.args.self.now.freed _ refl put.interest put.freed c.requires.fits.moves in
    let sum = interest-sum (length c.args.self.now.transactions.items) c.put.new.self.interest c.args.passed.now.interest c.put.new.self.freed c.args.passed.now.freed
    (omega (arith, few, more)) can c.requires.moves in
    so-far-as stored (seen g.C.Cells.rows c.args.context.now) _ _ _
    (commit-fits stored (seen g.C.Cells.rows c.args.context.now) so_far (draft_of g.C.Cells.rows c.args.self.now) is c.requires.fits c.args.tx.now
    (omega (arith, c.if-self-size.false, most, c.from.ensures, size)))
    (committed-so-far stored (seen g.C.Cells.rows c.args.context.now) so_far (draft_of g.C.Cells.rows c.args.self.now) is c.requires.fits c.args.tx.now c.len-e.result
    (draft_of g.C.Cells.rows c.put.new.self) _ c.args.passed.now c.requires.parent c.len-e.ensures.len put begins comes refl sum)
