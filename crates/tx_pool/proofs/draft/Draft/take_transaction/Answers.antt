use Rattle.std.proofs.Common.{true, false, take, sym, ap, ◌∙◌, subst}
use Rattle.std.specs.Prelude.{IfOk}
use Rattle.std.specs.Str.{bytes_eq}
use Rattle.std.specs.HashSet.{contains}
use Rattle.chain_defs.specs.Branch.{branch}
use Rattle.chain_tree.specs.Told.{blocks_of}
use Rattle.block_judge.specs.Standing.{seen}
use Rattle.pool_defs.specs.Assembly.{Assembly}
use Rattle.pool_defs.specs.declared.line.Line.{Line}
use Rattle.tx_pool.specs.Draft.{IsDraftSoFar, draft_of, with_line}
use Rattle.tx_pool.proofs.DraftLemmas.{asked-as, begins-still, repeated-so-far, same-test, so-far-as, take-judges, take-proposes}
use Rattle.tx_pool.proofs.draft.Draft.take_transaction.Goals as goal

pub returns-then-breaks_j16-clause-taken : goal.returns-then-breaks_j16-clause-taken
returns-then-breaks_j16-clause-taken g c stored so_far tells proposed is =
    repeated-so-far stored (seen g.C.Cells.rows c.args.context.now) so_far (draft_of g.C.Cells.rows c.args.self.now) is c.requires.fits c.args.tx.now
    (same-test c.args.tx.now (contains bytes_eq c.args.self.now.hashes) c.transaction_hash-hash.result _ c.transaction_hash-hash.ensures (sym c.breaks_j16.ensures ∙ c.if-breaks_j16.true))

pub returns-in-Ok-clause-taken : goal.returns-in-Ok-clause-taken
returns-in-Ok-clause-taken g c stored so_far tells proposed is =
    let id_is = c.proposal_id-id.ensures ∙ ap (take 10) c.transaction_hash-hash.ensures in
    so-far-as stored (seen g.C.Cells.rows c.args.context.now) _ _ _
    (take-proposes stored (seen g.C.Cells.rows c.args.context.now) so_far (draft_of g.C.Cells.rows c.args.self.now) is c.requires.fits c.args.tx.now
    (same-test c.args.tx.now (contains bytes_eq c.args.self.now.hashes) c.transaction_hash-hash.result _ c.transaction_hash-hash.ensures (sym c.breaks_j16.ensures ∙ c.if-breaks_j16.false))
    (asked-as c.args.context.now.spec.now (branch (blocks_of stored) c.args.context.now.parent) c.args.tx.now c.args.proposed.now c.proposal_id-id.result
    false proposed id_is (sym c.if-not-is_proposed.true ∙ c.contains-is_proposed.ensures)))
    (c.in-Ok.ensures.proposed stored so_far is c.args.tx.now id_is)

pub returns-clause-taken : goal.returns-clause-taken
returns-clause-taken g c stored so_far tells proposed is =
    let id_is = c.proposal_id-id.ensures ∙ ap (take 10) c.transaction_hash-hash.ensures in
    let new = same-test c.args.tx.now (contains bytes_eq c.args.self.now.hashes) c.transaction_hash-hash.result _ c.transaction_hash-hash.ensures (sym c.breaks_j16.ensures ∙ c.if-breaks_j16.false) in
    let asked = asked-as c.args.context.now.spec.now (branch (blocks_of stored) c.args.context.now.parent) c.args.tx.now c.args.proposed.now
    c.proposal_id-id.result true proposed id_is (sym c.if-not-is_proposed.false ∙ c.contains-is_proposed.ensures) in
    subst (λ (all : Assembly). IfOk c.judge.result (λ (line : Line). IsDraftSoFar stored (seen g.C.Cells.rows c.args.context.now) all (with_line (draft_of g.C.Cells.rows c.judge.new.self) line)))
    (sym (take-judges stored (seen g.C.Cells.rows c.args.context.now) so_far (draft_of g.C.Cells.rows c.args.self.now) is c.requires.fits c.args.tx.now new asked))
    (c.judge.ensures.judged stored so_far tells is
    (begins-still stored (seen g.C.Cells.rows c.args.context.now) so_far (draft_of g.C.Cells.rows c.args.self.now) is c.requires.fits c.args.tx.now new) asked)
