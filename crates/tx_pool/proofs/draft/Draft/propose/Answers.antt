use Rattle.std.proofs.Common.{◌≡◌, false, inl, inr, refl, sym, ap, ◌∙◌, arith}
use Rattle.std.specs.Str.{bytes_eq}
use Rattle.std.specs.HashSet.{contains}
use Rattle.chain_defs.specs.Specification.{Specification}
use Rattle.block_judge.specs.Standing.{seen}
use Rattle.tx_pool.specs.Draft.{draft_of}
use Rattle.tx_pool.proofs.DraftLemmas.{fits-proposed, or-cond, propose-later, propose-fits, proposed-so-far, so-far-as}
use Rattle.tx_pool.proofs.draft.Draft.propose.Goals as goal
use Rattle.tx_pool.proofs.draft.Draft.propose.Goals.{then-self-from-via-then-self-from, then-self-from-via-else-self-from+then-count-from, then-self-from-via-else-self-from+else-count-from+then-contains}

pub returns-then-self-from-clause-proposed : goal.returns-then-self-from-clause-proposed
returns-then-self-from-clause-proposed g c stored so_far is t same =
    let most : c.spec.inside.max_block_bytes ≡ c.args.context.now.spec.now.max_block_bytes = ap (λ (s : Specification). s.max_block_bytes) c.spec.view_is in
    let many : c.spec.inside.max_proposals ≡ c.args.context.now.spec.now.max_proposals = ap (λ (s : Specification). s.max_proposals) c.spec.view_is in
    let later = propose-later stored (seen g.C.Cells.rows c.args.context.now) so_far (draft_of g.C.Cells.rows c.args.self.now) is c.requires.fits t c.args.id.now same c.told-id in
    elim c.then-self-from.branch [
      | then-self-from-via-then-self-from w ↦ later (inl (omega (arith, w.if-self-from.true, most, c.from.ensures)))
      | then-self-from-via-else-self-from+then-count-from w ↦ later (inr (inl (omega (arith, w.if-count-from.true, many, w.from-else-self-from.ensures, c.len.ensures))))
      | then-self-from-via-else-self-from+else-count-from+then-contains w ↦ later (inr (inr (sym w.if-contains.ensures)))
    ]

pub returns-clause-fits : goal.returns-clause-fits
returns-clause-fits g c =
    fits-proposed (draft_of g.C.Cells.rows c.args.self.now) _ c.args.id.now _ c.spec.inside.max_block_bytes c.requires.fits refl c.in_ok-push.ensures.items refl
    (omega (arith, c.if-self-from.false, c.from.ensures)) (omega arith) refl refl refl refl

pub returns-clause-proposed : goal.returns-clause-proposed
returns-clause-proposed g c stored so_far is t same =
    let most : c.spec.inside.max_block_bytes ≡ c.args.context.now.spec.now.max_block_bytes = ap (λ (s : Specification). s.max_block_bytes) c.spec.view_is in
    let many : c.spec.inside.max_proposals ≡ c.args.context.now.spec.now.max_proposals = ap (λ (s : Specification). s.max_proposals) c.spec.view_is in
    let new : contains bytes_eq c.args.self.now.ids c.args.id.now ≡ false = sym c.if-contains.ensures in
    so-far-as stored (seen g.C.Cells.rows c.args.context.now) _ _ _
    (propose-fits stored (seen g.C.Cells.rows c.args.context.now) so_far (draft_of g.C.Cells.rows c.args.self.now) is c.requires.fits t c.args.id.now same c.told-id
    (omega (arith, c.if-self-from.false, most, c.from.ensures)) (omega (arith, c.if-count-from.false, many, c.from-else-self-from.ensures, c.len.ensures)) new)
    (proposed-so-far stored (seen g.C.Cells.rows c.args.context.now) so_far (draft_of g.C.Cells.rows c.args.self.now) is c.requires.fits c.args.id.now _ c.told-id new refl refl refl
    (λ hash. refl) c.in_ok-push.ensures.items
    (λ other. c.in_ok-insert.ensures.updates.0 other ∙ or-cond (contains bytes_eq c.args.self.now.ids other) (bytes_eq c.args.id.now other)) refl refl refl refl)
