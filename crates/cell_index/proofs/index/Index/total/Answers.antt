use Rattle.std.proofs.Common.{ℕ, Option, sym, ap, ◌∙◌, subst}
use Rattle.std.specs.Prelude.{unwrap_or}
use Rattle.cell_index.specs.Index.{IndexValue, IndexesBranch}
use Rattle.cell_index.proofs.ListedLemmas.{totals-of}
use Rattle.cell_index.proofs.index.Index.total.Goals as goal

pub returns-in-Some-clause-of_branch : goal.returns-in-Some-clause-of_branch
returns-in-Some-clause-of_branch c kept place list stands is =
    ap (λ (found : Option (ℕ × ℕ)). unwrap_or found (0, 0)) c.in-Some.ensures.value ∙ c.self.invariant.kept c.args.lock.now
    ∙ totals-of kept place (record { entries = c.self.inside.rows.entries; totals = c.self.inside.totals.entries }) c.args.lock.now list c.self.invariant.ordered c.self.invariant.own
    (subst (λ (v : IndexValue). IndexesBranch kept place v) (sym c.self.view_is) stands) is

pub returns-in-None-clause-of_branch : goal.returns-in-None-clause-of_branch
returns-in-None-clause-of_branch c kept place list stands is =
    ap (λ (found : Option (ℕ × ℕ)). unwrap_or found (0, 0)) c.in-None.ensures.value ∙ c.self.invariant.kept c.args.lock.now
    ∙ totals-of kept place (record { entries = c.self.inside.rows.entries; totals = c.self.inside.totals.entries }) c.args.lock.now list c.self.invariant.ordered c.self.invariant.own
    (subst (λ (v : IndexValue). IndexesBranch kept place v) (sym c.self.view_is) stands) is
