use Rattle.std.proofs.Common.{sym, ◌∙◌, arith}
use Rattle.std.proofs.lemmas.Option.{slice_get_within}
use Rattle.tx_vectors.proofs.Rated.{rated-more}
use Rattle.tx_vectors.proofs.kept.are_rated.Goals as goal

pub entries-init : goal.entries-init
entries-init c = λ place entry below there. absurd (omega (arith, below))

pub entries-preserved : goal.entries-preserved
entries-preserved c = rated-more _ _ _ c.entries.invariant c.entry.ensures.entry
    (sym c.is_rated.ensures ∙ c.if-not-is_rated.false)

pub returns : goal.returns
returns c = λ _ place entry there. c.entries.invariant place entry (omega (arith, slice_get_within _ place entry there, c.len-place-end.ensures.len, c.entries-test.false)) there
