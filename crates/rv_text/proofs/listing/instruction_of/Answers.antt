use Rattle.std.proofs.Common.{sym, ◌∙◌}
use Rattle.rv_text.proofs.ListingLaws.{decode-length}
use Rattle.rv_text.proofs.listing.instruction_of.Goals as goal

pub returns-then-from-code-clause-some : goal.returns-then-from-code-clause-some
returns-then-from-code-clause-some c = decode-length c.word_of.result (c.in-Some.i, c.in-Some.length) (sym c.decode.ensures.exact ∙ c.in-Some.is)
