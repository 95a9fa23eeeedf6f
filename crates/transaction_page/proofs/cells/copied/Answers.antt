use Rattle.std.proofs.Common.{ap, arith}
use Rattle.chain_defs.specs.Row.{Row}
use Rattle.transaction_page.proofs.cells.copied.Goals as goal

pub fetch-requires : goal.fetch-requires
fetch-requires g c = record { within = omega (arith, c.in-Some.ensures, c.requires.counts, ap (λ (row : Row). row.block) c.meta.view_is) }
