use Rattle.std.proofs.Common.{sym, ap, ◌∙◌, arith}
use Rattle.chain_defs.specs.Tip.{best_branch}
use Rattle.chain_tree.specs.Told.{blocks_of}
use Rattle.chain_defs.specs.Dao.{DaoField}
use Rattle.chain_defs.proofs.RatedLemmas.{rated-parts}
use Rattle.node_store.specs.Kept.{KeptValue}
use Rattle.node_store.proofs.EntryLemmas.{within-entries}
use Rattle.node_store.proofs.QueryLemmas.{no-block}
use Rattle.node_store.proofs.kept.Kept.rate_at.Goals as goal

pub entry-requires : goal.entry-requires
entry-requires c = within-entries (blocks_of c.self.inside.blocks.stored) c.args.self.now.chain.blocks c.self.inside.tree.entries c.in-Some.place
    (ap (λ (v : KeptValue). v.chain.blocks) c.self.view_is) c.self.invariant.indexed c.in-Some.ensures.within

pub returns-in-None-clause-there : goal.returns-in-None-clause-there
returns-in-None-clause-there c = λ below. absurd (no-block (best_branch c.args.self.now.chain.blocks) c.args.height below (sym c.in-None.ensures.block))

pub returns-in-Some-clause-rated : goal.returns-in-Some-clause-rated
returns-in-Some-clause-rated c =
    let rated = rated-parts c.entry.result.now.dao (c.self.invariant.rated c.in-Some.place c.entry.result.now c.entry.ensures.entry) in
    omega (arith, rated.1, ap (λ (field : DaoField). field.rate) (c.result.view_is ∙ c.read.ensures.field))
