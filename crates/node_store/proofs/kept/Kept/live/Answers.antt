use Rattle.std.proofs.Common.{length, sym, ap, ◌∙◌, subst, arith}
use Rattle.chain_defs.specs.Row.{Row}
use Rattle.cell_state.specs.State.{rows}
use Rattle.chain_tree.specs.Entries.{entry_at}
use Rattle.chain_tree.specs.Told.{blocks_of}
use Rattle.chain_tree.proofs.BlockLemmas.{len-same}
use Rattle.node_store.specs.Kept.{KeptValue}
use Rattle.node_store.specs.Queries.{IsLiveRow}
use Rattle.node_store.proofs.QueryLemmas.{no-live, some-live, made-of}
use Rattle.node_store.proofs.kept.Kept.live.Goals as goal

pub entry-requires : goal.entry-requires
entry-requires c =
    let below = c.requires.below c.args.o.now c.in-Some.meta (sym c.get.ensures ∙ c.in-Some.is) in
    omega (
      arith,
      below,
      len-same (blocks_of c.self.inside.blocks.stored) c.self.inside.tree.entries c.self.invariant.indexed,
      ap (λ (v : KeptValue). length v.chain.blocks) c.self.view_is,
      ap (λ (row : Row). row.block) c.meta.view_is,
    )

pub returns-in_default-clause-live : goal.returns-in_default-clause-live
returns-in_default-clause-live c live =
    no-live c.args.self.now.chain.blocks (rows c.args.state.now) live c.args.o.now (sym c.get.ensures ∙ c.in_default.is)

pub returns-in_default-clause-row : goal.returns-in_default-clause-row
returns-in_default-clause-row c = sym c.in_default.is ∙ c.get.ensures

pub returns-clause-live : goal.returns-clause-live
returns-clause-live c live =
    let row = some-live c.args.self.now.chain.blocks (rows c.args.state.now) live c.requires.below c.args.o.now c.in-Some.meta (sym c.get.ensures ∙ c.in-Some.is) in
    let made = made-of c.self.inside.blocks.stored c.self.inside.tree.entries c.args.o.now row.0 c.in-Some.meta c.self.invariant.indexed
    (subst (λ (v : KeptValue). IsLiveRow v.chain.blocks c.args.o.now row.0 c.in-Some.meta) (sym c.self.view_is) row.1) in (
      row.0,
      row.1,
      made.number c.entry.result.now (ap (entry_at c.self.inside.tree.entries) (sym (ap (λ (row : Row). row.block) c.meta.view_is)) ∙ c.entry.ensures.entry),
    )

pub returns-clause-row : goal.returns-clause-row
returns-clause-row c = sym c.in-Some.is ∙ c.get.ensures
