use Rattle.std.proofs.Common.{ℕ, Option, refl, ap, subst}
use Rattle.node_store.specs.Kept.{RecordedValue}
use Rattle.cell_state.specs.State.{rows}
use Rattle.chain_tree.specs.Told.{blocks_of}
use Rattle.node_store.specs.Gathering.{IsUnfit}
use Rattle.node_store.proofs.KeptBelow.{below-genesis}
use Rattle.node_store.proofs.GatherLemmas.{unfit-within, body-of-unfit, blocks-seen, counted-seen, rated-fit, counted-fit, never-fits, are-kept-gathered, some-entries, some-cells, cells-left}
use Rattle.node_store.proofs.gathering.Gathering.into_kept.Goals as goal

-- where one does not fit
pub entry-requires : goal.entry-requires
entry-requires c =
    unfit-within c.self.inside.blocks.stored c.args.self.stored c.args.tree.entries c.in-Some.place
    (subst (λ (o : Option ℕ). IsUnfit o c.self.inside.blocks.stored) c.in-Some.is c.self.invariant.fit) (ap (λ (v : RecordedValue). v.stored) c.self.view_is) c.requires

pub returns-in-Some-clause-right : goal.returns-in-Some-clause-right
returns-in-Some-clause-right c = λ rated counted.
    absurd (never-fits c.self.inside.blocks.stored c.args.self.stored c.args.tree.entries c.in-Some.place
    (subst (λ (o : Option ℕ). IsUnfit o c.self.inside.blocks.stored) c.in-Some.is c.self.invariant.fit) (ap (λ (v : RecordedValue). v.stored) c.self.view_is) c.requires rated counted)

pub returns-in-Some-clause-stop : goal.returns-in-Some-clause-stop
returns-in-Some-clause-stop c = (
  refl,
  body-of-unfit c.self.inside.blocks.stored c.args.self.stored c.args.tree.entries c.in-Some.place c.entry.result.now
      (subst (λ (o : Option ℕ). IsUnfit o c.self.inside.blocks.stored) c.in-Some.is c.self.invariant.fit) (ap (λ (v : RecordedValue). v.stored) c.self.view_is) c.entry.ensures.entry,
)

-- there is a genesis
pub unreachable-requires : goal.unreachable-requires
unreachable-requires c =
    let are = blocks-seen c.self.inside.blocks.stored c.args.self.stored c.args.tree.entries (ap (λ (v : RecordedValue). v.stored) c.self.view_is) c.requires in
    some-cells c.self.inside.blocks.stored c.args.tree.entries c.self.inside.count c.self.inside.uncles c.self.inside.genesis c.self.inside.unfit c.self.invariant are.indexed
    (some-entries c.tip.result c.args.tree.entries c.tip.ensures.within) c.in_default.is

pub invariant_of-kept : goal.invariant_of-kept
invariant_of-kept c =
    let are = blocks-seen c.self.inside.blocks.stored c.args.self.stored c.args.tree.entries (ap (λ (v : RecordedValue). v.stored) c.self.view_is) c.requires in
    are-kept-gathered c.self.inside.blocks.stored c.args.tree.entries c.self.inside.count c.self.inside.uncles c.self.inside.genesis c.self.inside.unfit c.self.invariant are
    (subst (λ (o : Option ℕ). IsUnfit o c.self.inside.blocks.stored) c.in-None.is c.self.invariant.fit)

pub returns-clause-cells : goal.returns-clause-cells
returns-clause-cells c =
    let are = blocks-seen c.self.inside.blocks.stored c.args.self.stored c.args.tree.entries (ap (λ (v : RecordedValue). v.stored) c.self.view_is) c.requires in
    cells-left c.self.inside.blocks.stored c.args.tree.entries c.self.inside.count c.self.inside.uncles c.self.inside.genesis c.self.inside.unfit c.in-Some-genesis.cells c.self.invariant are.indexed
    (some-entries c.tip.result c.args.tree.entries c.tip.ensures.within) c.in-Some-genesis.is

pub returns-clause-below : goal.returns-clause-below
returns-clause-below c =
    let are = blocks-seen c.self.inside.blocks.stored c.args.self.stored c.args.tree.entries (ap (λ (v : RecordedValue). v.stored) c.self.view_is) c.requires in
    let some = some-entries c.tip.result c.args.tree.entries c.tip.ensures.within in
    below-genesis (blocks_of c.self.inside.blocks.stored) c.args.tree.entries (rows c.in-Some-genesis.cells) are.indexed some
    (cells-left c.self.inside.blocks.stored c.args.tree.entries c.self.inside.count c.self.inside.uncles c.self.inside.genesis c.self.inside.unfit c.in-Some-genesis.cells c.self.invariant are.indexed
    some c.in-Some-genesis.is)

pub returns-clause-wrong : goal.returns-clause-wrong
returns-clause-wrong c =
    let same = ap (λ (v : RecordedValue). v.stored) c.self.view_is in
    let are = blocks-seen c.self.inside.blocks.stored c.args.self.stored c.args.tree.entries same c.requires in
    let each = subst (λ (o : Option ℕ). IsUnfit o c.self.inside.blocks.stored) c.in-None.is c.self.invariant.fit in (
      rated-fit c.self.inside.blocks.stored c.args.tree.entries are.indexed each,
      counted-seen c.self.inside.blocks.stored c.args.self.stored same (counted-fit c.self.inside.blocks.stored each),
    )
