use Rattle.std.proofs.Common.{◌≡◌, ◌++◌, Bool, List, refl, ◌+◌, ap, ◌∙◌, arith}
use Rattle.uncle_rules.specs.Embedded.{Embedded, embedded_in}
use Rattle.chain_tree.specs.Told.{Stored}
use Rattle.node_store.specs.Kept.{RecordedValue}
use Rattle.node_store.specs.Gathering.{fits_at, or_unfit}
use Rattle.node_store.proofs.GatherLemmas.{one-more-fits, gathered-more}
use Rattle.node_store.proofs.gathering.GatheringVisitor.visit.Goals as goal

pub overflow_add-self : goal.overflow_add-self
overflow_add-self c =
    let fits = one-more-fits c.self.inside.count c.self.inside.blocks.stored c.args.self.now.stored c.self.invariant.counted (ap (λ (v : RecordedValue). v.stored) c.self.view_is) c.requires.few in
    omega (arith, fits)

pub invariant_of-self-2 : goal.invariant_of-self-2
invariant_of-self-2 c =
    let it : Stored = record { block = c.args.block.now; ext = c.args.ext.now } in
    let index : c.add.new.self.embedded ≡ c.self.inside.uncles.embedded ++ embedded_in c.self.inside.count it.block =
    c.add.ensures.embedded ∙ ap (λ (l : List Embedded). l ++ embedded_in c.self.inside.count c.args.block.now) c.reserve.ensures.embedded in
    let fit : c.first_unfit-self-inside.result ≡ or_unfit c.self.inside.unfit (fits_at c.self.inside.count it) c.self.inside.count =
    c.first_unfit-self-inside.ensures ∙ ap (λ (b : Bool). or_unfit c.self.inside.unfit b c.self.inside.count) c.fits-fits.ensures in
    gathered-more c.self.inside.blocks.stored c.push.new.self.stored it c.self.inside.count (c.self.inside.count + 1) c.self.inside.uncles c.add.new.self c.self.inside.genesis c.take_cells.new.cells
    c.self.inside.unfit c.first_unfit-self-inside.result c.self.invariant c.in_ok-push.ensures.pushed refl index c.in_ok-take_cells.ensures.genesis c.take_cells.ensures.later fit
