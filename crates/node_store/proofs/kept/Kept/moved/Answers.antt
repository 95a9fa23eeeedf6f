use Rattle.std.proofs.Common.{◌≡◌, ◌≤◌, ◌+◌, List, length, sym, ap, subst}
use Rattle.std.specs.Prelude.{IfOk, OnOk}
use Rattle.chain_tree.specs.Told.{blocks_of}
use Rattle.chain_defs.specs.Schema.{Block}
use Rattle.chain_defs.specs.Branch.{distance}
use Rattle.cell_state.specs.State.{rows}
use Rattle.chain_tree.specs.declared.entry.Entry.{Entry}
use Rattle.chain_tree.specs.Damages.{IsAtRecord}
use Rattle.cell_state.specs.Moves.{AreRowsOfBranch}
use Rattle.store_defs.specs.Store.{AreJoined}
use Rattle.node_store.specs.Kept.{KeptValue}
use Rattle.node_store.proofs.EntryLemmas.{within-entries, fits-below}
use Rattle.node_store.proofs.MovingLemmas.{way-back}
use Rattle.node_store.proofs.KeptSources.{told-stored, counts-entries}
use Rattle.node_store.proofs.kept.Kept.moved.Goals as goal

pub go_to-requires-clause-from : goal.go_to-requires-clause-from
go_to-requires-clause-from g c =
    within-entries (blocks_of c.self.inside.blocks.stored) c.args.self.now.chain.blocks c.self.inside.tree.entries c.args.from
    (ap (λ (v : KeptValue). v.chain.blocks) c.self.view_is) c.self.invariant.indexed c.requires.from

pub go_to-requires-clause-to : goal.go_to-requires-clause-to
go_to-requires-clause-to g c =
    within-entries (blocks_of c.self.inside.blocks.stored) c.args.self.now.chain.blocks c.self.inside.tree.entries c.args.to
    (ap (λ (v : KeptValue). v.chain.blocks) c.self.view_is) c.self.invariant.indexed c.requires.to

pub go_to-requires-clause-counts : goal.go_to-requires-clause-counts
go_to-requires-clause-counts g c =
    counts-entries (blocks_of c.self.inside.blocks.stored) c.args.self.now.chain.blocks c.self.inside.tree.entries _
    (ap (λ (v : KeptValue). v.chain.blocks) c.self.view_is) c.self.invariant.indexed c.requires.counts

pub returns-clause-read : goal.returns-clause-read
returns-clause-read g c = c.go_to.ensures.read

pub returns-clause-cells : goal.returns-clause-cells
returns-clause-cells g c tells live =
    let stored = c.self.inside.blocks.stored in
    let seen = ap (λ (v : KeptValue). v.chain.blocks) c.self.view_is in
    let told = told-stored c.self.inside.spec stored c.self.inside.tree.entries c.args.self.now _ c.self.view_is tells in
    let way = way-back c.self.inside.spec stored c.self.inside.tree.entries c.self.inside.uncles c.args.self.now c.self.view_is
    c.self.invariant c.args.from c.args.to tells.joined in
    subst (λ (blocks : List Block). IfOk c.go_to.result (λ there. AreRowsOfBranch blocks c.args.to (rows there))) seen
    (c.go_to.ensures.rows stored told c.self.invariant.indexed way
    (subst (λ (blocks : List Block). AreRowsOfBranch blocks c.args.from (rows c.args.state)) (sym seen) live))

pub returns-clause-undamaged : goal.returns-clause-undamaged
returns-clause-undamaged g c tells live =
    let stored = c.self.inside.blocks.stored in
    let seen = ap (λ (v : KeptValue). v.chain.blocks) c.self.view_is in
    let told = told-stored c.self.inside.spec stored c.self.inside.tree.entries c.args.self.now _ c.self.view_is tells in
    let way = way-back c.self.inside.spec stored c.self.inside.tree.entries c.self.inside.uncles c.args.self.now c.self.view_is
    c.self.invariant c.args.from c.args.to tells.joined in
    c.go_to.ensures.undamaged stored told c.self.invariant.indexed way
    (subst (λ (blocks : List Block). AreRowsOfBranch blocks c.args.from (rows c.args.state)) (sym seen) live)
    (fits-below (record { spec = c.self.inside.spec; blocks = blocks_of stored }) c.self.inside.tree.entries c.args.to
    (subst (λ (v : KeptValue). AreJoined v.chain v.exts) (sym c.self.view_is) tells.joined).joined c.self.invariant.indexed
    (within-entries (blocks_of stored) c.args.self.now.chain.blocks c.self.inside.tree.entries c.args.to seen
    c.self.invariant.indexed c.requires.to))

pub returns-clause-steps : goal.returns-clause-steps
returns-clause-steps g c =
    subst (λ (blocks : List Block). OnOk c.go_to.result (c.go_to.new.steps ≡ c.args.steps.now + distance blocks c.args.from c.args.to))
    (ap (λ (v : KeptValue). v.chain.blocks) c.self.view_is) (c.go_to.ensures.steps (blocks_of c.self.inside.blocks.stored) c.self.invariant.indexed)

pub returns-clause-most : goal.returns-clause-most
returns-clause-most g c =
    subst (λ (blocks : List Block). c.go_to.new.steps ≤ c.args.steps.now + distance blocks c.args.from c.args.to)
    (ap (λ (v : KeptValue). v.chain.blocks) c.self.view_is) (c.go_to.ensures.most (blocks_of c.self.inside.blocks.stored) c.self.invariant.indexed)

pub returns-clause-at_record : goal.returns-clause-at_record
returns-clause-at_record g c = λ told damage e.
    let found = c.go_to.ensures.at_record (blocks_of c.self.inside.blocks.stored) c.self.invariant.indexed told damage e in
    (found.0, subst (λ (entries : List Entry). IsAtRecord entries found.0 damage) (ap (λ (v : KeptValue). v.entries) c.self.view_is) found.1.1)

pub returns-clause-below : goal.returns-clause-below
returns-clause-below g c = c.go_to.ensures.below (length c.args.self.now.chain.blocks) c.requires.from c.requires.to
