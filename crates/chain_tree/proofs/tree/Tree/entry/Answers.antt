use Rattle.std.proofs.Common.{◌<◌, length, refl, ap, sym, ◌∙◌, arith}
use Rattle.std.proofs.lemmas.Option.{slice_get_read}
use Rattle.chain_tree.specs.Entries.{TreeValue, entry_at}
use Rattle.chain_tree.proofs.BlockLemmas.{entry-same}
use Rattle.chain_tree.proofs.tree.Tree.entry.Goals as goal

pub returns-clause-of_block : goal.returns-clause-of_block
returns-clause-of_block c kept indexes =
    let inside = c.self.inside.entries.items in
    let below : c.args.place < length inside = omega (arith, c.requires, ap length (ap (λ (v : TreeValue). v.entries) c.self.view_is)) in
    entry-same kept c.args.self.now.entries c.args.place c.index.result.now indexes
    (sym (ap (λ (v : TreeValue). entry_at v.entries c.args.place) c.self.view_is)
    ∙ slice_get_read inside (length inside) c.args.place c.index.result.now refl below c.index.ensures)
