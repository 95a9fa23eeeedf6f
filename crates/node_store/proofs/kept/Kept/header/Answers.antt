use Rattle.std.proofs.Common.{◌≡◌, List, Option, Some, refl, sym, ap, ◌∙◌, subst}
use Rattle.std.specs.Prelude.{IsSomeAnd}
use Rattle.std.specs.Option.{option_and_then}
use Rattle.outside.proofs.Endings.{handed, no_answer}
use Rattle.chain_defs.specs.Schema.{Block}
use Rattle.chain_defs.specs.Kept.{block_at}
use Rattle.chain_tree.specs.Blocks.{Describes}
use Rattle.chain_tree.specs.Told.{blocks_of}
use Rattle.chain_tree.proofs.ReadLemmas.{unread}
use Rattle.node_store.specs.Kept.{KeptValue}
use Rattle.node_store.proofs.EntryLemmas.{within-entries}
use Rattle.node_store.proofs.QueryLemmas.{block-told, has-none}
use Rattle.node_store.proofs.KeptRecorded.{tells-stored}
use Rattle.node_store.proofs.kept.Kept.header.Goals as goal

pub entry-requires : goal.entry-requires
entry-requires g c = within-entries (blocks_of c.self.inside.blocks.stored) c.args.self.now.chain.blocks c.self.inside.tree.entries c.in-Some.place
    (ap (λ (v : KeptValue). v.chain.blocks) c.self.view_is) c.self.invariant.indexed c.in-Some.ensures.within

pub returns-in_default : goal.returns-in_default
returns-in_default g c = record {
  read = unread c.args.blocks.now;
  header = λ tells. sym c.place_at.ensures.block ∙ ap (option_and_then (block_at c.args.self.now.chain.blocks)) c.in_default.is;
  none = λ empty. (refl, refl);
  undamaged = λ tells damage same. no_answer _ _ same;
}

pub returns-in-Err : goal.returns-in-Err
returns-in-Err g c = record {
  read = c.in-Err.ensures.read;
  header = λ tells. tt;
  none = λ empty. absurd (has-none c.args.self.now.chain.blocks c.in-Some.place c.args.height c.in-Some.ensures.within c.in-Some.ensures.block empty);
  undamaged = λ tells damage same. c.in-Err.ensures.undamaged tells damage (handed c.in-Err.stop _ same);
}

pub returns-clause-read : goal.returns-clause-read
returns-clause-read g c = c.in-Ok.ensures.read

pub returns-clause-undamaged : goal.returns-clause-undamaged
returns-clause-undamaged g c = λ tells damage same. no_answer _ _ same

pub returns-clause-header : goal.returns-clause-header
returns-clause-header g c = λ tells.
    let stored = c.self.inside.blocks.stored in
    let kept : List Block = c.args.self.now.chain.blocks in
    let seen : blocks_of stored ≡ kept = ap (λ (v : KeptValue). v.chain.blocks) c.self.view_is in
    let all = tells-stored c.self.inside.spec stored c.self.inside.tree.entries c.args.self.now _ c.self.view_is tells in
    let there : block_at kept c.in-Some.place ≡ Some c.block.result =
    block-told stored kept c.in-Some.place c.block.result _ _ seen c.in-Some.ensures.within (c.in-Ok.ensures.read.told ∙ all) c.in-Ok.ensures.taken c.block.ensures in
    let is : Describes c.block.result c.entry.result.now =
    subst (λ (found : Option Block). IsSomeAnd found (λ block. Describes block c.entry.result.now)) (ap (λ (blocks : List Block). block_at blocks c.in-Some.place) seen ∙ there)
    (c.entry.ensures.of_block (blocks_of stored) c.self.invariant.indexed) in
    (c.block.result, sym c.in-Some.ensures.block ∙ there, is.hash, c.header_of.ensures)

pub returns-clause-none : goal.returns-clause-none
returns-clause-none g c = λ empty. absurd (has-none c.args.self.now.chain.blocks c.in-Some.place c.args.height c.in-Some.ensures.within c.in-Some.ensures.block empty)
