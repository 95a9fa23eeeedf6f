use Rattle.std.proofs.Common.{◌≡◌, List, Option, length, refl, sym, ap, ◌∙◌, subst, arith}
use Rattle.outside.proofs.Endings.{handed, no_answer}
use Rattle.chain_defs.specs.Schema.{Block}
use Rattle.chain_defs.specs.Row.{Row}
use Rattle.chain_tree.specs.Damages.{IsOfBlock}
use Rattle.chain_tree.specs.Told.{blocks_of}
use Rattle.chain_tree.proofs.BlockLemmas.{len-same}
use Rattle.chain_tree.proofs.ReadLemmas.{unread}
use Rattle.node_store.specs.Kept.{KeptValue, stored_of}
use Rattle.node_store.specs.Queries.{LiveValue, IsLiveRow, IsLiveCell}
use Rattle.node_store.proofs.QueryLemmas.{names-of, not-live, of-entry}
use Rattle.node_store.proofs.KeptRecorded.{blocks-told}
use Rattle.node_store.proofs.kept.Kept.fetch.Goals as goal

pub live-requires : goal.live-requires
live-requires g c = record { below = c.requires.below }

pub entry-requires : goal.entry-requires
entry-requires g c =
    omega (
      arith,
      c.requires.below c.args.o c.in-Some.live.row (sym c.in-Some.ensures.row),
      ap (λ (live : LiveValue). live.row.block) c.live-2.view_is,
      len-same (blocks_of c.self.inside.blocks.stored) c.self.inside.tree.entries c.self.invariant.indexed,
      ap (λ (v : KeptValue). length v.chain.blocks) c.self.view_is,
      ap (λ (row : Row). row.block) c.meta.view_is,
    )

pub fetch-requires : goal.fetch-requires
fetch-requires g c = record {
  within = omega (arith, c.requires.below c.args.o c.in-Some.live.row (sym c.in-Some.ensures.row), ap (λ (live : LiveValue). live.row.block) c.live-2.view_is, c.requires.counts);
}

pub returns-in_default : goal.returns-in_default
returns-in_default g c = record {
  read = unread c.args.blocks.now;
  fetched = λ tells at_tip. subst (λ (found : Option LiveValue). IsLiveCell c.args.self.now.chain.blocks c.args.o found) c.in_default.is (c.live.ensures.live at_tip);
  none = λ at_tip dead. (refl, refl);
  undamaged = λ tells at_tip damage same. no_answer _ _ same;
  of_block = λ tells damage same. absurd (no_answer _ _ same);
}

pub returns-in-Err : goal.returns-in-Err
returns-in-Err g c = record {
  read = c.in-Err.ensures.read;
  fetched = λ tells at_tip. tt;
  none = λ at_tip dead. absurd (not-live c.args.self.now.chain.blocks c.args.o c.in-Some.live (c.in-Some.ensures.live at_tip) dead);
  undamaged = λ tells at_tip damage same.
      let seen = blocks-told c.args.self.now _ _ tells (g.met.B.Blocks.told_all c.args.blocks.now) c.requires.counts in
      let live = c.in-Some.ensures.live at_tip in
      let meta : c.live-2.inside.meta ≡ c.in-Some.live.row = ap (λ (l : LiveValue). l.row) c.live-2.view_is in
      let names = names-of (stored_of c.args.self.now) c.args.o live.0 c.live-2.inside.meta
      (subst (λ (row : Row). IsLiveRow (blocks_of (stored_of c.args.self.now)) c.args.o live.0 row) (sym meta)
      (subst (λ (blocks : List Block). IsLiveRow blocks c.args.o live.0 c.in-Some.live.row) (sym seen) live.1)) in
      c.in-Err.ensures.undamaged (stored_of c.args.self.now) live.0 tells names damage (handed c.in-Err.stop _ same);
  of_block = λ tells damage same.
      let is = c.in-Err.ensures.place tells damage (handed c.in-Err.stop _ same) in
      subst (λ (v : KeptValue). IsOfBlock v.entries damage) c.self.view_is
      (of-entry c.self.inside.tree.entries _ c.entry.result.now damage c.entry.ensures.entry is);
}

pub returns-clause-read : goal.returns-clause-read
returns-clause-read g c = c.in-Ok.ensures.read

pub returns-clause-undamaged : goal.returns-clause-undamaged
returns-clause-undamaged g c = λ tells at_tip damage same. no_answer _ _ same

pub returns-clause-fetched : goal.returns-clause-fetched
returns-clause-fetched g c = λ tells at_tip.
    let seen = blocks-told c.args.self.now _ _ tells (g.met.B.Blocks.told_all c.args.blocks.now) c.requires.counts in
    let live = c.in-Some.ensures.live at_tip in
    let meta : c.live-2.inside.meta ≡ c.in-Some.live.row = ap (λ (l : LiveValue). l.row) c.live-2.view_is in
    let names = names-of (stored_of c.args.self.now) c.args.o live.0 c.live-2.inside.meta
    (subst (λ (row : Row). IsLiveRow (blocks_of (stored_of c.args.self.now)) c.args.o live.0 row) (sym meta)
    (subst (λ (blocks : List Block). IsLiveRow blocks c.args.o live.0 c.in-Some.live.row) (sym seen) live.1)) in (
      live.0,
      subst (λ (row : Row). IsLiveRow c.args.self.now.chain.blocks c.args.o live.0 row) (sym (c.in-Ok.ensures.row ∙ meta)) live.1,
      c.in-Ok.ensures.copied (stored_of c.args.self.now) live.0 tells names,
      ap (λ (l : LiveValue). l.height) c.live-2.view_is ∙ live.2,
    )

pub returns-clause-none : goal.returns-clause-none
returns-clause-none g c = λ at_tip dead. absurd (not-live c.args.self.now.chain.blocks c.args.o c.in-Some.live (c.in-Some.ensures.live at_tip) dead)

pub returns-clause-of_block : goal.returns-clause-of_block
returns-clause-of_block g c = λ tells damage same. absurd (no_answer _ _ same)
