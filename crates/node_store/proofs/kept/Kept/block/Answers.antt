use Rattle.std.proofs.Common.{◌≡◌, ℕ, List, Some, refl, sym, ap, ◌∙◌, subst, rules}
use Rattle.std.specs.Option.{option_and_then}
use Rattle.outside.proofs.Endings.{handed, no_answer, memory_undamaged}
use Rattle.chain_defs.specs.Shape.{IsEncoding}
use Rattle.chain_defs.specs.Schema as schema
use Rattle.chain_defs.specs.Schema.{Block}
use Rattle.chain_defs.specs.Kept.{block_at}
use Rattle.chain_tree.specs.Told.{blocks_of}
use Rattle.chain_tree.proofs.ReadLemmas.{unread, read_short}
use Rattle.node_store.specs.Kept.{stored_of}
use Rattle.node_store.proofs.QueryLemmas.{block-told, has-none}
use Rattle.node_store.proofs.KeptRecorded.{blocks-told}
use Rattle.node_store.proofs.kept.Kept.block.Goals as goal

pub returns-in_default : goal.returns-in_default
returns-in_default g c = record {
  read = unread c.args.blocks.now;
  block = λ tells. sym c.place_at.ensures.block ∙ ap (option_and_then (block_at c.args.self.now.chain.blocks)) c.in_default.is;
  none = λ empty. (refl, refl);
  undamaged = λ tells damage same. no_answer _ _ same;
}

pub returns-in-Err : goal.returns-in-Err
returns-in-Err g c = record {
  read = c.in-Err.ensures.read;
  block = λ tells. tt;
  none = λ empty. absurd (has-none c.args.self.now.chain.blocks c.in-Some.place c.args.height c.in-Some.ensures.within c.in-Some.ensures.block empty);
  undamaged = λ tells damage same. c.in-Err.ensures.undamaged tells damage (handed c.in-Err.stop _ same);
}

pub returns-in_default-to_vec : goal.returns-in_default-to_vec
returns-in_default-to_vec g c = record {
  read = read_short c.in-Ok.ensures.read;
  block = λ tells. tt;
  none = λ empty. absurd (has-none c.args.self.now.chain.blocks c.in-Some.place c.args.height c.in-Some.ensures.within c.in-Some.ensures.block empty);
  undamaged = λ tells damage same. memory_undamaged damage same;
}

pub returns-clause-read : goal.returns-clause-read
returns-clause-read g c = c.in-Ok.ensures.read

pub returns-clause-undamaged : goal.returns-clause-undamaged
returns-clause-undamaged g c = λ tells damage same. no_answer _ _ same

pub returns-clause-block : goal.returns-clause-block
returns-clause-block g c = λ tells.
    let stored = stored_of c.args.self.now in
    let kept : List Block = c.args.self.now.chain.blocks in
    let seen : blocks_of stored ≡ kept = blocks-told c.args.self.now _ _ tells (g.met.B.Blocks.told_all c.args.blocks.now) c.requires.counts in
    let there : block_at kept c.in-Some.place ≡ Some c.block.result =
    block-told stored kept c.in-Some.place c.block.result _ _ seen c.in-Some.ensures.within (c.in-Ok.ensures.read.told ∙ tells) c.in-Ok.ensures.taken c.block.ensures in
    let copied : c.in-Ok-to_vec.bytes.items ≡ c.bytes.result.now = search rules in (
      c.block.result,
      sym c.in-Some.ensures.block ∙ there,
      subst (λ (bytes : List ℕ). IsEncoding schema.block bytes c.block.result) (sym copied) c.bytes.ensures,
    )

pub returns-clause-none : goal.returns-clause-none
returns-clause-none g c = λ empty. absurd (has-none c.args.self.now.chain.blocks c.in-Some.place c.args.height c.in-Some.ensures.within c.in-Some.ensures.block empty)
