use Rattle.std.proofs.Common.{◌≡◌, ℕ, ◌<◌, List, length, Some, ap, sym, ◌∙◌, subst, arith, rules}
use Rattle.std.specs.Option.{option_and_then}
use Rattle.outside.proofs.Endings.{handed, no_answer, memory_undamaged}
use Rattle.chain_defs.specs.Shape.{IsEncoding}
use Rattle.chain_defs.specs.Schema as schema
use Rattle.chain_defs.specs.Schema.{Block}
use Rattle.chain_defs.specs.Kept.{block_at, place_of}
use Rattle.chain_tree.specs.Told.{blocks_of}
use Rattle.chain_tree.proofs.BlockLemmas.{len-same}
use Rattle.chain_tree.proofs.ReadLemmas.{unread, read_short}
use Rattle.node_store.specs.Kept.{KeptValue}
use Rattle.node_store.proofs.QueryLemmas.{block-told}
use Rattle.node_store.proofs.KeptRecorded.{tells-stored}
use Rattle.run_ask.proofs.over_blocks.named.Goals as goal

pub bring-requires : goal.bring-requires
bring-requires g c =
    let seen : blocks_of c.kept.inside.blocks.stored ≡ c.args.kept.now.chain.blocks = ap (λ (v : KeptValue). v.chain.blocks) c.kept.view_is in
    record {
      within = omega (arith, c.requires.counts, c.in-Some.ensures.within, len-same (blocks_of c.kept.inside.blocks.stored) c.kept.inside.tree.entries c.kept.invariant.indexed, ap (λ (l : List Block). length l) seen);
    }

pub returns-in_default : goal.returns-in_default
returns-in_default g c = record {
  read = unread c.args.blocks.now;
  block = λ tells.
      let seen : blocks_of c.kept.inside.blocks.stored ≡ c.args.kept.now.chain.blocks = ap (λ (v : KeptValue). v.chain.blocks) c.kept.view_is in
      ap (option_and_then (block_at c.args.kept.now.chain.blocks)) (ap (λ (l : List Block). place_of l c.args.hash.now) (sym seen)
      ∙ sym (c.find.ensures.of_blocks (blocks_of c.kept.inside.blocks.stored) c.kept.invariant.indexed) ∙ c.in_default.is);
  undamaged = λ tells damage same. no_answer _ _ same;
}

pub returns-in-Err : goal.returns-in-Err
returns-in-Err g c = record {
  read = c.in-Err.ensures.read;
  block = λ tells. tt;
  undamaged = λ tells damage same. c.in-Err.ensures.undamaged tells damage (handed c.in-Err.stop _ same);
}

pub returns-in_default-to_vec : goal.returns-in_default-to_vec
returns-in_default-to_vec g c = record {
  read = read_short c.in-Ok.ensures.read;
  block = λ tells. tt;
  undamaged = λ tells damage same. memory_undamaged damage same;
}

pub returns-clause-read : goal.returns-clause-read
returns-clause-read g c = c.in-Ok.ensures.read

pub returns-clause-undamaged : goal.returns-clause-undamaged
returns-clause-undamaged g c = λ tells damage same. no_answer _ _ same

pub returns-clause-block : goal.returns-clause-block
returns-clause-block g c = λ tells.
    let stored = c.kept.inside.blocks.stored in
    let kept : List Block = c.args.kept.now.chain.blocks in
    let seen : blocks_of stored ≡ kept = ap (λ (v : KeptValue). v.chain.blocks) c.kept.view_is in
    let all = tells-stored c.kept.inside.spec stored c.kept.inside.tree.entries c.args.kept.now _ c.kept.view_is tells in
    let within : c.in-Some.place < length kept =
    omega (arith, c.in-Some.ensures.within, len-same (blocks_of stored) c.kept.inside.tree.entries c.kept.invariant.indexed, ap (λ (l : List Block). length l) seen) in
    let there : block_at kept c.in-Some.place ≡ Some c.block.result =
    block-told stored kept c.in-Some.place c.block.result _ _ seen within (c.in-Ok.ensures.read.told ∙ all) c.in-Ok.ensures.taken c.block.ensures in
    let named : place_of kept c.args.hash.now ≡ Some c.in-Some.place = ap (λ (l : List Block). place_of l c.args.hash.now) (sym seen)
    ∙ sym (c.find.ensures.of_blocks (blocks_of stored) c.kept.invariant.indexed) ∙ c.in-Some.is in
    let copied : c.in-Ok-to_vec.bytes.items ≡ c.bytes.result.now = search rules in (
      c.block.result,
      ap (option_and_then (block_at kept)) named ∙ there,
      subst (λ (bytes : List ℕ). IsEncoding schema.block bytes c.block.result) (sym copied) c.bytes.ensures,
    )
