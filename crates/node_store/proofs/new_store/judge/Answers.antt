use Rattle.std.proofs.Common.{◌≡◌, Option, Some, None, refl, ap, sym, ◌∙◌, rules}
use Rattle.chain_defs.specs.Shape.{decoded}
use Rattle.chain_defs.specs.Schema.{block}
use Rattle.rule_defs.specs.Genesis.{broken_by, broken_genesis_rule}
use Rattle.node_store.proofs.NewLemmas.{broken-of, no_genesis}
use Rattle.node_store.proofs.new_store.judge.Goals as goal

pub returns-in_default-read-clause-bad_genesis : goal.returns-in_default-read-clause-bad_genesis
returns-in_default-read-clause-bad_genesis c rule same =
    let first : 1 ≡ rule = (cc) in
    (c.in_default.ensures.sound, no_genesis c.args.genesis.now (sym c.read-2.ensures.value ∙ c.in_default-read.is) ∙ ap Some first)

pub returns-in-Ok-Some-clause-bad_genesis : goal.returns-in-Ok-Some-clause-bad_genesis
returns-in-Ok-Some-clause-bad_genesis c rule same =
    let there : decoded block c.args.genesis.now ≡ Some c.in-Some.block = search rules in
    let broken : Some c.in-Ok-Some.rule ≡ broken_by (Some c.in-Some.block) = search rules in
    let first : c.in-Ok-Some.rule ≡ rule = (cc) in
    (c.in_default.ensures.sound, broken-of c.args.genesis.now (Some c.in-Some.block) (Some c.in-Ok-Some.rule) there broken ∙ ap Some first)

pub returns-in-Ok-None-clause-good_genesis : goal.returns-in-Ok-None-clause-good_genesis
returns-in-Ok-None-clause-good_genesis c =
    let there : decoded block c.args.genesis.now ≡ Some c.in-Some.block = search rules in
    let broken : None ≡ broken_by (Some c.in-Some.block) = search rules in
    broken-of c.args.genesis.now (Some c.in-Some.block) None there broken

pub invariant_of-result : goal.invariant_of-result
invariant_of-result c =
    let there : decoded block c.args.genesis.now ≡ Some c.in-Some.block = search rules in
    let broken : None ≡ broken_by (Some c.in-Some.block) = search rules in
    record {
      good_spec = c.in_default.ensures.sound;
      good_genesis = broken-of c.args.genesis.now (Some c.in-Some.block) None there broken;
      short_spec = c.requires.spec;
      short_genesis = c.requires.genesis;
      named = (c.in-Some.block, there, c.block_hash.ensures);
    }
