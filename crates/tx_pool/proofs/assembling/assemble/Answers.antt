use Rattle.std.proofs.Common.{ℕ, cond, Vec, Global, Some, map, ap, ◌∙◌}
use Rattle.std.specs.Prelude.{is_some}
use Rattle.chain_defs.specs.Schema as schema
use Rattle.chain_defs.specs.Schema.{Block}
use Rattle.chain_defs.specs.Branch.{branch}
use Rattle.chain_defs.specs.Kept.{block_hash, place_of}
use Rattle.chain_tree.specs.Told.{blocks_of}
use Rattle.verdict_defs.specs.Rules.{first_broken}
use Rattle.tx_pool.specs.declared.assembling.Assembled.{Assembled}
use Rattle.tx_pool.proofs.AssemblingLemmas.{answer-breaks, answer-is, answer-joins, answer-on, bytes-as, founded}
use Rattle.tx_pool.proofs.assembling.assemble.Goals as goal

pub make_block-requires-clause-items : goal.make_block-requires-clause-items
make_block-requires-clause-items g c = c.requires.small.items_fit

pub make_block-requires-clause-bytes : goal.make_block-requires-clause-bytes
make_block-requires-clause-bytes g c = c.requires.small.bytes_fit

pub make_block-requires-clause-witness : goal.make_block-requires-clause-witness
make_block-requires-clause-witness g c = c.requires.small.witness_fits

pub returns-clause-assembled_on : goal.returns-clause-assembled_on
returns-clause-assembled_on g c stored tells stands =
    let answer : Assembled = record { lines = c.in-Ok.made.0; block = c.in-Ok.made.1; broken = c.in-Ok-broken_by.broken } in
    answer-on c.args.context.now.spec.now (blocks_of stored) c.args.context.now.parent c.args.witness.now (map (λ (item : Vec ℕ Global). item.items) c.args.items.now)
    answer (c.in-Ok.ensures.made stored tells stands)
    (λ b isa. c.in-Ok-broken_by.ensures.broken stored (c.in-Ok.ensures.read.told ∙ tells) stands
    ∙ ap (λ (it : Block). cond (is_some (place_of (blocks_of stored) (block_hash it))) (Some 2) (first_broken c.args.context.now.spec.now (branch (blocks_of stored) c.args.context.now.parent) it))
    (c.from_encoding.ensures b (bytes-as schema.block _ _ b c.deref.ensures.value isa)))

pub returns-clause-assembled : goal.returns-clause-assembled
returns-clause-assembled g c stored tells stands top =
    let answer : Assembled = record { lines = c.in-Ok.made.0; block = c.in-Ok.made.1; broken = c.in-Ok-broken_by.broken } in
    answer-is c.args.context.now.spec.now (blocks_of stored) c.args.context.now.parent c.args.witness.now (map (λ (item : Vec ℕ Global). item.items) c.args.items.now) top
    answer (c.in-Ok.ensures.made stored tells stands)
    (λ b isa. c.in-Ok-broken_by.ensures.broken stored (c.in-Ok.ensures.read.told ∙ tells) stands
    ∙ ap (λ (it : Block). cond (is_some (place_of (blocks_of stored) (block_hash it))) (Some 2) (first_broken c.args.context.now.spec.now (branch (blocks_of stored) c.args.context.now.parent) it))
    (c.from_encoding.ensures b (bytes-as schema.block _ _ b c.deref.ensures.value isa)))

pub returns-clause-joins : goal.returns-clause-joins
returns-clause-joins g c stored tells stands top room b same unbroken =
    let answer : Assembled = record { lines = c.in-Ok.made.0; block = c.in-Ok.made.1; broken = c.in-Ok-broken_by.broken } in
    answer-joins c.args.context.now.spec.now (blocks_of stored) c.args.context.now.parent c.args.witness.now (map (λ (item : Vec ℕ Global). item.items) c.args.items.now) top
    answer (c.in-Ok.ensures.made stored tells stands)
    (λ b isa. c.in-Ok-broken_by.ensures.broken stored (c.in-Ok.ensures.read.told ∙ tells) stands
    ∙ ap (λ (it : Block). cond (is_some (place_of (blocks_of stored) (block_hash it))) (Some 2) (first_broken c.args.context.now.spec.now (branch (blocks_of stored) c.args.context.now.parent) it))
    (c.from_encoding.ensures b (bytes-as schema.block _ _ b c.deref.ensures.value isa)))
    b same (founded (blocks_of stored) c.args.context.now.tree.now.entries c.args.context.now.parent stands.stands.indexed c.requires.placed.parent) room unbroken

pub returns-clause-breaks_few : goal.returns-clause-breaks_few
returns-clause-breaks_few g c stored tells stands top rule broke =
    let answer : Assembled = record { lines = c.in-Ok.made.0; block = c.in-Ok.made.1; broken = c.in-Ok-broken_by.broken } in
    answer-breaks c.args.context.now.spec.now (blocks_of stored) c.args.context.now.parent c.args.witness.now (map (λ (item : Vec ℕ Global). item.items) c.args.items.now) top
    answer (c.in-Ok.ensures.made stored tells stands)
    (λ b isa. c.in-Ok-broken_by.ensures.broken stored (c.in-Ok.ensures.read.told ∙ tells) stands
    ∙ ap (λ (it : Block). cond (is_some (place_of (blocks_of stored) (block_hash it))) (Some 2) (first_broken c.args.context.now.spec.now (branch (blocks_of stored) c.args.context.now.parent) it))
    (c.from_encoding.ensures b (bytes-as schema.block _ _ b c.deref.ensures.value isa)))
    rule (founded (blocks_of stored) c.args.context.now.tree.now.entries c.args.context.now.parent stands.stands.indexed c.requires.placed.parent) broke
