use Rattle.std.proofs.Common.{◌≡◌, None, Some, refl, rules}
use Rattle.chain_defs.specs.Shape.{decoded}
use Rattle.chain_defs.specs.Schema as shapes
use Rattle.rule_defs.specs.Genesis.{broken_by}
use Rattle.log_file.proofs.Judging.{not_genesis, breaks_a_rule, breaks_none, genesis_first}
use Rattle.log_file.proofs.Exits.{no_memory_is_no_fault, wrong_is_no_fault}
use Rattle.log_file.proofs.blocks.genesis.Goals as goal

pub returns-in-Ok-None-clause-genesis : goal.returns-in-Ok-None-clause-genesis
returns-in-Ok-None-clause-genesis c =
    let there : decoded shapes.block c.args.body.now ≡ Some c.in-Some.block = search rules in
    let none : broken_by (Some c.in-Some.block) ≡ None = search rules in
    breaks_none c.args.kind c.args.body.now c.in-Some.block (search rules) there none

pub returns-in-Ok-None-clause-first : goal.returns-in-Ok-None-clause-first
returns-in-Ok-None-clause-first c =
    let there : decoded shapes.block c.args.body.now ≡ Some c.in-Some.block = search rules in
    let none : broken_by (Some c.in-Some.block) ≡ None = search rules in
    genesis_first c.in-Some.block none

pub returns-in-Ok-Some-clause-wrong : goal.returns-in-Ok-Some-clause-wrong
returns-in-Ok-Some-clause-wrong c =
    let there : decoded shapes.block c.args.body.now ≡ Some c.in-Some.block = search rules in
    let some : broken_by (Some c.in-Some.block) ≡ Some c.in-Ok-Some.field-0-0 = search rules in
    (refl, breaks_a_rule c.args.kind c.args.body.now c.in-Some.block _ there some)

pub returns-in_default-clause-wrong : goal.returns-in_default-clause-wrong
returns-in_default-clause-wrong c =
    let none : decoded shapes.block c.args.body.now ≡ None = search rules in
    (refl, not_genesis c.args.kind c.args.body.now none)

pub returns-then-kind-ne2-clause-genesis : goal.returns-then-kind-ne2-clause-genesis
returns-then-kind-ne2-clause-genesis c = tt

pub returns-then-kind-ne2-clause-decoded : goal.returns-then-kind-ne2-clause-decoded
returns-then-kind-ne2-clause-decoded c = tt

pub returns-then-kind-ne2-clause-first : goal.returns-then-kind-ne2-clause-first
returns-then-kind-ne2-clause-first c = tt

pub returns-then-kind-ne2-clause-reads : goal.returns-then-kind-ne2-clause-reads
returns-then-kind-ne2-clause-reads c = wrong_is_no_fault _

pub returns-in_default-clause-genesis : goal.returns-in_default-clause-genesis
returns-in_default-clause-genesis c = tt

pub returns-in_default-clause-decoded : goal.returns-in_default-clause-decoded
returns-in_default-clause-decoded c = tt

pub returns-in_default-clause-first : goal.returns-in_default-clause-first
returns-in_default-clause-first c = tt

pub returns-in_default-clause-reads : goal.returns-in_default-clause-reads
returns-in_default-clause-reads c = wrong_is_no_fault _

pub returns-in-Err-clause-genesis : goal.returns-in-Err-clause-genesis
returns-in-Err-clause-genesis c = tt

pub returns-in-Err-clause-decoded : goal.returns-in-Err-clause-decoded
returns-in-Err-clause-decoded c = tt

pub returns-in-Err-clause-first : goal.returns-in-Err-clause-first
returns-in-Err-clause-first c = tt

pub returns-in-Err-clause-reads : goal.returns-in-Err-clause-reads
returns-in-Err-clause-reads c = no_memory_is_no_fault

pub returns-in-Err-clause-wrong : goal.returns-in-Err-clause-wrong
returns-in-Err-clause-wrong c = tt

pub returns-in-Ok-Some-clause-genesis : goal.returns-in-Ok-Some-clause-genesis
returns-in-Ok-Some-clause-genesis c = tt

pub returns-in-Ok-Some-clause-decoded : goal.returns-in-Ok-Some-clause-decoded
returns-in-Ok-Some-clause-decoded c = tt

pub returns-in-Ok-Some-clause-first : goal.returns-in-Ok-Some-clause-first
returns-in-Ok-Some-clause-first c = tt

pub returns-in-Ok-Some-clause-reads : goal.returns-in-Ok-Some-clause-reads
returns-in-Ok-Some-clause-reads c = wrong_is_no_fault _

pub returns-in-Ok-None-clause-wrong : goal.returns-in-Ok-None-clause-wrong
returns-in-Ok-None-clause-wrong c = tt

pub returns-in-Ok-None-clause-reads : goal.returns-in-Ok-None-clause-reads
returns-in-Ok-None-clause-reads c = tt
