use Rattle.std.proofs.Common.{◌≡◌, ℕ, List, length, drop, Some, None, ap, ◌∙◌, arith}
use Rattle.std.specs.List.{sum}
use Rattle.std.proofs.lemmas.Option.{same_Some}
use Rattle.chain_defs.specs.Branch.{branch}
use Rattle.rule_defs.specs.Capacity.{fees_from}
use Rattle.outside.specs.declared.disk.ReadStop.{ReadStop}
use Rattle.chain_tree.specs.Told.{blocks_of}
use Rattle.chain_tree.proofs.ReadLemmas.{same_stop}
use Rattle.supply_defs.specs.Step.{paid_by}
use Rattle.supply.proofs.KeptLemmas.{InHand, in-hand}
use Rattle.supply.proofs.fees.flows_at.Goals as goal

pub returns-in-Some-clause-flows : goal.returns-in-Some-clause-flows
returns-in-Some-clause-flows g c spec stored parent b tells on there =
    let fees : List ℕ = fees_from spec (branch (blocks_of stored) parent) b 1 (drop 1 b.transactions) in
    let hand : InHand spec (branch (blocks_of stored) parent) b c.block-block.result c.spent.result.now =
    in-hand spec (g.B.Blocks.told c.args.blocks.now) _ c.args.tree.now.entries stored c.args.place parent b c.block-block.result _ c.spent.result.now tells
    c.in-Ok.ensures.read.told c.in-Ok.ensures.taken c.requires.later on there c.block-block.ensures c.spent.ensures.ext in
    let count : c.saturating_sub-count.result ≡ length fees = let many = hand.count in omega (arith, many, c.saturating_sub-count.ensures, c.transactions_count.ensures.value) in
    let is : c.in-Some.fees ≡ sum fees = same_Some c.in-Some.fees (sum fees) (c.in-Some.ensures.sum fees hand.fees count) in
    let paid : c.paid_by-paid.result ≡ paid_by b = c.paid_by-paid.ensures.paid ∙ ap paid_by hand.same in
    (λ i. (is i, paid i))

pub returns-in-None-clause-of_block : goal.returns-in-None-clause-of_block
returns-in-None-clause-of_block g c stored tells damage same =
    let is = same_stop _ _ same in
    (c.damaged_at.ensures.read.damage damage (ap (λ (stop : ReadStop). Some stop) is), (c.args.place, c.damaged_at.ensures.at_record damage is))

pub returns-in-None-clause-flows : goal.returns-in-None-clause-flows
returns-in-None-clause-flows g c spec stored parent b tells on there =
    let fees : List ℕ = fees_from spec (branch (blocks_of stored) parent) b 1 (drop 1 b.transactions) in
    let hand : InHand spec (branch (blocks_of stored) parent) b c.block-block.result c.spent.result.now =
    in-hand spec (g.B.Blocks.told c.args.blocks.now) _ c.args.tree.now.entries stored c.args.place parent b c.block-block.result _ c.spent.result.now tells
    c.in-Ok.ensures.read.told c.in-Ok.ensures.taken c.requires.later on there c.block-block.ensures c.spent.ensures.ext in
    let count : c.saturating_sub-count.result ≡ length fees = let many = hand.count in omega (arith, many, c.saturating_sub-count.ensures, c.transactions_count.ensures.value) in
    let none : None ≡ Some (sum fees) = c.in-None.ensures.sum fees hand.fees count in
    absurd (cc)
