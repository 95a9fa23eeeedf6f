use Rattle.std.proofs.Common.{List, take, sym, ap, ◌∙◌, refl, arith}
use Rattle.chain_defs.specs.Branch.{branch}
use Rattle.chain_defs.specs.Schema.{Block}
use Rattle.uncle_rules.proofs.RuleLemmas.{is_placed, unplaced, ill-proposing, one-more, all-are}
use Rattle.uncle_rules.proofs.rule.uncles_ok.Goals as goal

pub uncles-init : goal.uncles-init
uncles-init c kept indexes are = refl

pub returns-then-not-is_placed : goal.returns-then-not-is_placed
returns-then-not-is_placed c kept indexes are =
    let on : List Block = branch kept c.args.parent in
    unplaced c.args.spec.now on c.args.block.now c.uncles.i c.uncles_item-uncle.result c.uncles_item-uncle.ensures
    (ap (is_placed on c.args.block.now (take c.uncles.i c.args.block.now.uncles)) (sym c.header.ensures)
    ∙ sym (c.is_placed.ensures kept indexes are) ∙ c.if-not-is_placed.true)

pub returns-then-not-branch : goal.returns-then-not-branch
returns-then-not-branch c kept indexes are =
    ill-proposing c.args.spec.now (branch kept c.args.parent) c.args.block.now c.uncles.i c.uncles_item-uncle.result c.uncles_item-uncle.ensures
    (sym c.in_ok-proposes_well.ensures ∙ c.if-not-branch.true)

pub uncles-preserved : goal.uncles-preserved
uncles-preserved c kept indexes are =
    let on : List Block = branch kept c.args.parent in
    one-more c.args.spec.now on c.args.block.now c.uncles.i c.uncles_item-uncle.result c.uncles_item-uncle.ensures
    (c.uncles.invariant kept indexes are)
    (ap (is_placed on c.args.block.now (take c.uncles.i c.args.block.now.uncles)) (sym c.header.ensures)
    ∙ sym (c.is_placed.ensures kept indexes are) ∙ c.if-not-is_placed.false)
    (sym c.in_ok-proposes_well.ensures ∙ c.if-not-branch.false)

pub returns : goal.returns
returns c kept indexes are =
    all-are c.args.spec.now (branch kept c.args.parent) c.args.block.now c.uncles.i
    (omega (arith, c.uncles_count-i-end.ensures.value, c.uncles-test.false)) (c.uncles.invariant kept indexes are)
