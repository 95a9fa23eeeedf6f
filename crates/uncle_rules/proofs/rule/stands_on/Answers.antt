use Rattle.std.proofs.Common.{◌-◌, List, ℕ, Some, take, ap, ◌∙◌, arith}
use Rattle.std.specs.List.{list_any}
use Rattle.chain_defs.specs.Schema.{Header}
use Rattle.chain_defs.specs.Branch.{branch}
use Rattle.rule_defs.specs.Uncles.{known_headers}
use Rattle.uncle_rules.specs.Known.{is_named}
use Rattle.uncle_rules.proofs.RuleLemmas.{stands-nowhere, stands-same}
use Rattle.uncle_rules.proofs.rule.stands_on.Goals as goal

pub returns-then-number-eq0 : goal.returns-then-number-eq0
returns-then-number-eq0 c kept indexes are =
    stands-nowhere (known_headers (branch kept c.args.parent) (take c.args.earlier c.args.block.now.uncles)) c.args.header.now
    (omega (arith, c.number-number.ensures, c.if-number-eq0.true))

pub returns : goal.returns
returns c kept indexes are =
    let known : List Header = known_headers (branch kept c.args.parent) (take c.args.earlier c.args.block.now.uncles) in
    c.is_known.ensures kept indexes are
    ∙ ap (λ (h : List ℕ). list_any (is_named h (Some (c.number-number.result - 1))) known) c.parent_hash_of.ensures
    ∙ ap (λ (n : ℕ). list_any (is_named c.args.header.now.parent_hash (Some (n - 1))) known) c.number-number.ensures
    ∙ stands-same known c.args.header.now (omega (arith, c.number-number.ensures, c.if-number-eq0.false))
