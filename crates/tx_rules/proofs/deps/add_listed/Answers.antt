use Rattle.std.proofs.Common.{◌++◌, Some, List, ap, sym, ◌∙◌, map, append-nil, arith}
use Rattle.std.specs.Option.{option_map}
use Rattle.std.proofs.lemmas.List.{take_all}
use Rattle.chain_defs.specs.Schema.{OutPoint}
use Rattle.chain_defs.specs.Row.{Row}
use Rattle.rule_defs.specs.Site.{all_there}
use Rattle.tx_rules.specs.At.{find_row}
use Rattle.tx_rules.proofs.AllThere.{there-more-behind, there-none}
use Rattle.tx_rules.proofs.deps.add_listed.Goals as goal

pub members-init : goal.members-init
unfolding all_there
members-init g c = ap (λ (rows : List (OutPoint × Row)). Some rows) (sym (append-nil c.args.found.now.items))

pub returns-in-None : goal.returns-in-None
returns-in-None g c =
    sym (ap (option_map (λ (rows : List (OutPoint × Row)). c.args.found.now.items ++ rows))
    (there-none (find_row (g.C.Cells.rows c.args.cells.now)) c.args.members.now c.members.i c.item.result c.item.ensures (sym c.find_row.ensures ∙ c.in-None.is)))

pub members-preserved : goal.members-preserved
members-preserved g c =
    ap (λ (rows : List (OutPoint × Row)). Some rows) c.in_ok-push-in-Some.ensures.items
    ∙ there-more-behind (find_row (g.C.Cells.rows c.args.cells.now)) c.args.members.now c.members.i c.item.result c.in-Some.row c.args.found.now.items c.members.found.items
    c.members.invariant c.item.ensures (sym c.find_row.ensures ∙ c.in-Some.is)

pub returns : goal.returns
returns g c =
    c.members.invariant
    ∙ ap (λ (members : List OutPoint). option_map (λ (rows : List (OutPoint × Row)). c.args.found.now.items ++ rows) (all_there (map (find_row (g.C.Cells.rows c.args.cells.now)) members)))
    (take_all c.members.i c.args.members.now (omega (arith, c.members-test.false, c.count-i-end.ensures.value)))
