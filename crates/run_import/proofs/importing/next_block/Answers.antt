use Rattle.std.proofs.Common.{arith, sym}
use Rattle.run_import.proofs.ImportLemmas.{known_limits, input_limit-is}
use Rattle.run_text.proofs.Limits.{item_limit-is}
use Rattle.run_import.proofs.importing.next_block.Goals as goal

pub next_item-requires : goal.next_item-requires
next_item-requires g c = omega (arith, input_limit-is, c.requires)

pub returns-clause-next : goal.returns-clause-next
returns-clause-next g c =
    let next = c.next_item.ensures.next in
    (next.0, next.1, known_limits _ _ (sym item_limit-is) (sym input_limit-is) c.args.offset (g.S.Source.left c.next_item.new.input) c.next_item.result next.0 next.2)
