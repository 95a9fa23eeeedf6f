use Rattle.std.proofs.Common.{List, subst, rules}
use Rattle.std.specs.List.Sorted.{IsPermutation}
use Rattle.std.proofs.lemmas.List.Sorted.{answers_always}
use Rattle.chain_defs.specs.Schema.{OutPoint}
use Rattle.chain_defs.specs.Row.{Row}
use Rattle.cell_state.proofs.ListLemmas.{lists-rows}
use Rattle.cell_state.proofs.slots.Slots.sorted.Goals as goal

pub returns : goal.returns
returns c =
    lists-rows c.args.self.now c.sort_unstable_by_key.new.self.items c.requires c.in_ok-rows.ensures.distinct
    (subst (λ (list : List (OutPoint × Row)). IsPermutation list c.sort_unstable_by_key.new.self.items) c.in_ok-rows.ensures.listed c.sort_unstable_by_key.ensures.permutation)
    (c.sort_unstable_by_key.ensures.sorted (λ p. (p.0.tx_hash, p.0.index)) (answers_always _ _ _ (λ f a r g h. search rules)))
