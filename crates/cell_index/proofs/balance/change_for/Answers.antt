use Rattle.std.proofs.Common.{◌≡◌, ℕ, List, length, sym, ap, ◌∙◌, subst, rules}
use Rattle.std.specs.List.{filter}
use Rattle.chain_defs.specs.Schema.{OutPoint, Block}
use Rattle.chain_defs.specs.Row.{Row, live_row}
use Rattle.chain_tree.specs.Told.{Stored, blocks_of}
use Rattle.cell_state.proofs.ToldLemmas.{told-it}
use Rattle.cell_index.specs.Balance.{is_of, sum_of, Changes}
use Rattle.cell_index.proofs.BalanceLemmas.{changes-on}
use Rattle.cell_index.proofs.balance.change_for.Goals as goal

pub returns-in-Ok-left_for-clause-changes : goal.returns-in-Ok-left_for-clause-changes
returns-in-Ok-left_for-clause-changes g c stored parent tells step =
    let lock = c.args.lock.now in
    let block : c.block.result ≡ step.it.block =
    told-it (λ (s : Stored). c.block.result ≡ s.block) stored c.args.place step.it _ _ (c.in-Ok.ensures.read.told ∙ tells) c.in-Ok.ensures.taken step.there c.block.ensures in
    let spent = c.in-Ok.ensures.spent stored step.it step.can.ext tells step.there step.can.fits step.can.bytes_are in
    let long : c.len-count.result ≡ length c.in-Ok.spent.items = search rules in
    let sum : c.sum_in.result ≡ sum_of (filter (is_of lock) c.in-Ok.spent.items) =
    c.sum_in.ensures ∙ ap (λ (l : List (OutPoint × Row)). sum_of (filter (is_of lock) l)) c.deref.ensures.value in
    subst (λ (s : ℕ × ℕ). Changes lock (live_row (blocks_of stored) parent) (live_row (blocks_of stored) c.args.place) s c.in-Ok-left_for.left) (sym sum)
    (changes-on lock stored parent c.args.place step c.block.result c.in-Ok.spent.items c.in-Ok-left_for.left block spent
    (λ height before above fit count. c.in-Ok-left_for.ensures height before above fit (count ∙ sym long)))
