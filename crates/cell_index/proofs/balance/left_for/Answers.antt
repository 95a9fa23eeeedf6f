use Rattle.std.proofs.Common.{◌≡◌, ℕ, List, None, length, sym, ◌∙◌, subst, arith}
use Rattle.std.specs.List.{filter}
use Rattle.chain_defs.specs.Schema.{OutPoint}
use Rattle.chain_defs.specs.Events.{events_of_block}
use Rattle.chain_defs.specs.Row.{Row, row_after, ListsRows}
use Rattle.chain_defs.specs.Undo.{spent_of}
use Rattle.cell_index.specs.Balance.{is_of, sum_of, Changes, inputs_of}
use Rattle.cell_index.proofs.EventSums.{changes-plain, changes-listed}
use Rattle.cell_index.proofs.balance.left_for.Goals as goal

pub returns-then-inputs_in-spent : goal.returns-then-inputs_in-spent
returns-then-inputs_in-spent c height before above fit count =
    let lock = c.args.lock.now in
    let events = events_of_block height c.args.block.now in
    let all : c.inputs_in.result ≡ inputs_of c.args.block.now = c.inputs_in.ensures in
    let same = c.if-inputs_in-spent.true in
    let plain : length (spent_of events before) ≡ inputs_of c.args.block.now = omega (arith, count, all, same) in
    subst (λ (s : ℕ × ℕ). Changes lock before (row_after c.args.place events before) (sum_of (filter (is_of lock) (spent_of events before))) s) (sym c.made_in.ensures)
    (changes-plain lock c.args.place height c.args.block.now before above fit plain)

pub returns-in-Ok : goal.returns-in-Ok
returns-in-Ok c height before above fit count =
    let lock = c.args.lock.now in
    let events = events_of_block height c.args.block.now in
    let lists = subst (λ (l : List (OutPoint × Row)). ListsRows (row_after c.args.place events (λ _. None)) l) (sym c.deref.ensures.value) (c.in-Ok.ensures height above) in
    subst (λ (s : ℕ × ℕ). Changes lock before (row_after c.args.place events before) (sum_of (filter (is_of lock) (spent_of events before))) s) (sym c.sum_in.ensures)
    (changes-listed lock c.args.place events before c.deref.result.now fit lists)
