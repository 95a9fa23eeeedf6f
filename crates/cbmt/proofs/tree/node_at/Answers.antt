use Rattle.std.proofs.Common.{◌≡◌, ◌-◌, length, arith, sym}
use Rattle.chain_defs.proofs.RootLaws.{node-leaf}
use Rattle.cbmt.proofs.tree.node_at.Goals as goal

pub returns-else-j-inner : goal.returns-else-j-inner
returns-else-j-inner c =
    let count : length c.args.inner.now ≡ length c.args.items.now - 1 = omega (arith, c.requires.count) in
    rw count (sym (node-leaf c.args.items.now c.args.j (omega (arith, c.if-j-inner.false))))
