use Rattle.std.proofs.Common.{◌≡◌, ℕ, length, ap, sym, ◌∙◌, subst, arith}
use Rattle.report_defs.specs.Simulation.{height_of}
use Rattle.chain_defs.specs.Tip.{tip}
use Rattle.cell_state.specs.State.{StateValue, rows}
use Rattle.node_store.specs.Kept.{AreRowsOfTip}
use Rattle.made_chain.proofs.ImportLemmas.{cells-are, height-is}
use Rattle.made_chain.proofs.counting.counted.Goals as goal

pub returns : goal.returns
returns c =
    let kept = c.args.node.now.chain.blocks in
    let there = c.tip-tip.ensures in
    let size : c.len.result ≡ length c.in_ok-cells.cells.items = omega (arith, c.len.ensures, c.in_ok-cells.cells.ok) in
    let live = subst (λ (s : StateValue). AreRowsOfTip kept (rows s)) (sym c.state.ensures.cells) c.requires.live in
    let cells = size ∙ cells-are kept there.0 (rows c.state.result.now) c.in_ok-cells.cells.items there.1 live c.in_ok-cells.ensures in
    let height = height-is kept there.0 c.tip-tip.result.now.number there.1 there.2.number in
    ap (λ (n : ℕ). record { joined = c.args.joined; height = n; cells = c.len.result }) height
    ∙ ap (λ (n : ℕ). record { joined = c.args.joined; height = height_of (tip kept); cells = n }) cells
