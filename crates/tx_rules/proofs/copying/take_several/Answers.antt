use Rattle.std.proofs.Common.{◌<◌, ◌-◌, ℕ, List, length, drop, Option, ap, sym, subst, ◌∙◌, arith}
use Rattle.std.proofs.lemmas.List.Elements.{All-drop, All-take}
use Rattle.chain_defs.specs.Schema.{OutPoint}
use Rattle.chain_defs.specs.Row.{Row}
use Rattle.chain_tree.specs.Told.{Stored}
use Rattle.cell_state.specs.Copies.{ResolvedValue}
use Rattle.tx_rules.specs.At.{AtValue}
use Rattle.tx_rules.specs.Copying.{AreRowsCopied}
use Rattle.outside.proofs.Endings.{no_answer, handed}
use Rattle.chain_tree.proofs.ReadLemmas.{unread, read_on, read_is}
use Rattle.tx_rules.proofs.copying.take_several.Goals as goal
use Rattle.tx_rules.proofs.copying.take_several.Goals.{then-row-kept+then-starts_several+in-Ok, else-row-kept}

pub order-init : goal.order-init
order-init g c = record {
  read = unread c.args.blocks.now;
  long = c.requires.long;
  taken = λ before. before;
}

pub starts_several-requires : goal.starts_several-requires
starts_several-requires g c = c.order-test.true

pub take_kept-requires : goal.take_kept-requires
take_kept-requires g c = record {
  placed = c.requires.placed;
  counts = c.order.invariant.read.count ∙ c.requires.counts;
  within =
      let place = ap (λ (it : OutPoint × Row). it.1.block) c.row.view_is in
      let long = c.len-kept.ensures.len ∙ ap (λ (at : AtValue). length at.entries) c.at.view_is in
      let below = c.if-row-kept.true in
      omega (arith, place, long, below);
  places =
      All-take (λ (it : ℕ × ℕ). it.1 < length c.args.rows.now) (length c.args.order.now - c.order.j) (drop c.order.j c.args.order.now)
      (All-drop (λ (it : ℕ × ℕ). it.1 < length c.args.rows.now) c.order.j c.args.order.now c.requires.places);
  long = c.order.invariant.long;
}

pub returns-in-Err : goal.returns-in-Err
returns-in-Err g c = record {
  read = read_on c.order.invariant.read c.in-Err.ensures.read;
  long = c.in-Err.ensures.long;
  taken = λ before. tt;
  undamaged = λ stored seen site founds tells is are_seen rows damage same.
      c.in-Err.ensures.undamaged stored seen site founds (c.order.invariant.read.told ∙ tells) is are_seen rows damage (handed c.in-Err.stop _ same);
}

pub order-preserved : goal.order-preserved
order-preserved g c = elim c.if-row-kept.branch [
  | then-row-kept+then-starts_several+in-Ok w ↦ record {
    read = read_is w.blocks-is (read_on c.order.invariant.read w.in-Ok.ensures.read);
    long = ap length w.taken-is ∙ w.in-Ok.ensures.long;
    taken = λ before. subst (λ (slots : List (Option ResolvedValue)). AreRowsCopied (g.B.Blocks.told c.args.blocks.now) c.args.at.now c.args.rows.now slots) (sym w.taken-is)
        (subst (λ (told : Option (List Stored)). AreRowsCopied told c.args.at.now c.args.rows.now w.take_kept.new.taken) c.order.invariant.read.told
        (w.in-Ok.ensures.taken
        (subst (λ (told : Option (List Stored)). AreRowsCopied told c.args.at.now c.args.rows.now c.order.taken) (sym c.order.invariant.read.told)
        (c.order.invariant.taken before))));
  }
  | else-row-kept w ↦ record {
    read = read_is w.blocks-is c.order.invariant.read;
    long = ap length w.taken-is ∙ c.order.invariant.long;
    taken = λ before. subst (λ (slots : List (Option ResolvedValue)). AreRowsCopied (g.B.Blocks.told c.args.blocks.now) c.args.at.now c.args.rows.now slots) (sym w.taken-is)
        (c.order.invariant.taken before);
  }
]

pub returns : goal.returns
returns g c = record {
  read = c.order.invariant.read;
  long = c.order.invariant.long;
  taken = c.order.invariant.taken;
  undamaged = λ stored seen site founds tells is are_seen rows damage same. no_answer _ _ same;
}
