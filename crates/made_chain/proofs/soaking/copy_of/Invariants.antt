use Rattle.std.proofs.Common.{◌≡◌, take}
use Rattle.made_chain.specs.Sessions.{items_in, AreShort}
use Rattle.made_chain.proofs.soaking.copy_of.Given as goal

-- the items so far are copied
abbrev pub invariant-copying : goal.invariant-copying
invariant-copying l = record {
  same : items_in l.copies.items ≡ items_in (take l.i l.items);
  short : AreShort l.copies.items;
}
