use Rattle.std.proofs.Common.{ℕ, List, subst, sym}
use Rattle.chain_defs.specs.Branch.{branch}
use Rattle.chain_tree.specs.Told.{blocks_of}
use Rattle.rule_defs.specs.Fees.{paid_at}
use Rattle.rewards.specs.Paid.{ArePaid}
use Rattle.chain_tree.proofs.ReadLemmas.{read_short, read_on}
use Rattle.outside.proofs.Endings.{handed, is_told, no_answer, memory_undamaged}
use Rattle.rewards.proofs.BranchLemmas.{ids-in_hand}
use Rattle.rewards.proofs.CommitLemmas.{or-kept, paid-among}
use Rattle.rewards.proofs.committed.add_at.Goals as goal

pub returns-in-Err : goal.returns-in-Err
returns-in-Err g c = record {
  read = c.in-Err.ensures.read;
  undamaged = λ stored tells damage same. c.in-Err.ensures.undamaged (is_told _ stored tells) damage (handed c.in-Err.stop _ same);
  kept = tt;
  added = λ spec stored tells. tt;
}

pub returns-in-Err-ids : goal.returns-in-Err-ids
returns-in-Err-ids g c = record {
  read = read_short (read_on c.in-Ok.ensures.read c.ids.ensures.read);
  undamaged = λ stored tells damage same. memory_undamaged damage same;
  kept = tt;
  added = λ spec stored tells. tt;
}

pub returns-in-Ok-add_all : goal.returns-in-Ok-add_all
returns-in-Ok-add_all g c = record {
  read = read_on c.in-Ok.ensures.read c.in-Ok-ids.ensures.read;
  undamaged = λ stored tells damage same. no_answer _ _ same;
  kept = λ id was. or-kept _ _ _ (c.in-Ok-add_all.ensures id) was;
  added = λ spec stored tells paid there.
      let are = ids-in_hand spec (g.B.Blocks.told c.args.blocks.now) _ c.args.tree.now.entries stored c.args.parent c.args.height c.place_at-place.result _
      c.in-Ok-ids.ids.items tells c.in-Ok.ensures.read.told c.in-Ok.ensures.taken c.requires.height c.requires.later c.place_at-place.ensures.within
      c.place_at-place.ensures.later c.place_at-place.ensures.of_blocks c.in-Ok-ids.ensures.ids in
      let committed = paid_at spec (branch (blocks_of stored) c.args.parent) c.args.height in
      paid-among are.0 c.deref.result.now committed paid _ _ (subst (λ (ids : List (List ℕ)). ArePaid are.0 ids committed) (sym c.deref.ensures.value) are.1) there
      (c.in-Ok-add_all.ensures paid.id);
}

pub returns : goal.returns
returns g c = record {
  read = read_short (read_on c.in-Ok.ensures.read c.in-Ok-ids.ensures.read);
  undamaged = λ stored tells damage same. memory_undamaged damage same;
  kept = tt;
  added = λ spec stored tells. tt;
}
