use Rattle.std.proofs.Common.{◌≡◌, ℕ, List, Some, length, ap, sym, subst, arith}
use Rattle.chain_defs.specs.Branch.{branch}
use Rattle.chain_tree.specs.Told.{Stored, blocks_of}
use Rattle.rule_defs.specs.Fees.{Paid, paid_at}
use Rattle.rewards.specs.Paid.{ArePaid}
use Rattle.outside.specs.declared.disk.ReadStop.{ReadStop}
use Rattle.outside.proofs.Endings.{handed, is_told, no_answer}
use Rattle.chain_tree.proofs.ReadLemmas.{same_stop, read_on}
use Rattle.rewards.proofs.BranchLemmas.{held_still, paid-in_hand, no_fee}
use Rattle.rewards.proofs.fees.proposed_at.Goals as goal

pub returns-then-len-fee_count-clause-sum : goal.returns-then-len-fee_count-clause-sum
returns-then-len-fee_count-clause-sum g c spec stored tells =
    absurd (no_fee c.spent-ext.result.now c.in-Ok-ids.ids.items _ c.fee_count.result c.fee_count.ensures (omega (arith, c.if-len-fee_count.true, c.len.ensures))
    (paid-in_hand spec (g.B.Blocks.told c.args.blocks.now) _ c.args.tree.now.entries stored c.args.parent c.args.height c.place_at-place.result _
    c.spent-ext.result.now c.in-Ok-ids.ids.items tells c.in-Ok.ensures.read.told c.in-Ok.ensures.taken c.requires.height c.requires.later c.place_at-place.ensures.within
    c.place_at-place.ensures.later c.place_at-place.ensures.of_blocks c.in-Ok-ids.ensures.ids (held_still (λ (it : Stored). c.spent-ext.result.now ≡ it.ext) (sym c.in-Ok-ids.ensures.read.told) (sym c.in-Ok-ids.ensures.in_hand) c.spent-ext.ensures.ext)))

pub returns-then-len-fee_count-clause-read : goal.returns-then-len-fee_count-clause-read
returns-then-len-fee_count-clause-read g c = read_on (read_on c.in-Ok.ensures.read c.in-Ok-ids.ensures.read) c.damaged_at.ensures.read

pub returns-in-Err-clause-of_block : goal.returns-in-Err-clause-of_block
returns-in-Err-clause-of_block g c stored tells damage same =
    absurd (c.in-Err.ensures.undamaged (is_told _ stored tells) damage (handed c.in-Err.stop _ same))

pub returns-then-len-fee_count-clause-of_block : goal.returns-then-len-fee_count-clause-of_block
returns-then-len-fee_count-clause-of_block g c stored tells damage same =
    let is = same_stop _ _ same in
    (c.damaged_at.ensures.read.damage damage (ap (λ (stop : ReadStop). Some stop) is), (c.place_at-place.result, c.damaged_at.ensures.at_record damage is))

pub returns-clause-of_block : goal.returns-clause-of_block
returns-clause-of_block g c stored tells damage same = absurd (no_answer _ _ same)

pub returns-clause-sum : goal.returns-clause-sum
returns-clause-sum g c spec stored tells =
    let paids : List Paid = paid_at spec (branch (blocks_of stored) c.args.parent) c.args.height in
    c.proposed.ensures paids
    (subst (λ (ids : List (List ℕ)). ArePaid c.spent-ext.result.now ids paids) (sym c.deref.ensures.value)
    (paid-in_hand spec (g.B.Blocks.told c.args.blocks.now) _ c.args.tree.now.entries stored c.args.parent c.args.height c.place_at-place.result _
    c.spent-ext.result.now c.in-Ok-ids.ids.items tells c.in-Ok.ensures.read.told c.in-Ok.ensures.taken c.requires.height c.requires.later c.place_at-place.ensures.within
    c.place_at-place.ensures.later c.place_at-place.ensures.of_blocks c.in-Ok-ids.ensures.ids (held_still (λ (it : Stored). c.spent-ext.result.now ≡ it.ext) (sym c.in-Ok-ids.ensures.read.told) (sym c.in-Ok-ids.ensures.in_hand) c.spent-ext.ensures.ext)))
