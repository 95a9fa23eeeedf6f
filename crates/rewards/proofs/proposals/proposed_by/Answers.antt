use Rattle.std.proofs.Common.{ℕ, List, Some, pos, sym, ap, ◌∙◌, arith}
use Rattle.std.proofs.lemmas.Grind.{common_steps}
use Rattle.std.proofs.lemmas.List.{nil_from_length}
use Rattle.std.specs.Str.{bytes_eq}
use Rattle.std.specs.HashSet.{contains}
use Rattle.chain_defs.specs.Dao.{as_u64}
use Rattle.chain_defs.specs.Branch.{branch}
use Rattle.chain_tree.specs.Told.{blocks_of}
use Rattle.chain_tree.proofs.EntryLemmas.{there-within}
use Rattle.outside.proofs.Endings.{handed, memory_undamaged, no_answer}
use Rattle.chain_tree.proofs.ReadLemmas.{read_on, read_short}
use Rattle.rewards.proofs.ReadLemmas.{tells_still, undamaged_is}
use Rattle.rewards.proofs.BranchLemmas.{ids-there}
use Rattle.rewards.proofs.PartLemmas.{none-proposed}
use Rattle.rewards.proofs.StartLemmas.{among}
use Rattle.rewards.proofs.CommitLemmas.{wanted-ids}
use Rattle.rewards.proofs.proposals.proposed_by.Goals as goal

pub returns-then-is_empty-clause-sum : goal.returns-then-is_empty-clause-sum
returns-then-is_empty-clause-sum g c stored tells =
    ap (λ (n : ℕ). as_u64 (pos n)) (none-proposed c.args.spec.now (branch (blocks_of stored) c.args.parent) c.args.height
    (ids-there (blocks_of stored) c.args.tree.now.entries c.args.parent c.args.height c.place_at-place.result _ tells.indexes
    (there-within c.args.tree.now.entries c.args.parent _ c.requires.far) (c.place_at-place.ensures.of_blocks (blocks_of stored) tells.indexes)
    (c.in-Ok.ensures.ids stored tells.is ∙ ap (λ (l : List (List ℕ)). Some l) (nil_from_length c.in-Ok.ids.items (grind (arith, common_steps))))))

-- ---- Where they are looked for among what is committed

pub returns-in-Err-committed_after-clause-read : goal.returns-in-Err-committed_after-clause-read
returns-in-Err-committed_after-clause-read g c = read_on c.in-Ok.ensures.read c.in-Err-committed_after.ensures.read

pub returns-in-Err-committed_after-clause-sum : goal.returns-in-Err-committed_after-clause-sum
returns-in-Err-committed_after-clause-sum g c stored tells = c.in-Err-committed_after.ensures.asked stored (tells_still c.in-Ok.ensures.read.told tells)

pub returns-in-Err-wanted_of-clause-read : goal.returns-in-Err-wanted_of-clause-read
returns-in-Err-wanted_of-clause-read g c = read_short (read_on c.in-Ok.ensures.read c.in-Ok-committed_after.ensures.read)

pub returns-in-Ok-starts_at-clause-read : goal.returns-in-Ok-starts_at-clause-read
returns-in-Ok-starts_at-clause-read g c =
    read_on c.in-Ok.ensures.read (read_on c.in-Ok-committed_after.ensures.read (read_on c.in-Ok-starts_at.ensures.read c.proposed_after.ensures.read))

pub returns-in-Ok-starts_at-clause-sum : goal.returns-in-Ok-starts_at-clause-sum
returns-in-Ok-starts_at-clause-sum g c stored tells =
    let on = branch (blocks_of stored) c.args.parent in
    let asked = contains bytes_eq c.in-Ok-committed_after.committed in
    let told = c.in-Ok-committed_after.ensures.read.told ∙ c.in-Ok.ensures.read.told in
    c.proposed_after.ensures.sum stored asked (tells_still (c.in-Ok-starts_at.ensures.read.told ∙ told) tells)
    (c.in-Ok-committed_after.ensures.asked stored (tells_still c.in-Ok.ensures.read.told tells))
    (c.in-Ok-starts_at.ensures.starts stored asked (told ∙ tells.is) tells.indexes
    (λ id. ap (λ (l : List (List ℕ)). among l id) c.deref-2.ensures.value
    ∙ wanted-ids on asked c.args.height id c.deref.result.now c.in-Ok-wanted_of.wanted.items (c.in-Ok-wanted_of.ensures id)
    (ids-there (blocks_of stored) c.args.tree.now.entries c.args.parent c.args.height c.place_at-place.result c.deref.result.now tells.indexes
    (there-within c.args.tree.now.entries c.args.parent _ c.requires.far) (c.place_at-place.ensures.of_blocks (blocks_of stored) tells.indexes)
    (c.in-Ok.ensures.ids stored tells.is ∙ ap (λ (l : List (List ℕ)). Some l) (sym c.deref.ensures.value)))))

pub returns-clause-read : goal.returns-clause-read
returns-clause-read g c = read_on c.in-Ok.ensures.read (read_on c.in-Ok-committed_after.ensures.read c.in-Err-starts_at.ensures.read)

pub returns-clause-sum : goal.returns-clause-sum
returns-clause-sum g c stored tells =
    undamaged_is {T = ℕ} c.in-Err-starts_at.stop (λ damage same.
    c.in-Err-starts_at.ensures.undamaged stored (c.in-Ok-committed_after.ensures.read.told ∙ c.in-Ok.ensures.read.told ∙ tells.is) damage (handed c.in-Err-starts_at.stop _ same))

-- ---- What is damaged

pub returns-in-Err-clause-of_block : goal.returns-in-Err-clause-of_block
returns-in-Err-clause-of_block g c stored tells damage same = absurd (c.in-Err.ensures.undamaged stored tells damage (handed c.in-Err.stop _ same))

pub returns-then-is_empty-clause-of_block : goal.returns-then-is_empty-clause-of_block
returns-then-is_empty-clause-of_block g c stored tells damage same = absurd (no_answer _ _ same)

pub returns-in-Err-committed_after-clause-of_block : goal.returns-in-Err-committed_after-clause-of_block
returns-in-Err-committed_after-clause-of_block g c stored tells damage same =
    absurd (c.in-Err-committed_after.ensures.undamaged stored (c.in-Ok.ensures.read.told ∙ tells) damage (handed c.in-Err-committed_after.stop _ same))

pub returns-in-Err-wanted_of-clause-of_block : goal.returns-in-Err-wanted_of-clause-of_block
returns-in-Err-wanted_of-clause-of_block g c stored tells damage same = absurd (memory_undamaged damage same)

pub returns-in-Ok-starts_at-clause-of_block : goal.returns-in-Ok-starts_at-clause-of_block
returns-in-Ok-starts_at-clause-of_block g c stored tells =
    c.proposed_after.ensures.of_block stored (c.in-Ok-starts_at.ensures.read.told ∙ c.in-Ok-committed_after.ensures.read.told ∙ c.in-Ok.ensures.read.told ∙ tells)

pub returns-clause-of_block : goal.returns-clause-of_block
returns-clause-of_block g c stored tells damage same =
    absurd (c.in-Err-starts_at.ensures.undamaged stored (c.in-Ok-committed_after.ensures.read.told ∙ c.in-Ok.ensures.read.told ∙ tells) damage
    (handed c.in-Err-starts_at.stop _ same))
