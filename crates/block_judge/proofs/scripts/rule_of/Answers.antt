use Rattle.std.proofs.Common.{inl, inr, refl}
use Rattle.block_judge.proofs.scripts.rule_of.Goals as goal

pub returns-in-BadElf : goal.returns-in-BadElf
returns-in-BadElf c = elim c.in-BadElf.is [
  | inl is ↦ rw is.2 refl
  | inr (inl is) ↦ rw is.2 refl
  | inr (inr is) ↦ rw is.2 refl
]
