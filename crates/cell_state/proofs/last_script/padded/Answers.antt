use Rattle.std.proofs.Common.{length, ap, ◌∙◌}
use Rattle.std.proofs.lemmas.List.{take_at}
use Rattle.cell_state.proofs.last_script.padded.Goals as goal

pub returns : goal.returns
returns c = take_at _ _ _ (ap length c.copy_from_slice.ensures.after) ∙ c.copy_from_slice.ensures.after
