use Rattle.std.proofs.Common.{◌∙◌}
use Rattle.chain_gen.proofs.Parts.{none_outputs, none_contents, some_contents}
use Rattle.chain_gen.proofs.transactions.paid.Goals as goal

pub returns-in_ok-from_slice-in-None-2-clause-outputs : goal.returns-in_ok-from_slice-in-None-2-clause-outputs
returns-in_ok-from_slice-in-None-2-clause-outputs c = c.in_ok-from_slice-in-None.ensures.items ∙ none_outputs c.in-None.is

pub returns-in_ok-from_slice-in-None-2-clause-contents : goal.returns-in_ok-from_slice-in-None-2-clause-contents
returns-in_ok-from_slice-in-None-2-clause-contents c = c.in_ok-from_slice-in-None-2.ensures.items ∙ none_contents c.in-None.is

pub returns-in_ok-dynvec_of-in-Some-2-clause-contents : goal.returns-in_ok-dynvec_of-in-Some-2-clause-contents
returns-in_ok-dynvec_of-in-Some-2-clause-contents c = c.in_ok-dynvec_of-in-Some-2.ensures.bytes ∙ some_contents c.in-Some.is
