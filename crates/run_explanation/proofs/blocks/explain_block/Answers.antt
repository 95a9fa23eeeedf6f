use Rattle.std.proofs.Common.{◌∷◌, [], refl, ap, ◌∙◌, inr}
use Rattle.std.specs.Prelude.{Err}
use Rattle.outside.proofs.Endings.{no_fault, counts-as, after_still, handed, no_answer}
use Rattle.report_defs.specs.declared.status.Status.TheVariants.{DiskFault, NoMemory, NotAStore}
use Rattle.run_text.proofs.Exits.{same_stop}
use Rattle.run_text.proofs.Tables.{lacks}
use Rattle.run_explanation.proofs.ExplanationLemmas.{memory_no_fault}
use Rattle.run_explanation.proofs.blocks.explain_block.Goals as goal

pub returns-in-Err-answer_of_verdict-clause-disk : goal.returns-in-Err-answer_of_verdict-clause-disk
returns-in-Err-answer_of_verdict-clause-disk g c = record {
  content = c.in-Ok.ensures.content;
  cause = no_fault _ _ (c.in-Ok.ensures.cause.unchanged (no_answer _ _)) memory_no_fault;
}

pub returns-in-Ok-page_below-clause-disk : goal.returns-in-Ok-page_below-clause-disk
returns-in-Ok-page_below-clause-disk g c = record {
  content = c.in-Ok-page_below.ensures.disk.content ∙ c.in-Ok.ensures.content;
  cause = no_fault _ _ (c.in-Ok-page_below.ensures.disk.cause.unchanged (no_answer _ _) ∙ c.in-Ok.ensures.cause.unchanged (no_answer _ _)) (no_answer _ _);
}

pub returns-in-Err-page_below-clause-disk : goal.returns-in-Err-page_below-clause-disk
returns-in-Err-page_below-clause-disk g c = record {
  content = c.in-Err-page_below.ensures.disk.content ∙ c.in-Ok.ensures.content;
  cause = after_still (c.in-Ok.ensures.cause.unchanged (no_answer _ _)) (counts-as c.in-Err-page_below.ensures.disk.cause (handed _ _) (handed _ _));
}

pub returns-in-Err-page_below-clause-stop : goal.returns-in-Err-page_below-clause-stop
returns-in-Err-page_below-clause-stop g c = λ status same. inr (c.in-Err-page_below.ensures.stop status (handed _ _ same))

pub returns-in-Err-page_below-clause-sound : goal.returns-in-Err-page_below-clause-sound
returns-in-Err-page_below-clause-sound g c = λ sound same.
    lacks (DiskFault ∷ NoMemory ∷ []) NotAStore refl c.in-Err-page_below.status (c.in-Err-page_below.ensures.stop c.in-Err-page_below.status refl) (same_stop _ _ same)
