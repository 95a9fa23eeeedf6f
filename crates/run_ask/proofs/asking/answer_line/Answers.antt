use Rattle.std.proofs.Common.{[], inl, inr, refl, ap, ◌∙◌, subst}
use Rattle.std.specs.Prelude.{Err}
use Rattle.outside.proofs.Endings.{no_fault, counts-as, no_answer}
use Rattle.outside.proofs.Streams.{takes_none}
use Rattle.run_text.specs.Output.{IsPartOf}
use Rattle.run_text.proofs.Exits.{same_stop}
use Rattle.run_text.proofs.Statuses.{opening_no_sink}
use Rattle.run_store.proofs.LookLemmas.{looks_as, looks_well}
use Rattle.run_ask.proofs.AskLemmas.{line_cut, line_unfound, sink_no_disk}
use Rattle.run_ask.proofs.asking.answer_line.Goals as goal

-- ---- No answer was found

pub returns-in-Err-clause-written : goal.returns-in-Err-clause-written
returns-in-Err-clause-written g c = (
  [],
  takes_none (g.K.Sink.taken c.args.out.now),
  λ sound. line_unfound _ c.in-Err.status (c.in-Err.ensures.stop c.in-Err.status refl) (λ e. c.in-Err.ensures.sound sound (ap Err e)),
)

pub returns-in-Err-clause-stop : goal.returns-in-Err-clause-stop
returns-in-Err-clause-stop g c = λ status e. inr (c.in-Err.ensures.stop status (ap Err (same_stop _ _ e)))

pub returns-in-Err-clause-disk : goal.returns-in-Err-clause-disk
returns-in-Err-clause-disk g c = looks_as c.in-Err.ensures.disk (λ e. ap Err (same_stop _ _ e)) (λ e. ap Err (same_stop _ _ e))

pub returns-in-Err-clause-faults : goal.returns-in-Err-clause-faults
returns-in-Err-clause-faults g c = no_fault _ _ refl (λ e. opening_no_sink c.in-Err.status (c.in-Err.ensures.stop c.in-Err.status refl) (same_stop _ _ e))

-- ---- It was written

pub returns-in-Ok-write_text-clause-written : goal.returns-in-Ok-write_text-clause-written
returns-in-Ok-write_text-clause-written g c =
    let written = c.in-Ok-write_text.ensures.written in
    (written.0, written.1, λ sound. written.2 ∙ c.deref.ensures.value ∙ c.in-Ok.ensures.text sound)

pub returns-in-Ok-write_text-clause-disk : goal.returns-in-Ok-write_text-clause-disk
returns-in-Ok-write_text-clause-disk g c = looks_well c.in-Ok.ensures.disk (no_answer _ _) (no_answer _ _)

pub returns-in-Ok-write_text-clause-node : goal.returns-in-Ok-write_text-clause-node
returns-in-Ok-write_text-clause-node g c = c.in-Ok.ensures.node

pub returns-in-Ok-write_text-clause-faults : goal.returns-in-Ok-write_text-clause-faults
returns-in-Ok-write_text-clause-faults g c = no_fault _ _ (c.in-Ok-write_text.ensures.faults.unchanged (no_answer _ _)) (no_answer _ _)

-- ---- Or a part of it

pub returns-clause-written : goal.returns-clause-written
returns-clause-written g c =
    let written = c.in-Err-write_text.ensures.written in (
      written.0,
      written.1,
      λ sound. line_cut _ c.in-Err-write_text.status written.0 (c.in-Err-write_text.ensures.stop c.in-Err-write_text.status refl)
          (subst (λ bytes. IsPartOf bytes written.0) (c.deref.ensures.value ∙ c.in-Ok.ensures.text sound) written.2),
    )

pub returns-clause-stop : goal.returns-clause-stop
returns-clause-stop g c = λ status e. inl (c.in-Err-write_text.ensures.stop status (ap Err (same_stop _ _ e)))

pub returns-clause-disk : goal.returns-clause-disk
returns-clause-disk g c =
    looks_well c.in-Ok.ensures.disk (no_answer _ _) (λ e. sink_no_disk c.in-Err-write_text.status (c.in-Err-write_text.ensures.stop c.in-Err-write_text.status refl) (same_stop _ _ e))

pub returns-clause-node : goal.returns-clause-node
returns-clause-node g c = c.in-Ok.ensures.node

pub returns-clause-faults : goal.returns-clause-faults
returns-clause-faults g c = counts-as c.in-Err-write_text.ensures.faults (λ e. ap Err (same_stop _ _ e)) (λ e. ap Err (same_stop _ _ e))
