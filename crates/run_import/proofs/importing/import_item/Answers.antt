use Rattle.std.proofs.Common.{[], refl, ap, ◌∙◌, subst}
use Rattle.std.specs.Prelude.{Err}
use Rattle.outside.proofs.Endings.{no_fault, counts-as, no_answer}
use Rattle.outside.proofs.Streams.{takes_none}
use Rattle.verdict_defs.specs.Chain.{Chain, chain_after, verdict_over}
use Rattle.verdict_defs.specs.declared.verdict.Verdict.{Verdict}
use Rattle.report_defs.specs.Text.{line}
use Rattle.report_defs.specs.Report.{balance_over}
use Rattle.report_defs.specs.Status.{IsOneOf}
use Rattle.run_import.specs.Import.{IsCutShort, item_stops}
use Rattle.run_import.proofs.ImportLemmas.{cut_before_line, item_stopped, line_stopped, line_no_disk_fault}
use Rattle.run_import.proofs.KeepLemmas.{line-there}
use Rattle.run_text.proofs.StoreLemmas.{by_disk_or_memory}
use Rattle.run_text.proofs.Statuses.{opening_no_sink}
use Rattle.run_text.proofs.Exits.{same_stop}
use Rattle.run_import.proofs.importing.import_item.Goals as goal

-- ---- The item was not kept

pub returns-in-Err-clause-written : goal.returns-in-Err-clause-written
returns-in-Err-clause-written g c = (
  [],
  takes_none (g.K.Sink.taken c.args.out.now),
  λ watched is.
      cut_before_line (verdict_over c.args.node.chain c.args.item.now) (balance_over watched (chain_after c.args.node.chain c.args.item.now)) c.in-Err.status
      (by_disk_or_memory c.in-Err.status (c.in-Err.ensures.status c.in-Err.status refl) (λ e. c.in-Err.ensures.sound watched is (ap Err e))),
)

pub returns-in-Err-clause-status : goal.returns-in-Err-clause-status
returns-in-Err-clause-status g c = λ status e.
    subst (λ s. IsOneOf item_stops s) (same_stop _ _ e) (item_stopped c.in-Err.status (c.in-Err.ensures.status c.in-Err.status refl))

pub returns-in-Err-clause-out_faults : goal.returns-in-Err-clause-out_faults
returns-in-Err-clause-out_faults g c =
    no_fault _ _ refl (λ e. opening_no_sink c.in-Err.status (c.in-Err.ensures.status c.in-Err.status refl) (same_stop _ _ e))

pub returns-in-Err-clause-disk_faults : goal.returns-in-Err-clause-disk_faults
returns-in-Err-clause-disk_faults g c = counts-as c.in-Err.ensures.cause (λ e. ap Err (same_stop _ _ e)) (λ e. ap Err (same_stop _ _ e))

-- ---- The line was written

pub returns-in-Ok-write_line-clause-written : goal.returns-in-Ok-write_line-clause-written
returns-in-Ok-write_line-clause-written g c =
    let written = c.in-Ok-write_line.ensures.written in (
      written.0,
      written.1,
      λ watched is. written.2 ∙ line-there c.args.node c.in-Ok.answer.0 c.args.watch c.in-Ok.answer.1 c.args.item.now c.in-Ok.answer.2 _ _ _ _ c.in-Ok.ensures.imported watched is
          c.balance_of-balance.result (c.balance_of-balance.ensures watched c.in-Ok.answer.0.chain (c.in-Ok.ensures.imported.watching watched is)),
    )

pub returns-in-Ok-write_line-clause-status : goal.returns-in-Ok-write_line-clause-status
returns-in-Ok-write_line-clause-status g c = λ status e. absurd (no_answer _ _ e)

pub returns-in-Ok-write_line-clause-out_faults : goal.returns-in-Ok-write_line-clause-out_faults
returns-in-Ok-write_line-clause-out_faults g c = no_fault _ _ (c.in-Ok-write_line.ensures.faults.unchanged (no_answer _ _)) (no_answer _ _)

pub returns-in-Ok-write_line-clause-disk_faults : goal.returns-in-Ok-write_line-clause-disk_faults
returns-in-Ok-write_line-clause-disk_faults g c = no_fault _ _ (c.in-Ok.ensures.cause.unchanged (no_answer _ _)) (no_answer _ _)

-- ---- The line was stopped

pub returns-in-Err-write_line-clause-written : goal.returns-in-Err-write_line-clause-written
returns-in-Err-write_line-clause-written g c =
    let written = c.in-Err-write_line.ensures.written in (
      written.0,
      written.1,
      λ watched is. subst (λ text. IsCutShort text c.in-Err-write_line.status written.0)
          (line-there c.args.node c.in-Ok.answer.0 c.args.watch c.in-Ok.answer.1 c.args.item.now c.in-Ok.answer.2 _ _ _ _ c.in-Ok.ensures.imported watched is
          c.balance_of-balance.result (c.balance_of-balance.ensures watched c.in-Ok.answer.0.chain (c.in-Ok.ensures.imported.watching watched is))) written.2,
    )

pub returns-in-Err-write_line-clause-status : goal.returns-in-Err-write_line-clause-status
returns-in-Err-write_line-clause-status g c = λ status e.
    subst (λ s. IsOneOf item_stops s) (same_stop _ _ e) (line_stopped c.in-Err-write_line.status (c.in-Err-write_line.ensures.status c.in-Err-write_line.status refl))

pub returns-in-Err-write_line-clause-out_faults : goal.returns-in-Err-write_line-clause-out_faults
returns-in-Err-write_line-clause-out_faults g c =
    counts-as c.in-Err-write_line.ensures.faults (λ e. ap Err (same_stop _ _ e)) (λ e. ap Err (same_stop _ _ e))

pub returns-in-Err-write_line-clause-disk_faults : goal.returns-in-Err-write_line-clause-disk_faults
returns-in-Err-write_line-clause-disk_faults g c =
    let never = line_no_disk_fault c.in-Err-write_line.status (c.in-Err-write_line.ensures.status c.in-Err-write_line.status refl) in
    no_fault _ _ (c.in-Ok.ensures.cause.unchanged (no_answer _ _)) (λ e. never (same_stop _ _ e))

pub returns-in-Err-clause-most : goal.returns-in-Err-clause-most
returns-in-Err-clause-most g c = c.in-Err.ensures.most

pub returns-in-Ok-write_line-clause-most : goal.returns-in-Ok-write_line-clause-most
returns-in-Ok-write_line-clause-most g c = c.in-Ok.ensures.most

pub returns-in-Err-write_line-clause-most : goal.returns-in-Err-write_line-clause-most
returns-in-Err-write_line-clause-most g c = c.in-Ok.ensures.most

pub returns-in-Err-clause-told : goal.returns-in-Err-clause-told
returns-in-Err-clause-told g c = c.in-Err.ensures.told

pub returns-in-Ok-write_line-clause-told : goal.returns-in-Ok-write_line-clause-told
returns-in-Ok-write_line-clause-told g c = c.in-Ok.ensures.told

pub returns-in-Err-write_line-clause-told : goal.returns-in-Err-write_line-clause-told
returns-in-Err-write_line-clause-told g c = c.in-Ok.ensures.told

pub returns-in-Err-clause-still : goal.returns-in-Err-clause-still
returns-in-Err-clause-still g c = c.in-Err.ensures.still

pub returns-in-Ok-write_line-clause-still : goal.returns-in-Ok-write_line-clause-still
returns-in-Ok-write_line-clause-still g c = c.in-Ok.ensures.still

pub returns-in-Err-write_line-clause-still : goal.returns-in-Err-write_line-clause-still
returns-in-Err-write_line-clause-still g c = c.in-Ok.ensures.still

pub returns-in-Err-clause-settled : goal.returns-in-Err-clause-settled
returns-in-Err-clause-settled g c = λ _ _. tt

pub returns-in-Ok-write_line-clause-settled : goal.returns-in-Ok-write_line-clause-settled
returns-in-Ok-write_line-clause-settled g c = c.in-Ok.ensures.settled

pub returns-in-Err-write_line-clause-settled : goal.returns-in-Err-write_line-clause-settled
returns-in-Err-write_line-clause-settled g c = λ _ _. tt

pub returns-in-Err-clause-imported : goal.returns-in-Err-clause-imported
returns-in-Err-clause-imported g c = tt

pub returns-in-Ok-write_line-clause-imported : goal.returns-in-Ok-write_line-clause-imported
returns-in-Ok-write_line-clause-imported g c = c.in-Ok.ensures.imported

pub returns-in-Err-write_line-clause-imported : goal.returns-in-Err-write_line-clause-imported
returns-in-Err-write_line-clause-imported g c = tt

pub returns-in-Err-clause-left : goal.returns-in-Err-clause-left
returns-in-Err-clause-left g c = c.in-Err.ensures.left

pub returns-in-Ok-write_line-clause-left : goal.returns-in-Ok-write_line-clause-left
returns-in-Ok-write_line-clause-left g c = c.in-Ok.ensures.left

pub returns-in-Err-write_line-clause-left : goal.returns-in-Err-write_line-clause-left
returns-in-Err-write_line-clause-left g c = c.in-Ok.ensures.left
