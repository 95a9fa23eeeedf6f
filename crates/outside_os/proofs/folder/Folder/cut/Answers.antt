use Rattle.outside_os.proofs.Transfers.{nothing_cut}
use Rattle.outside_os.proofs.Reaching.{done_then, err_then, when_err, reaches, fails_at, fails_before}
use Rattle.outside_os.proofs.folder.Folder.cut.Goals as goal

pub returns-in-Err-clause-in_part : goal.returns-in-Err-clause-in_part
returns-in-Err-clause-in_part g c = fails_before _ _ _ _ (nothing_cut c.args.len) c.in-Err.ensures.kept

pub returns-clause-cut : goal.returns-clause-cut
returns-clause-cut g c =
    let lent = c.in-Ok.ensures.lent in
    let cut = c.cut-answer.ensures in
    done_then c.cut-answer.result _ _ (λ holds. reaches _ _ _ _ _ _ _ lent c.give_back.ensures holds) cut.cut

pub returns-clause-in_part : goal.returns-clause-in_part
returns-clause-in_part g c =
    let lent = c.in-Ok.ensures.lent in
    let cut = c.cut-answer.ensures in
    err_then c.cut-answer.result _
    (λ fails. fails_at _ _ _ _ _ _ _ lent.was lent.others lent.no_doubt c.give_back.ensures (when_err c.cut-answer.result _ cut.in_part fails) (cut.cause.failed fails))
