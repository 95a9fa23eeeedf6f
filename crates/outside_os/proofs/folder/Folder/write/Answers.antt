use Rattle.std.proofs.Common.{length}
use Rattle.outside_os.proofs.Transfers.{nothing_torn}
use Rattle.outside_os.proofs.Reaching.{done_then, err_then, when_err, reaches, fails_at, fails_before}
use Rattle.outside_os.proofs.folder.Folder.write.Goals as goal

pub returns-in-Err-clause-torn : goal.returns-in-Err-clause-torn
returns-in-Err-clause-torn g c = fails_before _ _ _ _ (nothing_torn c.args.at (length c.args.piece.now)) c.in-Err.ensures.kept

pub returns-clause-written : goal.returns-clause-written
returns-clause-written g c =
    let lent = c.in-Ok.ensures.lent in
    let write = c.write_all-answer.ensures in
    done_then c.write_all-answer.result _ _ (λ holds. reaches _ _ _ _ _ _ _ lent c.give_back.ensures holds) write.written

pub returns-clause-torn : goal.returns-clause-torn
returns-clause-torn g c =
    let lent = c.in-Ok.ensures.lent in
    let write = c.write_all-answer.ensures in
    err_then c.write_all-answer.result _
    (λ fails. fails_at _ _ _ _ _ _ _ lent.was lent.others lent.no_doubt c.give_back.ensures
    (when_err c.write_all-answer.result _ write.torn fails) (when_err c.write_all-answer.result _ write.rose fails))
