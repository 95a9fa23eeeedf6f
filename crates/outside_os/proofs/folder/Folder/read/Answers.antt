use Rattle.outside_os.proofs.Reaching.{ok_then, err_then, when_err, reaches, fails_at}
use Rattle.outside_os.proofs.folder.Folder.read.Goals as goal

pub returns-clause-given : goal.returns-clause-given
returns-clause-given g c =
    let lent = c.in-Ok.ensures.lent in
    let read = c.read_full-answer.ensures in
    ok_then c.read_full-answer.result _ _ (λ n holds. reaches _ _ _ _ _ _ _ lent c.give_back.ensures (read.same, holds)) read.given

pub returns-clause-kept : goal.returns-clause-kept
returns-clause-kept g c =
    let lent = c.in-Ok.ensures.lent in
    let read = c.read_full-answer.ensures in
    err_then c.read_full-answer.result _
    (λ fails. fails_at _ _ _ _ _ _ _ lent.was lent.others lent.no_doubt c.give_back.ensures read.same (when_err c.read_full-answer.result _ read.rose fails))
