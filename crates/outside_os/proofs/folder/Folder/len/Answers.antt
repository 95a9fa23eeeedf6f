use Rattle.outside_os.proofs.Reaching.{ok_then, err_then, reaches, fails_at}
use Rattle.outside_os.proofs.folder.Folder.len.Goals as goal

pub returns-clause-length : goal.returns-clause-length
returns-clause-length g c =
    let lent = c.in-Ok.ensures.lent in
    let len = c.len-answer.ensures in
    ok_then c.len-answer.result _ _ (λ n holds. reaches _ _ _ _ _ _ _ lent c.give_back.ensures (len.same, holds)) len.length

pub returns-clause-kept : goal.returns-clause-kept
returns-clause-kept g c =
    let lent = c.in-Ok.ensures.lent in
    let len = c.len-answer.ensures in
    err_then c.len-answer.result _ (λ fails. fails_at _ _ _ _ _ _ _ lent.was lent.others lent.no_doubt c.give_back.ensures len.same (len.cause.failed fails))
