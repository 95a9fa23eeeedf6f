use Rattle.log_file.proofs.Creating.{four_behind}
use Rattle.log_file.proofs.creation.put_new_log.Goals as goal

pub returns : goal.returns
returns c =
    four_behind _ _ _ _ _ _ _ _ _ c.in_ok-extend_from_slice.ensures.items c.in_ok-put_record.ensures c.in_ok-put_record-2.ensures c.in_ok-push.ensures.items
