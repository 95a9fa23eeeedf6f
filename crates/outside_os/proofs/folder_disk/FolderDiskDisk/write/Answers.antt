use Rattle.std.proofs.Common.{rules}
use Rattle.outside_os.proofs.folder_disk.FolderDiskDisk.write.Goals as goal

pub returns-in-Ok-clause-unchanged : goal.returns-in-Ok-clause-unchanged
returns-in-Ok-clause-unchanged g c = search rules

pub returns-in-Err-clause-counted : goal.returns-in-Err-clause-counted
returns-in-Err-clause-counted g c = search rules
