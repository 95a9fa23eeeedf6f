use Rattle.std.proofs.Common.{rules}
use Rattle.outside_os.proofs.folder_disk.FolderDiskDisk.read.Goals as goal

pub returns-in-Ok-clause-fits : goal.returns-in-Ok-clause-fits
returns-in-Ok-clause-fits g c = search rules
