use Rattle.disk_defs.proofs.Contents.{adds_an_edition, editions_are_kept, epoch_is_told}
use Rattle.disk_defs.proofs.grammar.edition_laws.Goals as goal

pub returns : goal.returns
returns c = record { adds_an_edition = adds_an_edition; editions_are_kept = editions_are_kept; epoch_is_told = epoch_is_told }
