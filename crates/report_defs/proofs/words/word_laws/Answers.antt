use Rattle.report_defs.proofs.WordLaws.{spells-numbers, spells-hashes}
use Rattle.report_defs.proofs.words.word_laws.Goals as goal

pub returns : goal.returns
returns c = record { spells_numbers = spells-numbers; spells_hashes = spells-hashes }
