use Rattle.chain_defs.proofs.TellLaws.{bytes-tell-rows, bytes-tell-exts}
use Rattle.chain_defs.proofs.exts.bytes_of_exts.Goals as goal

pub returns : goal.returns
returns c = record { bytes_determine_rows = bytes-tell-rows; bytes_determine_exts = bytes-tell-exts }
