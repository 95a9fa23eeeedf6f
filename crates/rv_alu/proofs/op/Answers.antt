use Rattle.std.proofs.Common.{rules}
use Rattle.rv_alu.proofs.op.Goals as goal

pub returns-in-Mulhsu : goal.returns-in-Mulhsu
returns-in-Mulhsu c = search rules

pub returns-in-Sra : goal.returns-in-Sra
returns-in-Sra c = search rules
