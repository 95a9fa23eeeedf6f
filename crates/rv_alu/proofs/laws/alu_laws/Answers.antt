use Rattle.rv_alu.proofs.Halves.{unsigned-halves, signed-halves, mixed-halves}
use Rattle.rv_alu.proofs.Dividends.{unsigned-dividend, signed-dividend}
use Rattle.rv_alu.proofs.laws.alu_laws.Goals as goal

pub returns-clause-unsigned_halves : goal.returns-clause-unsigned_halves
returns-clause-unsigned_halves c = unsigned-halves

pub returns-clause-signed_halves : goal.returns-clause-signed_halves
returns-clause-signed_halves c = signed-halves

pub returns-clause-mixed_halves : goal.returns-clause-mixed_halves
returns-clause-mixed_halves c = mixed-halves

pub returns-clause-unsigned_dividend : goal.returns-clause-unsigned_dividend
returns-clause-unsigned_dividend c = unsigned-dividend

pub returns-clause-signed_dividend : goal.returns-clause-signed_dividend
returns-clause-signed_dividend c = signed-dividend
