use Rattle.report_laws.proofs.CanonicalLaws.{unbroken-canonical, unbroken-joined}
use Rattle.report_laws.proofs.InRange.{in-range}
use Rattle.report_laws.proofs.canonical.canonical_laws.Goals as goal

pub returns-clause-unbroken_is_canonical : goal.returns-clause-unbroken_is_canonical
returns-clause-unbroken_is_canonical c = unbroken-canonical

pub returns-clause-unbroken_is_joined : goal.returns-clause-unbroken_is_joined
returns-clause-unbroken_is_joined c = unbroken-joined

pub returns-clause-kept_is_in_range : goal.returns-clause-kept_is_in_range
returns-clause-kept_is_in_range c = in-range
