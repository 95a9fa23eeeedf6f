use Rattle.std.proofs.Common.{refl, sym, rules}
use Rattle.log_file.proofs.Forms.{parts-short, parts-past, parts-there, parts-whole}
use Rattle.log_file.proofs.body.parts.Goals as goal

pub returns-then-body-lt4-clause-parts : goal.returns-then-body-lt4-clause-parts
returns-then-body-lt4-clause-parts c = sym (parts-short c.args.body.now (search rules))

pub returns-then-body-end-clause-parts : goal.returns-then-body-end-clause-parts
returns-then-body-end-clause-parts c = sym (parts-past c.args.body.now (search rules))

pub returns-clause-parts : goal.returns-clause-parts
returns-clause-parts c = parts-there _ _ _ c.read_count.result c.read_count.ensures.value (search rules) refl refl

pub returns-clause-whole : goal.returns-clause-whole
returns-clause-whole c = parts-whole _ _ _ c.read_count.result c.read_count.ensures.bytes (search rules) refl refl
