use Rattle.rv_text.proofs.ListingLaws.{one-byte, two-bytes}
use Rattle.rv_text.proofs.listing.append_data.Goals as goal

pub returns-then-code-eq1-clause-text : goal.returns-then-code-eq1-clause-text
returns-then-code-eq1-clause-text c =
    one-byte c.args.code.now c.args.text.now c.append.new.self c.append_hex.new.text c.if-code-eq1.true c.append.ensures c.append_hex.ensures.text

pub returns-else-code-eq1-clause-text : goal.returns-else-code-eq1-clause-text
returns-else-code-eq1-clause-text c =
    two-bytes c.args.code.now c.args.text.now c.append-else-code-eq1.new.self c.append_hex-else-code-eq1.new.text c.append_hex-else-code-eq1-2.new.text
    c.if-code-eq1.false c.append-else-code-eq1.ensures c.append_hex-else-code-eq1.ensures.text c.append_hex-else-code-eq1-2.ensures.text
