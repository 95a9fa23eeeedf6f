use Rattle.std.proofs.Common.{ap, ◌∙◌, take, length}
use Rattle.std.specs.Prelude.{codes}
use Rattle.ckbjson.specs.Items.{hex_line, size_line, transaction_lines}
use Rattle.ckbjson.proofs.Lines.{four}
use Rattle.ckbjson.proofs.ids.lines_of_transaction.Goals as goal

pub returns : goal.returns
unfolding transaction_lines
returns c =
    four _ _ _ _ _ _ _ _ _ _ _ _ _ c.new-lines.ensures.bytes c.in_ok-push_line.ensures c.in_ok-push_line-2.ensures c.in_ok-push_line-3.ensures c.in_ok-push_size.ensures
    (ap (hex_line (codes "hash")) c.transaction_hash-hash.ensures) (ap (hex_line (codes "witness hash")) c.witness_hash-witness.ensures)
    (ap (hex_line (codes "proposal id")) (c.proposal_id-id.ensures ∙ ap (take 10) c.transaction_hash-hash.ensures))
    (ap (λ size. size_line size) (ap length c.bytes-size.ensures.encoding))
