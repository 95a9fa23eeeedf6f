use Rattle.std.proofs.Common.{◌++◌, map, ap, ◌∙◌}
use Rattle.std.specs.Prelude.{codes}
use Rattle.chain_defs.specs.Hashes.{transaction_hash}
use Rattle.report_defs.specs.Text.{line_feed}
use Rattle.ask_defs.specs.Answers.{listed}
use Rattle.run_ask.proofs.TextLemmas.{six-parts}
use Rattle.run_ask.proofs.text.block_line.Goals as goal

pub returns : goal.returns
returns c =
    let one = c.extend_from_slice.new.self.items in
    let three = c.extend_from_slice-3.new.self.items in
    six-parts (codes "{\"block\":") _ (codes ",\"hashes\":[") (listed (map transaction_hash c.args.block.now.transactions)) (codes "]}") line_feed
    c.new-line.result.items one c.extend_from_slice-2.new.self.items three c.extend_from_slice-4.new.self.items c.extend_from_slice-5.new.self.items
    c.new-line.ensures.items c.in_ok-extend_from_slice.ensures.items
    (c.in_ok-extend_from_slice-2.ensures.items ∙ ap (λ l. one ++ l) (c.deref-2.ensures.value ∙ c.in_ok-json.ensures))
    c.in_ok-extend_from_slice-3.ensures.items
    (c.in_ok-extend_from_slice-4.ensures.items ∙ ap (λ l. three ++ l) (c.as_bytes.ensures.value ∙ c.in_ok-hashes-2.ensures ∙ ap listed (c.deref.ensures.value ∙ c.in_ok-hashes.ensures.hashes)))
    c.in_ok-extend_from_slice-5.ensures.items
