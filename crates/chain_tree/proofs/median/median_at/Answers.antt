use Rattle.std.proofs.Common.{◌<◌, length, ap, ◌∙◌, arith}
use Rattle.std.proofs.lemmas.List.{length-take-le}
use Rattle.chain_defs.specs.Median.{median_of}
use Rattle.chain_tree.specs.Timestamps.{timestamps_up}
use Rattle.chain_tree.proofs.TimestampLemmas.{median-up}
use Rattle.chain_tree.proofs.median.median_at.Goals as goal

pub returns : goal.returns
returns c = record {
  of_blocks = λ kept indexes.
      let taken = c.take_timestamps-count.ensures.taken in
      let long = length-take-le c.take_timestamps-count.result c.take_timestamps-count.new.timestamps (omega (arith, c.take_timestamps-count.ensures.few)) in
      let some : 0 < length (timestamps_up c.args.entries.now 37 c.args.place) = omega (arith, ap length taken, long, c.take_timestamps-count.ensures.some) in
      c.median_of.ensures ∙ ap median_of taken ∙ median-up c.args.place kept c.args.entries.now indexes c.requires.within some;
}
