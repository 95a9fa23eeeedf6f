-- The metrics of the code in the definitions' terms.
use Rattle.std.specs.Prelude.{Bool, true, false, Option, Some, None}
use Rattle.chain_defs.specs.Since as rules
use Rattle.since_rules.specs.declared.fields.Metric.{Metric}
use Rattle.since_rules.specs.declared.fields.Metric.TheVariants.{BlockNumber, Epoch, Timestamp}

abbrev pub meaning : Metric → rules.Metric
meaning BlockNumber = rules.block_number
meaning Epoch = rules.epoch
meaning Timestamp = rules.timestamp

abbrev pub meaning_of_any : Option Metric → rules.Metric
meaning_of_any (Some metric) = meaning metric
meaning_of_any None = rules.no_metric

-- its values are seconds
abbrev pub is_timestamp : rules.Metric → Bool
is_timestamp rules.block_number = false
is_timestamp rules.epoch = false
is_timestamp rules.timestamp = true
is_timestamp rules.no_metric = false
