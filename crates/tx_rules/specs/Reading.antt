-- Why kept blocks were not read to a good end, where a stop may be a broken rule.
use Rattle.std.specs.Prelude.{Option, Some, None, Result, Ok, Err}
use Rattle.outside.specs.declared.disk.ReadStop.{ReadStop}
use Rattle.tx_rules.specs.declared.resolving.TxStop.{TxStop}
use Rattle.tx_rules.specs.declared.resolving.TxStop.TheVariants.{Broken, Read}

abbrev pub read_stop : TxStop → Option ReadStop
read_stop (Broken rule) = None
read_stop (Read stop) = Some stop

abbrev pub read_stop_of : {T : Type 0} → Result T TxStop → Option ReadStop
read_stop_of (Ok value) = None
read_stop_of (Err stop) = read_stop stop
