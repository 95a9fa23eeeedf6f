-- The deeds of the code in the definitions' terms.
use Rattle.std.specs.Prelude.{Option, Some, None}
use Rattle.machine_defs.specs.SyscallTable as table
use Rattle.vm_sys.specs.declared.call.Form.{Form}
use Rattle.vm_sys.specs.declared.call.Form.TheVariants.{Part, Field, Code}
use Rattle.vm_sys.specs.declared.call.Action.{Action}
use Rattle.vm_sys.specs.declared.call.Action.TheVariants.{Exits, Debugs, Loads}

abbrev pub form_meaning : Form → table.Action
form_meaning Part = table.Loads
form_meaning Field = table.LoadsField
form_meaning Code = table.LoadsCode

abbrev pub meaning : Action → table.Action
meaning Exits = table.Exits
meaning Debugs = table.Debugs
meaning (Loads form) = form_meaning form

abbrev pub meaning_of_any : Option Action → Option table.Action
meaning_of_any (Some deed) = Some (meaning deed)
meaning_of_any None = None
