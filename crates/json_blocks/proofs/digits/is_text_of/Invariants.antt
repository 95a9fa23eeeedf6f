use Rattle.std.proofs.Common.{◌≡◌, map, drop}
use Rattle.std.specs.Str.{bytes_eq}
use Rattle.json_defs.specs.Form.{lower_digit}
use Rattle.json_blocks.proofs.digits.is_text_of.Given as goal

-- what is left tells
abbrev pub invariant-digits : goal.invariant-digits
invariant-digits l = bytes_eq (map lower_digit (drop l.i l.text)) (drop l.i l.«digits») ≡ bytes_eq (map lower_digit l.text) l.«digits»
