use Rattle.std.proofs.Common.{◌≡◌, ◌++◌, drop}
use Rattle.hex.specs.Hex.{encode_lower}
use Rattle.json_blocks.proofs.leaves.put_digits.Given as goal

-- what is written, and the digits that are left
abbrev pub invariant-digits : goal.invariant-digits
invariant-digits l = l.out.items ++ encode_lower (drop l.byte-index l.bytes) ≡ l.fn.out.items ++ encode_lower l.bytes
