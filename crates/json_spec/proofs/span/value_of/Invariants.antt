use Rattle.std.proofs.Common.{◌≡◌, ◌<◌, ◌≤◌, ◌^◌, drop}
use Rattle.json_spec.specs.Reading.{value_after}
use Rattle.json_spec.proofs.span.value_of.Given as goal

-- what is left makes the same of the value, and the numbers are small
abbrev pub invariant-characters : goal.invariant-characters
invariant-characters l =
    (value_after l.marks l.first l.second l.third (drop l.c-index l.text) ≡ value_after 0 0 0 0 l.text)
    × (l.marks ≤ 3)
    × (l.first < 2 ^ 32)
    × (l.second < 2 ^ 32)
    × (l.third < 2 ^ 32)
