use Rattle.std.proofs.Common.{◌≡◌, ◌++◌, drop, string_bytes}
use Rattle.ask_defs.specs.Answers.{listed_later}
use Rattle.run_ask.proofs.text.push_later.Given as goal

abbrev pub invariant-hashes : goal.invariant-hashes
invariant-hashes l = string_bytes l.text ++ listed_later (drop l.hash-index l.hashes) ≡ string_bytes l.fn.text ++ listed_later l.hashes
