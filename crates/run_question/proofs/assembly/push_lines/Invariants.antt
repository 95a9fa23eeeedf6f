use Rattle.std.proofs.Common.{◌≡◌, ◌++◌, map, drop, string_bytes}
use Rattle.std.specs.List.{concat}
use Rattle.report_defs.specs.Assembly.{pool_line}
use Rattle.run_question.proofs.assembly.push_lines.Given as goal

abbrev pub invariant-lines : goal.invariant-lines
invariant-lines l = record {
  told : string_bytes l.text ++ concat (map pool_line (drop l.line-index l.fn.lines)) ≡ string_bytes l.fn.text ++ concat (map pool_line l.fn.lines);
}
