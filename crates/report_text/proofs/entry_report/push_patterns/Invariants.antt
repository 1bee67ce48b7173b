use Rattle.std.proofs.Common.{◌≡◌, ◌++◌, flat_map, string_bytes, take}
use Rattle.report_parts.specs.RequestText.{pattern_line}
use Rattle.report_text.proofs.entry_report.push_patterns.Given as goal

abbrev pub invariant-loop-pattern : goal.invariant-loop-pattern
invariant-loop-pattern l = string_bytes l.out ≡ string_bytes l.fn.out ++ flat_map pattern_line (take l.pattern-index l.patterns)
