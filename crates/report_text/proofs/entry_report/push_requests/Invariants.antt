use Rattle.std.proofs.Common.{◌≡◌, ◌++◌, flat_map, string_bytes, take}
use Rattle.report_parts.specs.RequestText.{request_line}
use Rattle.report_text.proofs.entry_report.push_requests.Given as goal

abbrev pub invariant-loop-sent : goal.invariant-loop-sent
invariant-loop-sent l = string_bytes l.out ≡ string_bytes l.fn.out ++ flat_map (request_line l.boot.authorities) (take l.sent-index l.sent)
