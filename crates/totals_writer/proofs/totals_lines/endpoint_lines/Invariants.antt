use Rattle.std.proofs.Common.{◌≡◌, ◌++◌, string_bytes}
use Rattle.std.specs.List.{flat_map}
use Rattle.totals_writer.specs.Totals.{endpoint_line}
use Rattle.totals_writer.proofs.totals_lines.endpoint_lines.Given as goal

abbrev pub invariant-loop-address : goal.invariant-loop-address
invariant-loop-address l = string_bytes l.out ++ flat_map endpoint_line l.address-iterator ≡ flat_map endpoint_line l.endpoints.entries
