use Rattle.std.proofs.Common.{◌≡◌, ◌++◌, take, string_bytes}
use Rattle.std.specs.List.{flat_map}
use Rattle.header_match.proofs.ValueLemmas.{next_value}
use Rattle.header_match.proofs.headers.join_values.Given as goal

abbrev pub invariant-loop-header : goal.invariant-loop-header
invariant-loop-header l = string_bytes l.text ≡ l.fn.first ++ flat_map (next_value l.name) (take l.header-index l.rest)
