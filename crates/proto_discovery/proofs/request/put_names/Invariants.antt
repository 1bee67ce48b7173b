use Rattle.std.proofs.Common.{◌≡◌, ◌++◌, drop}
use Rattle.proto_discovery.specs.Request.{name_fields}
use Rattle.proto_discovery.proofs.request.put_names.Given as goal

abbrev pub invariant-loop-name : goal.invariant-loop-name
invariant-loop-name l = l.out ++ name_fields (drop l.name-index l.name-items) ≡ l.fn.out ++ name_fields l.names
