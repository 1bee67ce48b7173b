use Rattle.std.proofs.Common.{◌≡◌, drop}
use Rattle.config_assembly.specs.Orders.{name_cmp, put_in}
use Rattle.config_assembly.proofs.ordered.put_names.Given as goal

abbrev pub invariant-loop-name : goal.invariant-loop-name
invariant-loop-name l = put_in name_cmp l.names.keys (drop l.name-index l.more) ≡ put_in name_cmp l.fn.names.keys l.more
