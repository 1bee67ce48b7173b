use Rattle.std.proofs.Common.{◌≡◌, take, not}
use Rattle.std.specs.Prelude.{filter}
use Rattle.dep_manager.specs.CallsAlone.{is_among}
use Rattle.dep_manager.proofs.kept_roots.names_outside.Given as goal

abbrev pub invariant-loop-name : goal.invariant-loop-name
invariant-loop-name l = l.outside ≡ filter (λ name. not (is_among l.set.keys name)) (take l.name-index l.names)
