use Rattle.std.proofs.Common.{◌≡◌, take}
use Rattle.config_assembly.proofs.ordered.copy_keys.Given as goal

abbrev pub invariant-loop-key : goal.invariant-loop-key
invariant-loop-key l = l.list ≡ take l.key-index l.keys
