use Rattle.std.proofs.Common.{◌≡◌, take}
use Rattle.xc_base.specs.declared.names.Key.{Key}
use Rattle.config_assembly.specs.Watching.{has_key}
use Rattle.config_assembly.proofs.watching.set_of.Given as goal

abbrev pub invariant-loop-key : goal.invariant-loop-key
invariant-loop-key l = (key : Key) → has_key l.set.keys key ≡ has_key (take l.key-index l.keys) key
