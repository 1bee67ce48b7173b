use Rattle.std.proofs.Common.{◌≡◌, drop}
use Rattle.cluster_refs.specs.PinnedNames.{put_in}
use Rattle.cluster_refs.proofs.pins.put_names.Given as goal

abbrev pub invariant-loop-name : goal.invariant-loop-name
invariant-loop-name l = put_in l.names.keys (drop l.name-index l.more) ≡ put_in l.fn.names.keys l.more
