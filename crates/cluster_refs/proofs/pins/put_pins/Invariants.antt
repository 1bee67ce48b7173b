use Rattle.std.proofs.Common.{◌≡◌, [], drop, map}
use Rattle.cluster_refs.specs.PinnedNames.{put_pins}
use Rattle.cluster_refs.proofs.pins.put_pins.Given as goal

abbrev pub invariant-loop-pin : goal.invariant-loop-pin
invariant-loop-pin l = put_pins l.names.keys l.seen.keys (map (λ pin. pin.now) (drop l.pin-index l.pins)) ≡ put_pins l.fn.names.keys [] (map (λ pin. pin.now) l.pins)
