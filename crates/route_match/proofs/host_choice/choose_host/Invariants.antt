use Rattle.std.proofs.Common.{take}
use Rattle.route_match.proofs.HostLemmas.{IsChosenOf}
use Rattle.route_match.proofs.host_choice.choose_host.Given as goal

abbrev pub invariant-loop-place : goal.invariant-loop-place
invariant-loop-place l = IsChosenOf (take l.place l.host-items) l.text l.best
