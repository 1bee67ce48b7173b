use Rattle.std.proofs.Common.{◌≡◌, map, filter, take}
use Rattle.weighted_lb.specs.States.{is_ready}
use Rattle.tree_steps.specs.Reports.{state_in}
use Rattle.tree_steps.proofs.reports.address_states.Given as goal

abbrev pub invariant-loop-address : goal.invariant-loop-address
invariant-loop-address l = record {
  states : l.states.items ≡ map (state_in l.reports.entries) (take l.address-index l.addresses);
  ready : l.ready ≡ filter (λ a. is_ready (state_in l.reports.entries a)) (take l.address-index l.addresses);
}
