use Rattle.std.proofs.Common.{◌≡◌, map, take}
use Rattle.tree_steps.specs.Lent.{all_lent}
use Rattle.tree_steps.specs.Reports.{child_in}
use Rattle.tree_steps.specs.TreePickers.{child_picker}
use Rattle.tree_steps.proofs.pickers.balancing_states.Given as goal

abbrev pub invariant-loop-child : goal.invariant-loop-child
invariant-loop-child l = record {
  states : l.states.items ≡ map (child_in l.reports.entries) (all_lent (take l.child-index l.children));
  pickers : l.pickers.items ≡ map (child_picker l.reports.entries) (all_lent (take l.child-index l.children));
}
