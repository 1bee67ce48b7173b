use Rattle.std.proofs.Common.{◌≡◌, ◌++◌, map, take, drop}
use Rattle.tree_steps.specs.Reports.{locality_in}
use Rattle.tree_steps.specs.TreePickers.{parts_from}
use Rattle.tree_steps.proofs.pickers.priority_state.Given as goal

abbrev pub invariant-loop-place : goal.invariant-loop-place
invariant-loop-place l = record {
  states : l.states.items ≡ map (locality_in l.reports.entries) (map (λ m. m.now) (take l.place l.localities));
  parts : l.parts ++ parts_from l.reports.entries l.place (map (λ m. m.now) (drop l.place l.localities)) ≡ parts_from l.reports.entries 0 (map (λ m. m.now) l.localities);
}
