use Rattle.std.proofs.Common.{◌≡◌, ◌<◌, map, take, length, All, IfSome}
use Rattle.priority_lb.specs.ChildLaws.{places}
use Rattle.tree_steps.specs.Reports.{name_of}
use Rattle.tree_steps.specs.Lent.{all_lent}
use Rattle.tree_steps.proofs.leaf_children.places_in.Given as goal

abbrev pub invariant-loop-child : goal.invariant-loop-child
invariant-loop-child l = record {
  items : l.from.items ≡ places (map name_of (all_lent (take l.child-index l.children))) (map name_of (all_lent l.before));
  below : All (λ place. IfSome place (λ p. p < length l.before)) l.from.items;
}
