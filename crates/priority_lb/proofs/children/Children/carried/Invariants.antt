use Rattle.std.proofs.Common.{◌≡◌, take}
use Rattle.priority_lb.specs.Step.{carried}
use Rattle.priority_lb.proofs.children.Children.carried.Given as goal

abbrev pub invariant-loop-place : goal.invariant-loop-place
invariant-loop-place l = l.children.items ≡ carried (take l.place-index l.from) l.self-inside.children.items
