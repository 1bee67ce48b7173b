use Rattle.std.proofs.Common.{subst}
use Rattle.std.specs.Prelude.{IfSome, OnOk}
use Rattle.tree_steps.specs.Users.{ReadsLeaves}
use Rattle.cluster_tree.specs.declared.cluster_trees.Standing.{Standing}
use Rattle.cluster_tree.proofs.cluster_trees.add_serving.Goals as goal

pub returns-in-Ok-clause-serving : goal.returns-in-Ok-clause-serving
returns-in-Ok-clause-serving c =
    rw (c.in-Ok.is)
    (subst (λ (s : Standing). OnOk c.add_old.result (IfSome s.trees.waiting (λ _. ReadsLeaves c.add_old.new.users c.args.place s.trees.serving.leaves.leaves))) c.get.ensures c.add_old.ensures.serving)
