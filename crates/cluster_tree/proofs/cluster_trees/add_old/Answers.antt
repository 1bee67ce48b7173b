use Rattle.std.proofs.Common.{Option, Some, None, List, ap, ◌∙◌, subst}
use Rattle.std.specs.Prelude.{IfSome}
use Rattle.xds_config.specs.declared.config.Leaf.{Leaf}
use Rattle.tree_steps.specs.TreeSteps.{TreeFacts}
use Rattle.tree_steps.specs.Users.{ReadsLeaves}
use Rattle.cluster_tree.proofs.cluster_trees.add_old.Goals as goal

if_some : {T : Type 0} (P : Type 0) (o : Option T) → P → IfSome o (λ _. P)
if_some P None holds = tt
if_some P (Some value) holds = holds

pub returns-in_ok-add_leaves-clause-serving : goal.returns-in_ok-add_leaves-clause-serving
returns-in_ok-add_leaves-clause-serving c =
    if_some _ c.args.trees.now.waiting
    (subst (λ (xs : List Leaf). ReadsLeaves c.add_leaves.new.self c.args.place xs) (c.leaves.ensures ∙ ap (λ (t : TreeFacts). t.leaves.leaves) c.serving.ensures) c.in_ok-add_leaves.ensures.added)
