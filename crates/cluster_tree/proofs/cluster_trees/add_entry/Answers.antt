use Rattle.std.proofs.Common.{List, ap, ◌∙◌, subst}
use Rattle.xds_config.specs.declared.config.Leaf.{Leaf}
use Rattle.xds_config.specs.declared.config.Leaves.{Leaves}
use Rattle.tree_steps.specs.Users.{ReadsLeaves}
use Rattle.cluster_tree.proofs.cluster_trees.add_entry.Goals as goal

pub returns-in_ok-add_leaves-in-Ok-clause-entry : goal.returns-in_ok-add_leaves-in-Ok-clause-entry
returns-in_ok-add_leaves-in-Ok-clause-entry c =
    rw (c.in-Ok.is)
    (subst (λ (xs : List Leaf). ReadsLeaves c.add_leaves.new.self c.args.place xs) (c.as_slice.ensures ∙ ap (λ (l : Leaves). l.leaves) c.get.ensures) c.in_ok-add_leaves-in-Ok.ensures.added)
