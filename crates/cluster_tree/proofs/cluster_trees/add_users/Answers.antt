use Rattle.std.proofs.Common.{subst}
use Rattle.std.specs.Prelude.{IfOk}
use Rattle.xds_config.specs.declared.config.ClusterEntry.{ClusterEntry}
use Rattle.tree_steps.specs.Users.{ReadsLeaves}
use Rattle.tree_steps.proofs.UserLemmas.{entry_grown}
use Rattle.cluster_tree.proofs.ClusterLemmas.{serving_read}
use Rattle.cluster_tree.proofs.cluster_trees.add_users.Goals as goal

pub returns-clause-entry : goal.returns-clause-entry
returns-clause-entry c =
    entry_grown c.add_entry.new.users c.add_serving.new.users c.args.place c.args.cluster.now.entry.state c.in_ok-add_serving.ensures.grows
    (subst (λ (e : ClusterEntry). IfOk e.state (λ leaves. ReadsLeaves c.add_entry.new.users c.args.place leaves.leaves)) c.get.ensures c.in_ok-add_entry.ensures.entry)

pub returns-clause-serving : goal.returns-clause-serving
returns-clause-serving c =
    serving_read c.add_serving.new.users c.args.place c.args.cluster.now c.requires
    (entry_grown c.add_entry.new.users c.add_serving.new.users c.args.place c.args.cluster.now.entry.state c.in_ok-add_serving.ensures.grows
    (subst (λ (e : ClusterEntry). IfOk e.state (λ leaves. ReadsLeaves c.add_entry.new.users c.args.place leaves.leaves)) c.get.ensures c.in_ok-add_entry.ensures.entry))
    c.in_ok-add_serving.ensures.serving
