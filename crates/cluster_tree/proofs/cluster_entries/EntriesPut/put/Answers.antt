use Rattle.std.proofs.Common.{subst}
use Rattle.std.specs.Prelude.{IfOk}
use Rattle.xds_config.specs.declared.config.ClusterEntry.{ClusterEntry}
use Rattle.tree_steps.specs.Users.{ReadsLeaves}
use Rattle.cluster_tree.proofs.EntryLemmas.{put_made}
use Rattle.cluster_tree.proofs.cluster_entries.EntriesPut.put.Goals as goal

pub returns : goal.returns
returns c =
    put_made c.args.place c.args.entry.now c.args.self.now _ c.index.result.now c.in_ok-next.next c.requires.within c.index.ensures
    c.in_ok-next.ensures c.put_cluster.ensures c.in_ok-mark.ensures.marked
    (subst (λ (e : ClusterEntry). IfOk e.state (λ leaves. ReadsLeaves c.add_entry.new.users c.args.place leaves.leaves)) c.get.ensures c.in_ok-add_entry.ensures.entry) c.in_ok-add_entry.ensures.grows
