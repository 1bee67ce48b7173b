use Rattle.std.proofs.Common.{List, sym, ap, ◌∙◌, subst}
use Rattle.xds_config.specs.declared.config.ClusterEntry.{ClusterEntry}
use Rattle.cluster_tree.specs.StandingTrees.{Forest, entries_of}
use Rattle.cluster_tree.specs.ClusterUsers.{EntriesStay}
use Rattle.cluster_tree.specs.PutEntries.{ArePut}
use Rattle.cluster_tree.proofs.ClusterLemmas.{all_follow}
use Rattle.cluster_tree.proofs.EntryLemmas.{changes_put, forest_put, marks_put, stand_put}
use Rattle.cluster_tree.proofs.trees.Trees.update_in_place.Goals as goal

pub renew_users-requires : goal.renew_users-requires
renew_users-requires c = all_follow c.args.self.now.now c.requires.changes.0 (entries_of c.args.self.now.clusters) c.requires.changes.1.0 c.args.self.now.clusters c.requires.changes.1.1

pub put_entries-requires-clause-others : goal.put_entries-requires-clause-others
put_entries-requires-clause-others c = subst (λ (f : Forest). EntriesStay c.args.next.others.now f.clusters c.args.next.config.now.clusters) (sym c.renew_users.ensures) c.requires.others

pub step_in_place-requires : goal.step_in_place-requires
step_in_place-requires c =
    let config : List ClusterEntry = c.args.next.config.now.clusters in
    let are : ArePut c.in_ok-put.put config c.args.self.now.clusters c.put_entries.new.self.clusters =
    subst (λ (f : Forest). ArePut c.in_ok-put.put config f.clusters c.put_entries.new.self.clusters) c.renew_users.ensures c.in_ok-put.ensures.put in
    changes_put c.in_ok-put.put config c.args.changed.now c.args.reports.now.entries c.args.self.now c.put_entries.new.self are (c.in_ok-put.ensures.now ∙ ap (λ (f : Forest). f.now) c.renew_users.ensures) c.requires.changes

pub returns-clause-step : goal.returns-clause-step
returns-clause-step c =
    let config : List ClusterEntry = c.args.next.config.now.clusters in
    let are : ArePut c.in_ok-put.put config c.args.self.now.clusters c.put_entries.new.self.clusters =
    subst (λ (f : Forest). ArePut c.in_ok-put.put config f.clusters c.put_entries.new.self.clusters) c.renew_users.ensures c.in_ok-put.ensures.put in
    forest_put c.in_ok-put.put config c.args.now c.args.reports.now.entries c.args.self.now c.put_entries.new.self c.step_in_place.new.self are c.requires.names c.requires.lawful.rising c.in_ok-followed.ensures.step

pub returns-clause-changed : goal.returns-clause-changed
returns-clause-changed c =
    let config : List ClusterEntry = c.args.next.config.now.clusters in
    let are : ArePut c.in_ok-put.put config c.args.self.now.clusters c.put_entries.new.self.clusters =
    subst (λ (f : Forest). ArePut c.in_ok-put.put config f.clusters c.put_entries.new.self.clusters) c.renew_users.ensures c.in_ok-put.ensures.put in
    let step = forest_put c.in_ok-put.put config c.args.now c.args.reports.now.entries c.args.self.now c.put_entries.new.self c.step_in_place.new.self are c.requires.names c.requires.lawful.rising c.in_ok-followed.ensures.step in
    marks_put c.in_ok-put.put config c.args.self.now.clusters c.put_entries.new.self.clusters are c.args.now c.args.reports.now.entries c.in_ok-followed.followed.seen.changed c.step_in_place.new.self.clusters
    c.requires.names c.requires.lawful.rising (ap (λ (f : Forest). f.clusters) step) c.in_ok-followed.ensures.changed

pub returns-clause-anew : goal.returns-clause-anew
returns-clause-anew c =
    let config : List ClusterEntry = c.args.next.config.now.clusters in
    let are : ArePut c.in_ok-put.put config c.args.self.now.clusters c.put_entries.new.self.clusters =
    subst (λ (f : Forest). ArePut c.in_ok-put.put config f.clusters c.put_entries.new.self.clusters) c.renew_users.ensures c.in_ok-put.ensures.put in
    stand_put c.in_ok-put.put config c.args.self.now.clusters c.put_entries.new.self.clusters are c.in_ok-followed.followed.anew c.step_in_place.new.self.clusters c.in_ok-followed.ensures.put c.in_ok-followed.ensures.anew
