use Rattle.std.proofs.Common.{◌≡◌, List, map, sym, ap, ◌∙◌, subst}
use Rattle.xds_config.specs.declared.config.Config.{Config}
use Rattle.xds_config.specs.declared.config.ClusterEntry.{ClusterEntry}
use Rattle.cluster_tree.specs.declared.cluster_trees.Cluster.{Cluster}
use Rattle.cluster_tree.specs.StandingTrees.{Forest}
use Rattle.cluster_tree.specs.ClusterUsers.{EntriesStay}
use Rattle.cluster_tree.specs.PutEntries.{ArePut}
use Rattle.cluster_tree.proofs.EntryLemmas.{kept_put}
use Rattle.cluster_tree.proofs.trees.Trees.put_entries.Goals as goal

pub put_entries-requires-clause-others : goal.put_entries-requires-clause-others
put_entries-requires-clause-others c =
    let forest : Forest = record { now = c.clusters.inside.time; clusters = c.clusters.inside.clusters.items } in
    let was : forest ≡ c.args.self.now = c.clusters.view_is ∙ c.replace-2.ensures.value in
    let entries : c.as_blocks.result.now ≡ c.args.config.now.clusters = c.as_blocks.ensures.same ∙ ap (λ (x : Config). x.clusters) c.get.ensures in
    subst (λ (es : List ClusterEntry). EntriesStay c.args.others.now forest.clusters es) (sym entries) (subst (λ (f : Forest). EntriesStay c.args.others.now f.clusters c.args.config.now.clusters) (sym was) c.requires.others)

pub put_entries-requires-clause-names : goal.put_entries-requires-clause-names
put_entries-requires-clause-names c =
    let forest : Forest = record { now = c.clusters.inside.time; clusters = c.clusters.inside.clusters.items } in
    let was : forest ≡ c.args.self.now = c.clusters.view_is ∙ c.replace-2.ensures.value in
    let entries : c.as_blocks.result.now ≡ c.args.config.now.clusters = c.as_blocks.ensures.same ∙ ap (λ (x : Config). x.clusters) c.get.ensures in
    ap (map (λ (e : ClusterEntry). e.name)) entries ∙ (c.requires.names ∙ ap (λ (f : Forest). map (λ (x : Cluster). x.entry.name) f.clusters) (sym was))

pub invariant_of-drop : goal.invariant_of-drop
invariant_of-drop c =
    let entries : c.as_blocks.result.now ≡ c.args.config.now.clusters = c.as_blocks.ensures.same ∙ ap (λ (x : Config). x.clusters) c.get.ensures in
    let are = subst (λ (es : List ClusterEntry). ArePut c.put_entries.new.stand.put es c.clusters.inside.clusters.items c.put_entries.new.stand.clusters.items) entries c.in_ok-put_entries.ensures.put in
    kept_put c.put_entries.new.stand.put c.args.config.now.clusters c.clusters.inside.clusters.items c.put_entries.new.stand.clusters.items are c.clusters.inside.index.users c.put_entries.new.stand.users c.clusters.inside.index.ends c.clusters.inside.seen
    c.requires.lawful.clusters c.requires.lawful.rising c.clusters.invariant c.in_ok-put_entries.ensures.grows c.in_ok-put_entries.ensures.read

pub returns-clause-put : goal.returns-clause-put
returns-clause-put c =
    let forest : Forest = record { now = c.clusters.inside.time; clusters = c.clusters.inside.clusters.items } in
    let was : forest ≡ c.args.self.now = c.clusters.view_is ∙ c.replace-2.ensures.value in
    let entries : c.as_blocks.result.now ≡ c.args.config.now.clusters = c.as_blocks.ensures.same ∙ ap (λ (x : Config). x.clusters) c.get.ensures in
    subst (λ (f : Forest). ArePut c.put_entries.new.stand.put c.args.config.now.clusters f.clusters c.put_entries.new.stand.clusters.items) was
    (subst (λ (es : List ClusterEntry). ArePut c.put_entries.new.stand.put es forest.clusters c.put_entries.new.stand.clusters.items) entries c.in_ok-put_entries.ensures.put)
