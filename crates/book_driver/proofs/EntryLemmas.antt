-- The entries of the clusters with trees, and those of the configuration that they stand for.
use Rattle.std.proofs.Common.{◌≡◌, Bool, List, [], ◌∷◌, map, Option, Some, None, refl, sym, ap, ◌∙◌}
use Rattle.std.specs.Prelude.{slice_get}
use Rattle.std.specs.Option.{option_and_then}
use Rattle.std.proofs.lemmas.Option.{slice_get-map}
use Rattle.xds_config.specs.declared.config.ClusterEntry.{ClusterEntry}
use Rattle.xds_config.specs.declared.config.Config.{Config}
use Rattle.cluster_tree.specs.declared.cluster_trees.Cluster.{Cluster}
use Rattle.cluster_tree.specs.ClusterUsers.{EntriesStay}
use Rattle.cluster_tree.specs.StandingTrees.{entries_of}
use Rattle.dep_manager.specs.ShownEntries.{StandAsShown}
use Rattle.book_trees.specs.TreesKept.{cluster_names, clusters_of}

-- where the trees are those of what was shown, so are the entries without a mark
pub entries_stay : (marks : List Bool) (shown : Option Config) (config : Config) (old : List Cluster) → entries_of old ≡ clusters_of shown → StandAsShown marks shown config → EntriesStay marks old config.clusters
entries_stay marks shown config old same stand place entry is mark =
    sym (slice_get-map (λ (c : Cluster). c.entry) old place) ∙ ap (λ (es : List ClusterEntry). slice_get es place) same ∙ stood shown (stand.each place entry is mark)
  where
    stood : (shown : Option Config) → option_and_then (λ c. slice_get c.clusters place) shown ≡ Some entry → slice_get (clusters_of shown) place ≡ Some entry
    stood None is = absurd (nowhere is)
      where
        nowhere : (let o : Option ClusterEntry = None in o) ≡ Some entry → ⊥
        nowhere is = cc
    stood (Some c) is = is

entry_names : (clusters : List Cluster) → map (λ e. e.name) (entries_of clusters) ≡ map (λ c. c.entry.name) clusters
entry_names [] = refl
entry_names (c ∷ cs) = ap (λ names. c.entry.name ∷ names) (entry_names cs)

-- where clusters stand for the same names as those of what was shown, they do for those that have trees
pub named_alike : (shown : Option Config) (config : Config) (old : List Cluster) → entries_of old ≡ clusters_of shown → cluster_names shown ≡ cluster_names (Some config) → map (λ e. e.name) config.clusters ≡ map (λ c. c.entry.name) old
named_alike shown config old same names = sym names ∙ (ap (map (λ (e : ClusterEntry). e.name)) (sym same) ∙ entry_names old)
