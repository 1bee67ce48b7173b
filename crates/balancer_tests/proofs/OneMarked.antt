-- The marks of a configuration of one cluster.
use Rattle.std.proofs.Common.{◌≡◌, ℕ, zero, suc, ◌<◌, Bool, true, false, List, [], ◌∷◌, length, map, get_or, Some, sym, ap, ◌∙◌, arith}
use Rattle.std.specs.Prelude.{slice_get}
use Rattle.std.proofs.lemmas.Option.{slice_get_within}
use Rattle.xds_config.specs.declared.config.ClusterEntry.{ClusterEntry}
use Rattle.cluster_tree.specs.declared.cluster_trees.Cluster.{Cluster}
use Rattle.cluster_tree.specs.ClusterUsers.{EntriesStay}
use Rattle.cluster_tree.specs.StandingTrees.{Forest, entries_of, forest_after}
use Rattle.cluster_tree.proofs.ForestLemmas.{entries_kept, map_map}
use Rattle.tree_steps.specs.Reports.{Reports}
use Rattle.xc_base.specs.declared.names.Time.{Time}

within_one : (place : ℕ) → place < 1 → get_or (true ∷ []) place false ≡ false → ⊥
within_one zero less mark = cc
within_one (suc place) less mark = omega arith

-- where it is marked, nothing is said of its entry
pub one_marked : (old : List Cluster) (entries : List ClusterEntry) → length entries ≡ 1 → EntriesStay (true ∷ []) old entries
one_marked old entries one place entry is mark =
    let within : place < length entries = slice_get_within entries place entry is in
    let less : place < 1 = omega (arith, within, one) in
    absurd (within_one place less mark)

-- the names stay beside the trees
pub names_kept : (now : Time) (r : Reports) (entries : List ClusterEntry) (old new : Forest) → new ≡ forest_after now r entries old → map (λ e. e.name) entries ≡ map (λ c. c.entry.name) new.clusters
names_kept now r entries old new is =
    ap (map (λ (e : ClusterEntry). e.name)) (sym (ap (λ (f : Forest). entries_of f.clusters) is ∙ entries_kept now r entries old.clusters)) ∙ map_map (λ (e : ClusterEntry). e.name) (λ (c : Cluster). c.entry) new.clusters

pub names_kept_twice : (now later : Time) (r s : Reports) (entries : List ClusterEntry) (old mid new : Forest) → mid ≡ forest_after now r entries old → new ≡ forest_after later s (entries_of mid.clusters) mid →
    map (λ e. e.name) entries ≡ map (λ c. c.entry.name) new.clusters
names_kept_twice now later r s entries old mid new first second =
    names_kept now r entries old mid first ∙ (sym (map_map (λ (e : ClusterEntry). e.name) (λ (c : Cluster). c.entry) mid.clusters) ∙ names_kept later s (entries_of mid.clusters) mid new second)
