-- The places of a cluster's chosen child by what is seen of it.
use Rattle.std.proofs.Common.{◌≡◌, List, [], map, refl, sym, ap, ◌∙◌, Option, Some, None}
use Rattle.std.specs.Prelude.{Result, Ok, Err, option_map}
use Rattle.std.specs.Option.{option_map_or}
use Rattle.std.proofs.lemmas.Option.{slice_get-map}
use Rattle.xc_base.specs.declared.names.State.{State}
use Rattle.xc_base.specs.declared.reason.Reason.{Reason}
use Rattle.xds_config.specs.declared.endpoint_values.Locality.{Locality}
use Rattle.xds_config.specs.declared.config.Leaves.{Leaves}
use Rattle.xds_config.specs.declared.config.ClusterEntry.{ClusterEntry}
use Rattle.priority_lb.specs.declared.facts.ChildFacts.{ChildFacts}
use Rattle.priority_lb.specs.ChildHistories as children
use Rattle.graceful_switch.specs.Takeover.{Pair}
use Rattle.tree_steps.specs.declared.tree_view.TreeView.{TreeView}
use Rattle.book_trees.specs.config_assembly.Orders.{Name}
use Rattle.book_trees.specs.xds_history.declared.page.Tree.{Tree}
use Rattle.book_trees.specs.xds_history.declared.page.ClusterTrees.{ClusterTrees}
use Rattle.book_trees.specs.xds_history.Trees.{children_now, chosen_child, chosen_place, trees_of}
use Rattle.book_trees.specs.xds_history.Pickers.{child_localities, cluster_view, named_child, view_with}
use Rattle.book_trees.specs.xds_history.Picks.{place_at}
use Rattle.book_picks.specs.ClusterRows.{key_in, keys_of}
use Rattle.book_picks.specs.ChosenPlaces.{key_of, localities_of_tree, localities_served, places_of_child, places_of_tree, served}
use Rattle.book_picks.specs.RenewedRows.{StaysServed, child_seen}
use Rattle.book_picks.proofs.IndexLemmas.{mapped_twice}

keys_in_child : (name : Name) (tree : Tree) (found : Option (children.Name × ChildFacts)) (ls : List Locality) → ls ≡ option_map_or (λ c. child_localities tree c.0) found [] →
    keys_of name (option_map named_child found) ls ≡ map key_of (option_map_or (λ c. places_of_child name tree c.0) found [])
keys_in_child name tree None ls is = refl
keys_in_child name tree (Some c) ls is =
    ap (map (λ (l : Locality). key_in name (named_child c) l.id)) is
    ∙ mapped_twice key_of (place_at name c.0) (child_localities tree c.0)

keys_in_trees : (states : Name → State) (name : Name) (trees : Option (Pair Tree)) (seen : Result TreeView Reason) (ls : List Locality) → view_with states trees ≡ seen →
    ls ≡ option_map_or (λ pair. localities_of_tree pair.serving) trees [] → keys_of name (child_seen seen) ls ≡ map key_of (option_map_or (λ pair. places_of_tree name pair.serving) trees [])
keys_in_trees states name None seen ls is same = ap (λ s. keys_of name (child_seen s) ls) (sym is)
keys_in_trees states name (Some pair) seen ls is same =
    ap (λ s. keys_of name (child_seen s) ls) (sym is)
    ∙ ap (λ o. keys_of name o ls) (slice_get-map named_child (children_now pair.serving) (chosen_place pair.serving))
    ∙ keys_in_child name pair.serving (chosen_child pair.serving) ls same

keys_in_state : (states : Name → State) (trees : List ClusterTrees) (name : Name) (state : Result Leaves Reason) (seen : Result TreeView Reason) (ls : List Locality) → cluster_view states trees (record { name = name; state = state }) ≡ seen →
    ((leaves : Leaves) → state ≡ Ok leaves → ls ≡ option_map_or (λ pair. localities_of_tree pair.serving) (trees_of name trees) []) →
    keys_of name (child_seen seen) ls ≡ map key_of (served trees (record { name = name; state = state }))
keys_in_state states trees name (Err reason) seen ls is same = ap (λ s. keys_of name (child_seen s) ls) (sym is)
keys_in_state states trees name (Ok leaves) seen ls is same = keys_in_trees states name (trees_of name trees) seen ls is (same leaves refl)

-- a cluster's places have the name of the chosen child that is seen
pub keys_served : (states : Name → State) (trees : List ClusterTrees) (entry : ClusterEntry) (seen : Result TreeView Reason) (ls : List Locality) → cluster_view states trees entry ≡ seen →
    ((leaves : Leaves) → entry.state ≡ Ok leaves → ls ≡ localities_served trees entry) → keys_of entry.name (child_seen seen) ls ≡ map key_of (served trees entry)
keys_served states trees entry seen ls is same = keys_in_state states trees entry.name entry.state seen ls is same

-- where the view and the localities stay, so do the places
pub keys_stay : (before after : List ClusterTrees) (entry : ClusterEntry) → StaysServed before after entry → map key_of (served before entry) ≡ map key_of (served after entry)
keys_stay before after entry stays =
    sym (keys_served stays.states_before before entry (cluster_view stays.states_before before entry) (localities_served before entry) refl (λ leaves is. refl))
    ∙ ap (λ v. keys_of entry.name (child_seen v) (localities_served before entry)) stays.view
    ∙ ap (λ ls. keys_of entry.name (child_seen (cluster_view stays.states_after after entry)) ls) stays.localities
    ∙ keys_served stays.states_after after entry (cluster_view stays.states_after after entry) (localities_served after entry) refl (λ leaves is. refl)
