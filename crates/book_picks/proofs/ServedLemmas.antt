-- The places of a cluster's chosen child, and the places that a reply names.
use Rattle.std.proofs.Common.{◌≡◌, ℕ, zero, suc, List, [], map, refl, sym, ap, ◌∙◌, Option, Some, None}
use Rattle.std.specs.Prelude.{Result, Ok, Err, option_map, option_and_then, slice_get}
use Rattle.std.specs.Option.{option_map_or}
use Rattle.std.proofs.lemmas.Option.{slice_get-map}
use Rattle.xc_base.specs.declared.names.State.{State}
use Rattle.xc_base.specs.declared.reason.Reason.{Reason}
use Rattle.xds_config.specs.declared.config.Leaves.{Leaves}
use Rattle.xds_config.specs.declared.config.ClusterEntry.{ClusterEntry}
use Rattle.priority_lb.specs.declared.facts.ChildFacts.{ChildFacts}
use Rattle.priority_lb.specs.ChildHistories as children
use Rattle.graceful_switch.specs.Takeover.{Pair}
use Rattle.tree_steps.specs.declared.tree_view.TreeView.{TreeView}
use Rattle.book_trees.specs.config_assembly.Orders.{Name}
use Rattle.book_trees.specs.xds_history.declared.page.Tree.{Tree}
use Rattle.book_trees.specs.xds_history.declared.page.ClusterTrees.{ClusterTrees}
use Rattle.book_trees.specs.xds_history.declared.page.Page.{Page}
use Rattle.book_trees.specs.xds_history.Trees.{children_now, chosen_place, trees_of}
use Rattle.book_trees.specs.xds_history.Pickers.{child_localities, cluster_view, tree_view, view_with}
use Rattle.book_trees.specs.xds_history.Picks.{Place, place_at, place_in, place_in_child, turn, turn_at}
use Rattle.book_picks.specs.declared.place_counts.PlaceCounts.{PlaceCounts}
use Rattle.book_picks.specs.CountedPlaces.{count_at, count_of, index_of}
use Rattle.book_picks.specs.ClusterRows.{AreIndexesOf}
use Rattle.book_picks.specs.ChosenPlaces.{key_of, places_of_child, places_of_tree, served}

at_none : {X : Type 0} (place : ℕ) → slice_get {X = X} [] place ≡ None
at_none zero = refl
at_none (suc place) = refl

-- ---- the localities of the chosen child

in_child : (cluster : Name) (tree : Tree) (place : ℕ) (found : Option (children.Name × ChildFacts)) →
    slice_get (option_map_or (λ c. places_of_child cluster tree c.0) found []) place ≡ option_and_then (λ c. place_in_child cluster tree place c.0) found
in_child cluster tree place None = at_none place
in_child cluster tree place (Some c) = slice_get-map (place_at cluster c.0) (child_localities tree c.0) place

in_trees : (state : Name → State) (cluster : Name) (view : TreeView) (place : ℕ) (trees : Option (Pair Tree)) → view_with state trees ≡ Ok view →
    slice_get (option_map_or (λ pair. places_of_tree cluster pair.serving) trees []) place
    ≡ option_and_then (λ pair. option_and_then (λ c. place_in_child cluster pair.serving place c.0) (slice_get (children_now pair.serving) view.chosen)) trees
in_trees state cluster view place None is = absurd (cc is)
in_trees state cluster view place (Some pair) is =
    let same : tree_view state pair ≡ view = cc in
    in_child cluster pair.serving place (slice_get (children_now pair.serving) (chosen_place pair.serving))
    ∙ ap (λ chosen. option_and_then (λ c. place_in_child cluster pair.serving place c.0) (slice_get (children_now pair.serving) chosen)) (ap (λ v. v.chosen) same)

in_state : (state : Name → State) (trees : List ClusterTrees) (name : Name) (leaves : Result Leaves Reason) (view : TreeView) (place : ℕ) →
    cluster_view state trees (record { name = name; state = leaves }) ≡ Ok view → slice_get (served trees (record { name = name; state = leaves })) place ≡ place_in trees name view.chosen place
in_state state trees name (Err reason) view place is = absurd (cc is)
in_state state trees name (Ok leaves) view place is = in_trees state name view place (trees_of name trees) is

-- where a cluster's view is seen, its places are those of the view's chosen child
pub seen_places : (state : Name → State) (trees : List ClusterTrees) (entry : ClusterEntry) (view : TreeView) (place : ℕ) → cluster_view state trees entry ≡ Ok view →
    slice_get (served trees entry) place ≡ place_in trees entry.name view.chosen place
seen_places state trees entry view place is = in_state state trees entry.name entry.state view place is

-- ---- indexes and counts by place

key_index : (counts : PlaceCounts) (o : Option Place) → option_map (index_of counts) (option_map key_of o) ≡ option_map (λ p. index_of counts (key_of p)) o
key_index counts None = refl
key_index counts (Some p) = refl

pub index_at : (counts : PlaceCounts) (indexes : List ℕ) (places : List Place) (place : ℕ) → AreIndexesOf counts indexes (map key_of places) →
    option_map (λ i. Some i) (slice_get indexes place) ≡ option_map (λ p. index_of counts (key_of p)) (slice_get places place)
index_at counts indexes places place are =
    sym (slice_get-map (λ i. Some i) indexes place)
    ∙ ap (λ xs. slice_get xs place) are
    ∙ slice_get-map (index_of counts) (map key_of places) place
    ∙ ap (option_map (index_of counts)) (slice_get-map key_of places place)
    ∙ key_index counts (slice_get places place)

pub counted_at : (ps : List Page) (counts : PlaceCounts) (index : Option ℕ) (place : Option Place) → ((p : Place) → count_of counts (key_of p) ≡ turn p ps) →
    option_map (λ i. Some i) index ≡ option_map (λ p. index_of counts (key_of p)) place → count_at counts index ≡ turn_at place ps
counted_at ps counts None None counted is = refl
counted_at ps counts None (Some p) counted is = absurd (cc is)
counted_at ps counts (Some i) None counted is = absurd (cc is)
counted_at ps counts (Some i) (Some p) counted is =
    let e : Some i ≡ index_of counts (key_of p) = cc in ap (count_at counts) e ∙ counted p
