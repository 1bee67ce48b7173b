-- The row of a cluster that a call holds.
use Rattle.std.proofs.Common.{◌≡◌, ℕ, List, [], ◌∷◌, map, get_or, refl, sym, ap, ◌∙◌, subst, Option, Some, None}
use Rattle.std.specs.Prelude.{Result, Ok, option_map, option_and_then, slice_get, position, bytes_eq}
use Rattle.std.specs.Option.{option_map_or}
use Rattle.std.proofs.lemmas.List.Quantifiers.{position-Some}
use Rattle.std.proofs.lemmas.Option.{slice_get-get_or, slice_get-map}
use Rattle.std.proofs.lemmas.Slice.Eq.{bytes_eq-Decides}
use Rattle.xc_base.specs.declared.reason.Reason.{Reason}
use Rattle.xds_config.specs.declared.config.ClusterEntry.{ClusterEntry}
use Rattle.xds_config.specs.declared.config.Config.{Config}
use Rattle.xds_config.specs.Configs.{cluster_place}
use Rattle.tree_steps.specs.declared.tree_view.TreeView.{TreeView}
use Rattle.cluster_tree.specs.declared.snapshot.Snapshot.{Snapshot}
use Rattle.call_journal.specs.declared.reply.CallerReply.{CallerReply}
use Rattle.book_trees.specs.config_assembly.Orders.{Name}
use Rattle.book_trees.specs.xds_history.declared.page.Page.{Page}
use Rattle.book_trees.specs.xds_history.declared.page.ClusterTrees.{ClusterTrees}
use Rattle.book_trees.specs.xds_history.Page.{config_now, trees_now}
use Rattle.book_trees.specs.xds_history.Trees.{Present}
use Rattle.book_trees.specs.xds_history.Pickers.{cluster_view, views}
use Rattle.book_trees.specs.xds_history.Right.{standing, shown}
use Rattle.book_trees.specs.xds_history.Picks.{held_reply, place_in, view_in, view_reply}
use Rattle.book_picks.specs.declared.cluster_rows.Row.{Row}
use Rattle.book_picks.specs.declared.kept_turns.Turns.{Turns}
use Rattle.book_picks.specs.CountedPlaces.{IsRaised, index_of}
use Rattle.book_picks.specs.ClusterRows.{AreIndexesOf}
use Rattle.book_picks.specs.ChosenPlaces.{key_of, served}
use Rattle.book_picks.specs.TakenTurns.{IsOfChild, IsShownAt, TakesTurn, TurnsFor, index_taken, place_taken}
use Rattle.book_trees.specs.TreesKept.{clusters_of}
use Rattle.book_picks.specs.TurnsKept.{AreRowsOf, AreTurnsAt}
use Rattle.book_picks.specs.NamedPlaces.{ArePlacesOf, place_named}
use Rattle.book_picks.proofs.ServedLemmas.{seen_places, index_at, counted_at}

-- ---- what is shown

pub record IsConfigOf (present : Present) (trees : List ClusterTrees) (config : Option Config) (x : Snapshot) : Type 0 where
  pub config_is : config ≡ Some x.config
  pub views_are : x.trees ≡ views present.state trees x.config

pub config_of : (present : Present) (trees : List ClusterTrees) (config : Option Config) (x : Snapshot) → standing present config trees ≡ Some (shown x) → IsConfigOf present trees config x
config_of present trees None x is = absurd (cc is)
config_of present trees (Some config) x is =
    let both : (config, views present.state trees config) ≡ shown x = cc in
    let first : config ≡ x.config = ap (λ q. q.0) both in record {
      config_is = ap (λ c. Some c) first;
      views_are = sym (ap (λ q. q.1) both) ∙ ap (λ c. views present.state trees c) first;
    }

-- ---- the cluster of a name

record IsNamedAt (clusters : List ClusterEntry) (name : Name) (place : ℕ) : Type 0 where
  entry : ClusterEntry
  entry_is : slice_get clusters place ≡ Some entry
  name_is : entry.name ≡ name

named_at : (clusters : List ClusterEntry) (name : Name) (place : ℕ) → position (λ c. bytes_eq c.name name) clusters ≡ Some place → IsNamedAt clusters name place
named_at [] name place is = absurd (cc is)
named_at (c ∷ cs) name place is =
    let at = position-Some (λ (d : ClusterEntry). bytes_eq d.name name) (c ∷ cs) place c is in
    let entry : ClusterEntry = get_or (c ∷ cs) place c in record {
      entry = entry;
      entry_is = slice_get-get_or (c ∷ cs) place c at.0;
      name_is = (bytes_eq-Decides entry.name name).0 at.1;
    }

-- a name is found at a place, which has this row
pub record IsFound (t : Turns) (name : Name) (place : ℕ) (row : Row) : Type 0 where
  pub place_is : place_named t.places.entries name ≡ Some place
  pub row_is : slice_get t.rows.items place ≡ Some row

-- a cluster that is found stands in the configuration, at that place
pub record IsRowAt (clusters : List ClusterEntry) (trees : List ClusterTrees) (t : Turns) (name : Name) (at : ℕ) (row : Row) : Type 0 where
  pub entry : ClusterEntry
  pub place_is : position (λ c. bytes_eq c.name name) clusters ≡ Some at
  pub entry_is : slice_get clusters at ≡ Some entry
  pub name_is : entry.name ≡ name
  pub indexes_are : AreIndexesOf t.counts row.indexes (map key_of (served trees entry))

one_row : (found : Option Row) (a b : Row) → found ≡ Some a → found ≡ Some b → a ≡ b
one_row found a b is also = cc

one_place : (found : Option ℕ) (a b : ℕ) → found ≡ Some a → found ≡ Some b → a ≡ b
one_place found a b is also = cc

-- the cluster of the place at which a name is found
found_at : (clusters : List ClusterEntry) (t : Turns) (name : Name) (at : ℕ) (place : Option ℕ) → position (λ c. bytes_eq c.name name) clusters ≡ place → ArePlacesOf clusters t.places.entries → place_named t.places.entries name ≡ Some at →
    (position (λ c. bytes_eq c.name name) clusters ≡ Some at) × IsNamedAt clusters name at
found_at clusters t name at None is places found = let none = places.others name is in absurd (cc)
found_at clusters t name at (Some place) is places found =
    let named = named_at clusters name place is in
    let same : place ≡ at = one_place (place_named t.places.entries name) place at (ap (place_named t.places.entries) (sym named.name_is) ∙ places.each place named.entry named.entry_is) found in
    (is ∙ ap (λ p. Some p) same, subst (IsNamedAt clusters name) same named)

pub row_at : (clusters : List ClusterEntry) (trees : List ClusterTrees) (t : Turns) (name : Name) (at : ℕ) (row : Row) → AreRowsOf clusters trees t → IsFound t name at row → IsRowAt clusters trees t name at row
row_at clusters trees t name at row rows found =
    let (place_is, named) = found_at clusters t name at (position (λ c. bytes_eq c.name name) clusters) refl rows.places found.place_is in
    let has = rows.each at named.entry named.entry_is in
    let same : has.row ≡ row = one_row (slice_get t.rows.items at) has.row row has.found found.row_is in record {
      entry = named.entry;
      place_is = place_is;
      entry_is = named.entry_is;
      name_is = named.name_is;
      indexes_are = ap (λ r. map (λ i. Some i) r.indexes) (sym same) ∙ has.indexes_are;
    }

-- each place at which a name is found has a row
has_row : (clusters : List ClusterEntry) (trees : List ClusterTrees) (t : Turns) (name : Name) (at : ℕ) → AreRowsOf clusters trees t → place_named t.places.entries name ≡ Some at → slice_get t.rows.items at ≡ None → ⊥
has_row clusters trees t name at rows found none =
    let (place_is, named) = found_at clusters t name at (position (λ c. bytes_eq c.name name) clusters) refl rows.places found in
    let has = rows.each at named.entry named.entry_is in
    let there = has.found in cc

-- one that isn't found doesn't
no_place : (clusters : List ClusterEntry) (trees : List ClusterTrees) (t : Turns) (name : Name) (place : Option ℕ) → position (λ c. bytes_eq c.name name) clusters ≡ place →
    AreRowsOf clusters trees t → place_named t.places.entries name ≡ None → place ≡ None
no_place clusters trees t name None is rows none = refl
no_place clusters trees t name (Some place) is rows none =
    let named = named_at clusters name place is in
    let found : place_named t.places.entries name ≡ Some place = ap (place_named t.places.entries) (sym named.name_is) ∙ rows.places.each place named.entry named.entry_is in absurd (cc)

-- ---- a pick of a cluster that is held

rows_of : (ps : List Page) (t : Turns) (x : Snapshot) (shows : IsShownAt ps x) → AreTurnsAt ps t → AreRowsOf x.config.clusters (trees_now ps) t
rows_of ps t x shows are =
    let config = config_of shows.present (trees_now ps) (config_now ps) x shows.shows in
    subst (λ c. AreRowsOf (clusters_of c) (trees_now ps) t) config.config_is are.rows

replied : (ps : List Page) (word : ℕ) (name : Name) (x : Snapshot) (view : Option (Result TreeView Reason)) → view_in x name ≡ view →
    held_reply ps word (Some name) (Some x) ≡ option_map_or (view_reply ps name x.number word) view CallerReply.NotHeld
replied ps word name x view is = ap (λ v. option_map_or (view_reply ps name x.number word) v CallerReply.NotHeld) is

pub none_held : (ps : List Page) (t : Turns) (word : ℕ) (name : Name) (x : Snapshot) → AreTurnsAt ps t → IsShownAt ps x → place_named t.places.entries name ≡ None →
    CallerReply.NotHeld ≡ held_reply ps word (Some name) (Some x)
none_held ps t word name x are shows none =
    let at : cluster_place x.config name ≡ None = no_place x.config.clusters (trees_now ps) t name (cluster_place x.config name) refl (rows_of ps t x shows are) none in
    sym (replied ps word name x None (ap (λ p. option_and_then (slice_get x.trees) p) at))

pub rowless : (ps : List Page) (t : Turns) (name : Name) (x : Snapshot) (at : ℕ) → AreTurnsAt ps t → IsShownAt ps x → place_named t.places.entries name ≡ Some at → slice_get t.rows.items at ≡ None → ⊥
rowless ps t name x at are shows found none = has_row x.config.clusters (trees_now ps) t name at (rows_of ps t x shows are) found none

pub seen_held : (ps : List Page) (t : Turns) (word : ℕ) (name : Name) (x : Snapshot) (place : ℕ) (row : Row) (view : Option (Result TreeView Reason)) → AreTurnsAt ps t → IsShownAt ps x → IsFound t name place row → slice_get x.trees place ≡ view →
    option_map_or (view_reply ps name x.number word) view CallerReply.NotHeld ≡ held_reply ps word (Some name) (Some x)
seen_held ps t word name x place row view are shows found is =
    let at = row_at x.config.clusters (trees_now ps) t name place row (rows_of ps t x shows are) found in
    sym (replied ps word name x view (ap (λ p. option_and_then (slice_get x.trees) p) at.place_is ∙ is))

-- the places that the row's indexes are of
row_places : (ps : List Page) (t : Turns) (name : Name) (x : Snapshot) (home : ℕ) (row : Row) (view : TreeView) (place : ℕ) → AreTurnsAt ps t → IsShownAt ps x → IsFound t name home row → slice_get x.trees home ≡ Some (Ok view) →
    option_map (λ i. Some i) (slice_get row.indexes place) ≡ option_map (λ p. index_of t.counts (key_of p)) (place_in (trees_now ps) name view.chosen place)
row_places ps t name x home row view place are shows found is =
    let config = config_of shows.present (trees_now ps) (config_now ps) x shows.shows in
    let at = row_at x.config.clusters (trees_now ps) t name home row (rows_of ps t x shows are) found in
    let seen : Some (cluster_view shows.present.state (trees_now ps) at.entry) ≡ Some (Ok view) =
    sym (ap (λ vs. slice_get vs home) config.views_are
    ∙ slice_get-map (cluster_view shows.present.state (trees_now ps)) x.config.clusters home
    ∙ ap (option_map (cluster_view shows.present.state (trees_now ps))) at.entry_is) ∙ is in
    let view_is : cluster_view shows.present.state (trees_now ps) at.entry ≡ Ok view = cc in
    index_at t.counts row.indexes (served (trees_now ps) at.entry) place at.indexes_are
    ∙ ap (option_map (λ p. index_of t.counts (key_of p))) (seen_places shows.present.state (trees_now ps) at.entry view place view_is ∙ ap (λ n. place_in (trees_now ps) n view.chosen place) at.name_is)

pub turns_for : (ps : List Page) (t : Turns) (name : Name) (x : Snapshot) (home : ℕ) (row : Row) (view : TreeView) → AreTurnsAt ps t → IsShownAt ps x → IsFound t name home row → slice_get x.trees home ≡ Some (Ok view) → TurnsFor ps name view.chosen row t.counts
turns_for ps t name x home row view are shows found is place =
    counted_at ps t.counts (slice_get row.indexes place) (place_in (trees_now ps) name view.chosen place) are.counted (row_places ps t name x home row view place are shows found is)

index_is : (ps : List Page) (t : Turns) (name : Name) (x : Snapshot) (home : ℕ) (row : Row) (view : TreeView) (reply : CallerReply) → AreTurnsAt ps t → IsShownAt ps x → IsFound t name home row → slice_get x.trees home ≡ Some (Ok view) → IsOfChild view.chosen reply →
    option_map (λ i. Some i) (index_taken row reply) ≡ option_map (λ p. index_of t.counts (key_of p)) (place_taken ps name reply)
index_is ps t name x home row view (CallerReply.Endpoint number child locality place) are shows found is of =
    row_places ps t name x home row view locality are shows found is
    ∙ ap (λ c. option_map (λ p. index_of t.counts (key_of p)) (place_in (trees_now ps) name c locality)) (sym of)
index_is ps t name x home row view (CallerReply.Pinned number) are shows found is of = refl
index_is ps t name x home row view CallerReply.NoSnapshot are shows found is of = refl
index_is ps t name x home row view (CallerReply.Routed number answer) are shows found is of = refl
index_is ps t name x home row view (CallerReply.Queue number) are shows found is of = refl
index_is ps t name x home row view (CallerReply.Fail number reason) are shows found is of = refl
index_is ps t name x home row view (CallerReply.Drop number rule) are shows found is of = refl
index_is ps t name x home row view CallerReply.NotHeld are shows found is of = refl
index_is ps t name x home row view CallerReply.Released are shows found is of = refl

pub takes_turn : (ps : List Page) (t new : Turns) (name : Name) (x : Snapshot) (home : ℕ) (row : Row) (view : TreeView) (reply : CallerReply) → AreTurnsAt ps t → IsShownAt ps x → IsFound t name home row → slice_get x.trees home ≡ Some (Ok view) → IsOfChild view.chosen reply →
    new.places ≡ t.places → new.rows ≡ t.rows → IsRaised t.counts new.counts (index_taken row reply) → TakesTurn ps name reply t new
takes_turn ps t new name x home row view reply are shows found is of places rows raised = record {
  places = places;
  rows = rows;
  index = index_taken row reply;
  raised = raised;
  index_is = index_is ps t name x home row view reply are shows found is of;
}
