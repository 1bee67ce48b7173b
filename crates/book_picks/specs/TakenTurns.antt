-- What one pick takes.
use Rattle.std.specs.Prelude.{◌≡◌, ℕ, List, Option, Some, None, option_map, slice_get}
use Rattle.cluster_tree.specs.declared.snapshot.Snapshot.{Snapshot}
use Rattle.call_journal.specs.declared.reply.CallerReply.{CallerReply}
use Rattle.book_trees.specs.config_assembly.Orders.{Name}
use Rattle.book_trees.specs.xds_history.declared.page.Page.{Page}
use Rattle.book_trees.specs.xds_history.Page.{config_now, trees_now}
use Rattle.book_trees.specs.xds_history.Trees.{Present}
use Rattle.book_trees.specs.xds_history.Right.{standing, shown}
use Rattle.book_trees.specs.xds_history.Picks.{Place, place_in, turn_at}
use Rattle.book_picks.specs.declared.place_counts.PlaceCounts.{PlaceCounts}
use Rattle.book_picks.specs.declared.cluster_rows.Row.{Row}
use Rattle.book_picks.specs.declared.kept_turns.Turns.{Turns}
use Rattle.book_picks.specs.CountedPlaces.{IsRaised, count_at, index_of}
use Rattle.book_picks.specs.ChosenPlaces.{key_of}

-- the snapshot shows what stands
pub record IsShownAt (ps : List Page) (snapshot : Snapshot) : Type 0 where
  pub present : Present
  pub shows : standing present (config_now ps) (trees_now ps) ≡ Some (shown snapshot)

-- the counts that a row has are the turns of the localities of this child
abbrev pub TurnsFor : List Page → Name → ℕ → Row → PlaceCounts → Type 0
TurnsFor ps cluster child row counts = (locality : ℕ) → count_at counts (slice_get row.indexes locality) ≡ turn_at (place_in (trees_now ps) cluster child locality) ps

-- an endpoint that is answered is in this child
abbrev pub IsOfChild : ℕ → CallerReply → Type 0
IsOfChild child (CallerReply.Endpoint number other locality place) = other ≡ child
IsOfChild child _ = Unit {0}

-- the index of the count of the locality that an endpoint was taken of
abbrev pub index_taken : Row → CallerReply → Option ℕ
index_taken row (CallerReply.Endpoint number child locality place) = slice_get row.indexes locality
index_taken row _ = None

-- the place that it was taken of
abbrev pub place_taken : List Page → Name → CallerReply → Option Place
place_taken ps cluster (CallerReply.Endpoint number child locality place) = place_in (trees_now ps) cluster child locality
place_taken ps cluster _ = None

-- the count of the place that this reply took of, and nothing else, is one more
pub record TakesTurn (ps : List Page) (cluster : Name) (reply : CallerReply) (old new : Turns) : Type 0 where
  pub places : new.places ≡ old.places
  pub rows : new.rows ≡ old.rows
  pub index : Option ℕ
  pub raised : IsRaised old.counts new.counts index
  pub index_is : option_map (λ i. Some i) index ≡ option_map (λ place. index_of old.counts (key_of place)) (place_taken ps cluster reply)
