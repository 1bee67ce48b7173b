-- Places where endpoints take turns, and the counts that are kept of them.
use Rattle.std.specs.Prelude.{◌≡◌, ℕ, ◌+◌, ◌-◌, ◌<◌, ◌^◌, min, List, Bool, length, get_or, set, Option, Some, None}
use Rattle.std.specs.declared.cmp.Ordering.{Ordering}
use Rattle.std.specs.Option.{option_map_or}
use Rattle.std.specs.Ordering.{nat_cmp, is_eq, on, then_cmp}
use Rattle.std.specs.Cmp.Lexicographic.{slice_cmp}
use Rattle.std.specs.Map.{lookup}
use Rattle.book_picks.specs.declared.place_counts.PlaceKey.{PlaceKey}
use Rattle.book_picks.specs.declared.place_counts.PlaceCounts.{PlaceCounts}

abbrev text_cmp : List ℕ → List ℕ → Ordering
text_cmp = slice_cmp nat_cmp

-- by the cluster's name, the leaf's, the priority, and the parts of the locality's name
abbrev pub place_cmp : PlaceKey → PlaceKey → Ordering
place_cmp = then_cmp (on (λ p. p.cluster) text_cmp) (then_cmp (on (λ p. p.leaf) text_cmp) (then_cmp (on (λ p. p.priority) nat_cmp)
    (then_cmp (on (λ p. p.region) text_cmp) (then_cmp (on (λ p. p.zone) text_cmp) (on (λ p. p.sub_zone) text_cmp)))))

abbrev pub is_place : PlaceKey → PlaceKey → Bool
is_place place other = is_eq (place_cmp place other)

-- the index of the place, where it has one
abbrev pub index_of : PlaceCounts → PlaceKey → Option ℕ
index_of counts place = lookup (is_place place) counts.places.entries

-- the count of an index, and of a place
abbrev pub count_at : PlaceCounts → Option ℕ → ℕ
count_at counts index = option_map_or (λ i. get_or counts.counts.items i 0) index 0

abbrev pub count_of : PlaceCounts → PlaceKey → ℕ
count_of counts place = count_at counts (index_of counts place)

-- an index is one of the counts', and no two places share it
pub record AreNumbered (counts : PlaceCounts) : Type 0 where
  pub within : (place : PlaceKey) (i : ℕ) → index_of counts place ≡ Some i → i < length counts.counts.items
  pub apart : (place other : PlaceKey) (i : ℕ) → index_of counts place ≡ Some i → index_of counts other ≡ Some i → place ≡ other

-- each place keeps its index
abbrev pub KeepsIndexes : PlaceCounts → PlaceCounts → Type 0
KeepsIndexes old new = (place : PlaceKey) (i : ℕ) → index_of old place ≡ Some i → index_of new place ≡ Some i

-- each place keeps its index and its count, and a new one has no picks yet
pub record Extends (old new : PlaceCounts) : Type 0 where
  pub indexes : KeepsIndexes old new
  pub counts : (place : PlaceKey) → count_of new place ≡ count_of old place
  pub numbered : AreNumbered old → AreNumbered new

-- the counts with one pick more at an index; a count stops at the greatest number of 64 bits
abbrev pub raised : List ℕ → Option ℕ → List ℕ
raised counts None = counts
raised counts (Some i) = set counts i (min (get_or counts i 0 + 1) (2 ^ 64 - 1))

pub record IsRaised (old new : PlaceCounts) (index : Option ℕ) : Type 0 where
  pub places : new.places ≡ old.places
  pub counts : new.counts.items ≡ raised old.counts.items index
