-- The places of clusters of which a leaf has its endpoints from a key that changed, in rising order.
use Rattle.std.specs.Prelude.{◌≡◌, ◌<◌, ◌≤◌, ◌+◌, ℕ, List, [], length, get_or}
use Rattle.std.specs.List.{list_any}
use Rattle.place_marks.specs.Marks.{AreRising}
use Rattle.dep_manager.specs.EndpointNews.{Told, is_told}
use Rattle.dep_manager.specs.LeafPlaces.{Sources, has_place}

-- these are the places of such clusters, where the leaves of the first cluster at a place and of those behind it have these keys
pub record AreToldFrom (told : Told) (places : List ℕ) (first : ℕ) (sources : Sources) : Type 0 where
  pub rising : AreRising places
  pub least : (k d : ℕ) → k < length places → first ≤ get_or places k d
  pub each : (i : ℕ) → i < length sources → has_place places (first + i) ≡ list_any (is_told told) (get_or sources i [])

-- so many places in front stand before an end, and the next one doesn't
pub record IsCountBefore (places : List ℕ) (end count : ℕ) : Type 0 where
  pub within : count ≤ length places
  pub before : (k d : ℕ) → k < count → get_or places k d < end
  pub stops : (d : ℕ) → count < length places → end ≤ get_or places count d
