-- The localities of a cluster as places, and where their counts stand.
use Rattle.std.specs.Prelude.{◌≡◌, ℕ, List, [], map, Option, Some, None}
use Rattle.xds_config.specs.declared.endpoint_values.Locality.{Locality}
use Rattle.xds_config.specs.declared.endpoint_values.LocalityId.{LocalityId}
use Rattle.tree_steps.specs.declared.tree_view.NamedChild.{NamedChild}
use Rattle.book_picks.specs.declared.place_counts.PlaceKey.{PlaceKey}
use Rattle.book_picks.specs.declared.place_counts.PlaceCounts.{PlaceCounts}
use Rattle.book_picks.specs.CountedPlaces.{index_of}

abbrev pub key_in : List ℕ → NamedChild → LocalityId → PlaceKey
key_in cluster child id = record {
  cluster = cluster;
  leaf = child.leaf;
  priority = child.priority;
  region = id.region;
  zone = id.zone;
  sub_zone = id.sub_zone;
}

-- these localities in a child of a cluster
abbrev pub keys_in : List ℕ → NamedChild → List Locality → List PlaceKey
keys_in cluster child localities = map (λ l. key_in cluster child l.id) localities

abbrev pub keys_of : List ℕ → Option NamedChild → List Locality → List PlaceKey
keys_of cluster None localities = []
keys_of cluster (Some child) localities = keys_in cluster child localities

-- each of these places has its index, in their order
abbrev pub AreIndexesOf : PlaceCounts → List ℕ → List PlaceKey → Type 0
AreIndexesOf counts indexes keys = map (λ i. Some i) indexes ≡ map (index_of counts) keys
