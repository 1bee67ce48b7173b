-- The orders of lists that are searched by halves (this project's own).
use Rattle.std.specs.Prelude.{◌≡◌, ◌<◌, ◌≤◌, ◌^◌, ℕ, List, length, get_or, AllPairs}
use Rattle.std.specs.Ordering.{nat_cmp}
use Rattle.std.specs.Cmp.Lexicographic.{slice_cmp}
use Rattle.std.specs.declared.cmp.Ordering.TheVariants.{Less}
use Rattle.xds_config.specs.declared.route_values.Route.{Route}
use Rattle.xds_config.specs.declared.config.ClusterEntry.{ClusterEntry}

-- routes stand by rising place
abbrev pub AreByPlace : List Route → Type 0
AreByPlace routes = AllPairs (λ a b. a.place < b.place) routes

-- a name stands before another by its bytes
abbrev pub IsNameBefore : List ℕ → List ℕ → Type 0
IsNameBefore a b = slice_cmp nat_cmp a b ≡ Less

-- clusters stand in strictly rising order of their names
pub record AreByName (clusters : List ClusterEntry) : Type 0 where
  pub rising : AllPairs (λ a b. IsNameBefore a.name b.name) clusters
  pub few : length clusters < 2 ^ 31

-- the clusters in front of a place stand before a name, and those from it on don't
pub record IsPlaceFor (clusters : List ClusterEntry) (name : List ℕ) (place : ℕ) : Type 0 where
  pub within : place ≤ length clusters
  pub before : (k : ℕ) (d : ClusterEntry) → k < place → IsNameBefore (get_or clusters k d).name name
  pub behind : (k : ℕ) (d : ClusterEntry) → place ≤ k → k < length clusters → IsNameBefore (get_or clusters k d).name name → ⊥
