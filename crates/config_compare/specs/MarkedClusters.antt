-- Clusters of two configurations, place by place, where some places are marked.
use Rattle.std.specs.Prelude.{◌≡◌, ℕ, Bool, true, false, get_or, slice_get, List, Some, option_map}
use Rattle.xds_config.specs.declared.config.ClusterEntry.{ClusterEntry}

-- entries without a mark are the same
abbrev pub AreSameBut : List Bool → List ClusterEntry → List ClusterEntry → Type 0
AreSameBut marks entries others = (place : ℕ) (entry : ClusterEntry) → slice_get others place ≡ Some entry → get_or marks place false ≡ false → slice_get entries place ≡ Some entry

-- those with a mark are
abbrev pub AgreeAt : List Bool → List ClusterEntry → List ClusterEntry → Type 0
AgreeAt marks entries others = (place : ℕ) → get_or marks place false ≡ true → slice_get entries place ≡ slice_get others place

-- clusters of the same name stand at a place, or none
abbrev pub IsNamedAlikeAt : List ClusterEntry → List ClusterEntry → ℕ → Type 0
IsNamedAlikeAt entries others place = option_map (λ e. e.name) (slice_get entries place) ≡ option_map (λ e. e.name) (slice_get others place)

-- so it is at each place with a mark
abbrev pub AreNamedAlikeAt : List Bool → List ClusterEntry → List ClusterEntry → Type 0
AreNamedAlikeAt marks entries others = (place : ℕ) → get_or marks place false ≡ true → IsNamedAlikeAt entries others place
