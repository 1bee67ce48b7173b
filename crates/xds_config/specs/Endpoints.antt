-- What holds of endpoints that passed their checks (gRFC A27, A56, Envoy's ClusterLoadAssignment).
use Rattle.std.specs.Prelude.{◌≡◌, ◌≢◌, ◌==◌, ◌<◌, ◌≤◌, ◌+◌, ◌^◌, ℕ, List, [], length, map, filter, sum, All, AllPairs, Contains}
use Rattle.xds_config.specs.declared.endpoint_values.EndpointValue.{EndpointValue}
use Rattle.xds_config.specs.declared.endpoint_values.Locality.{Locality}

pub record IsLawfulLocality (locality : Locality) : Type 0 where
  pub weighed : 0 < locality.weight
  pub few : length locality.addresses < 2 ^ 31

-- the weights of the localities of a priority
abbrev pub priority_weights : ℕ → List Locality → List ℕ
priority_weights priority localities = map (λ l. l.weight) (filter (λ l. l.priority == priority) localities)

abbrev pub priorities_of : List Locality → List ℕ
priorities_of localities = map (λ l. l.priority) localities

-- Localities stand in ascending priority, each once in a priority; the weights of a priority sum to at most
-- 4,294,967,295; and below each priority that is there the one before it is there too.
pub record AreLocalities (localities : List Locality) : Type 0 where
  pub each : All IsLawfulLocality localities
  pub ascending : AllPairs (λ a b. a.priority ≤ b.priority) localities
  pub once : AllPairs (λ a b. a.priority ≡ b.priority → a.id ≢ b.id) localities
  pub weights : (p : ℕ) → sum (priority_weights p localities) < 2 ^ 32
  pub gapless : (p : ℕ) → Contains (priorities_of localities) (p + 1) → Contains (priorities_of localities) p
  pub few : length localities < 2 ^ 31

pub record IsLawfulEndpoints (value : EndpointValue) : Type 0 where
  pub named : value.name ≢ []
  pub localities : AreLocalities value.localities
  pub few_drops : length value.drops < 2 ^ 31
