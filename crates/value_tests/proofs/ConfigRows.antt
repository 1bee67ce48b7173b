-- Configurations and values, computed by the definitions.
use Rattle.std.specs.Prelude.{◌≡◌, refl, ℕ, List, [], ◌∷◌, map, true, false, codes, Some, None, Err}
use Rattle.xc_base.specs.declared.reason.Reason.{Reason}
use Rattle.xds_config.specs.declared.config.Config.{Config}
use Rattle.xds_config.specs.declared.config.Front.{Front}
use Rattle.xds_config.specs.declared.config.ClusterEntry.{ClusterEntry}
use Rattle.xds_config.specs.declared.endpoint_values.Locality.{Locality}
use Rattle.xds_config.specs.declared.route_values.PathTest.{PathTest}
use Rattle.xds_config.specs.declared.route_values.Action.{Action}
use Rattle.xds_config.specs.declared.route_values.Host.{Host}
use Rattle.xds_config.specs.declared.route_values.Route.{Route}
use Rattle.xds_config.specs.Configs.{cluster_place, front_clusters}
use Rattle.xds_config.specs.Endpoints.{priority_weights}
use Rattle.xds_config.specs.RouteValues.{is_domain}

abbrev cluster : List ℕ → ClusterEntry
cluster name = record { name = name; state = Err Reason.Absent }

abbrev config : Config
config = record { front = Err Reason.Absent; clusters = cluster (codes "a") ∷ cluster (codes "ab") ∷ cluster (codes "b") ∷ [] }

-- a name is compared whole
places : map (cluster_place config) (codes "a" ∷ codes "ab" ∷ codes "b" ∷ codes "abc" ∷ codes "" ∷ []) ≡ Some 0 ∷ Some 1 ∷ Some 2 ∷ None ∷ None ∷ []
places = refl

-- a wildcard stands once, first or last, and no domain is empty
domains : map is_domain (codes "foo.com" ∷ codes "*" ∷ codes "*.foo.com" ∷ codes "foo.*" ∷ codes "" ∷ codes "f*o" ∷ codes "*foo*" ∷ codes "**" ∷ [])
    ≡ true ∷ true ∷ true ∷ true ∷ false ∷ false ∷ false ∷ false ∷ []
domains = refl

abbrev locality : List ℕ → ℕ → ℕ → Locality
locality zone priority weight = record { id = record { region = []; zone = zone; sub_zone = [] }; priority = priority; weight = weight; addresses = [] }

-- the weights of each priority alone
weights : map (λ p. priority_weights p (locality (codes "a") 0 3 ∷ locality (codes "b") 0 1 ∷ locality (codes "a") 1 7 ∷ [])) (0 ∷ 1 ∷ 2 ∷ []) ≡ (3 ∷ 1 ∷ []) ∷ (7 ∷ []) ∷ [] ∷ []
weights = refl

abbrev route : ℕ → Action → Route
route place action = record { place = place; path = PathTest.Prefix (codes "/") true; headers = []; fraction = None; action = action }

abbrev host : List Route → Host
host routes = record { name = codes "h"; domains = codes "*" ∷ []; routes = routes }

abbrev front : ℕ → Front
front place = record {
  listener = codes "svc";
  routes = record { name = codes "r"; hosts = host [] ∷ host (route 0 (Action.To (record { cluster = codes "a"; weight = 0 } ∷ record { cluster = codes "b"; weight = 1 } ∷ [])) ∷ route 1 Action.Nothing ∷ route 2 (Action.To (record { cluster = codes "a"; weight = 1 } ∷ [])) ∷ []) ∷ [] };
  host = place;
}

-- a cluster of weight 0 is named too, and only the front's own host counts
named : map (λ place. front_clusters (front place)) (0 ∷ 1 ∷ 2 ∷ []) ≡ [] ∷ (codes "a" ∷ codes "b" ∷ codes "a" ∷ []) ∷ [] ∷ []
named = refl
