-- Words on lists and names.
use Rattle.std.specs.Prelude.{◌==◌, List, [], ◌∷◌, Bool, false, Option, None}
use Rattle.std.specs.List.{list_any}
use Rattle.std.specs.Option.{option_or}
use Rattle.std.specs.Str.{bytes_eq}
use Rattle.xc_base.specs.declared.names.Kind.{Kind}
use Rattle.xc_base.specs.declared.names.Authority.{Authority}
use Rattle.xc_base.specs.declared.names.Home.{Home}
use Rattle.xc_keys.specs.Keys.{kind_place}
use Rattle.config_assembly.specs.Orders.{Name}

abbrev pub among : Name → List Name → Bool
among name names = list_any (bytes_eq name) names

-- what the first member gives that gives something; in a list with the newest first, what the last one gives
abbrev pub first_some : {X Y : Type 0} → (X → Option Y) → List X → Option Y
first_some f [] = None
first_some f (x ∷ xs) = option_or (f x) (first_some f xs)

abbrev pub same_kind : Kind → Kind → Bool
same_kind a b = kind_place a == kind_place b

-- the kinds in the order in which a stream asks for them
abbrev pub all_kinds : List Kind
all_kinds = Kind.Listener ∷ Kind.Route ∷ Kind.Cluster ∷ Kind.Endpoint ∷ []

abbrev pub same_authority : Authority → Authority → Bool
same_authority a b = a.0 == b.0

abbrev pub lives_at : Authority → Home → Bool
lives_at authority (Home.At other) = same_authority authority other
lives_at authority (Home.Nowhere fault) = false
