-- The order of keys: by kind, then by the bytes of the name, then by the home.
use Rattle.std.specs.Prelude.{ℕ, Bool}
use Rattle.std.specs.declared.cmp.Ordering.{Ordering}
use Rattle.std.specs.declared.cmp.Ordering.TheVariants.{Less, Greater}
use Rattle.std.specs.Ordering.{nat_cmp, is_eq, on, then_cmp}
use Rattle.std.specs.Cmp.Lexicographic.{slice_cmp}
use Rattle.xc_base.specs.declared.names.Kind.{Kind}
use Rattle.xc_base.specs.declared.names.Kind.TheVariants.{Listener, Route, Cluster, Endpoint}
use Rattle.xc_base.specs.declared.names.NameFault.{NameFault}
use Rattle.xc_base.specs.declared.names.NameFault.TheVariants.{BadEscape, WrongType, UnknownAuthority}
use Rattle.xc_base.specs.declared.names.Home.{Home}
use Rattle.xc_base.specs.declared.names.Home.TheVariants.{At, Nowhere}
use Rattle.xc_base.specs.declared.names.Key.{Key}

-- the kinds in the order in which a stream asks for them
abbrev pub kind_place : Kind → ℕ
kind_place Listener = 0
kind_place Route = 1
kind_place Cluster = 2
kind_place Endpoint = 3

abbrev pub fault_place : NameFault → ℕ
fault_place BadEscape = 0
fault_place WrongType = 1
fault_place UnknownAuthority = 2

-- what has a home stands before what has none, by the place of the authority
abbrev pub home_cmp : Home → Home → Ordering
home_cmp (At authority) (At other) = nat_cmp authority.0 other.0
home_cmp (At authority) (Nowhere fault) = Less
home_cmp (Nowhere fault) (At authority) = Greater
home_cmp (Nowhere fault) (Nowhere other) = nat_cmp (fault_place fault) (fault_place other)

abbrev pub key_cmp : Key → Key → Ordering
key_cmp = then_cmp (on (λ key. kind_place key.kind) nat_cmp) (then_cmp (on (λ key. key.name) (slice_cmp nat_cmp)) (on (λ key. key.home) home_cmp))

abbrev pub is_key : Key → Key → Bool
is_key key other = is_eq (key_cmp key other)
