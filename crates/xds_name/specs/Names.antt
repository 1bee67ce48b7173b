-- Resource names (gRFC A47, xRFC TP1): `xdstp:` names with their canonical texts, and where a name lives.
use Rattle.std.specs.Prelude.{◌≡◌, ℕ, ◌==◌, ◌&&◌, ◌||◌, List, [], ◌∷◌, ◌++◌, slice_index, Bool, false, not, IsTrue, if◌then◌else◌, codes, Option, Some, None, is_some, option_and_then}
use Rattle.std.specs.Char.{is_digit}
use Rattle.std.specs.List.{starts_with, before_first, join_with_byte}
use Rattle.std.specs.Str.{bytes_eq}
use Rattle.xc_base.specs.declared.names.Authority.{Authority}
use Rattle.xc_base.specs.declared.names.Kind.{Kind}
use Rattle.xc_base.specs.declared.names.Kind.TheVariants.{Listener, Route, Cluster, Endpoint}
use Rattle.xc_base.specs.declared.names.NameFault.TheVariants.{BadEscape, WrongType, UnknownAuthority}
use Rattle.xc_base.specs.declared.names.Home.{Home}
use Rattle.xc_base.specs.declared.names.Home.TheVariants.{At, Nowhere}
use Rattle.xc_base.specs.declared.names.Key.{Key}
use Rattle.xds_bootstrap.specs.Authorities.{authority_of}
use Rattle.xds_bootstrap.specs.declared.bootstrap.AuthorityEntry.{AuthorityEntry}
use Rattle.xds_name.specs.NameTexts.{lacks, cut_at, parts_at, after}
use Rattle.xds_name.specs.Parameters.{in_order}

-- ---- the form `xdstp://authority/type/id`, with an optional `?` and parameters

-- a name's authority and the type of its resource
pub record Parts : Type 0 where
  pub authority : List ℕ
  pub resource : List ℕ

-- what stands before the parameters
abbrev pub head_of : List ℕ → List ℕ
head_of text = before_first (λ b. b == 63) text

-- the name has the form, with these parts: each of the three may be empty, and the id may have slashes
pub record HasForm (text : List ℕ) (parts : Parts) : Type 0 where
  pub id : List ℕ
  pub head : head_of text ≡ codes "xdstp://" ++ (parts.authority ++ 47 ∷ (parts.resource ++ 47 ∷ id))
  pub authority : IsTrue (lacks 47 parts.authority)
  pub resource : IsTrue (lacks 47 parts.resource)

-- the type ends at a slash, too
abbrev pub with_resource : List ℕ → Option (List ℕ × List ℕ) → Option Parts
with_resource authority None = None
with_resource authority (Some p) = Some record { authority = authority; resource = p.0 }

abbrev pub with_authority : Option (List ℕ × List ℕ) → Option Parts
with_authority None = None
with_authority (Some p) = with_resource p.0 (cut_at 47 p.1)

-- of what stands after `xdstp://`
abbrev pub parts_from : List ℕ → Option Parts
parts_from path = with_authority (cut_at 47 path)

-- the parts that a name has
unfoldable pub parts_of : List ℕ → Option Parts
parts_of text = option_and_then parts_from (after (codes "xdstp://") (head_of text))

-- ---- the canonical text

abbrev pub with_sorted : List ℕ → Option (List ℕ × List ℕ) → List ℕ
with_sorted text None = text
with_sorted text (Some p) = p.0 ++ 63 ∷ join_with_byte 38 (in_order (parts_at 38 p.1))

-- the name with its parameters in order; one that hasn't the form stays as it is
unfoldable pub canonical_of : List ℕ → List ℕ
canonical_of text = if is_some (parts_of text) then with_sorted text (cut_at 63 text) else text

-- ---- the home

-- the type of each kind's resources, as in their type URL
abbrev pub type_name : Kind → List ℕ
type_name Listener = codes "envoy.config.listener.v3.Listener"
type_name Route = codes "envoy.config.route.v3.RouteConfiguration"
type_name Cluster = codes "envoy.config.cluster.v3.Cluster"
type_name Endpoint = codes "envoy.config.endpoint.v3.ClusterLoadAssignment"

abbrev pub begins_with_digits : List ℕ → Bool
begins_with_digits text = is_digit (slice_index text 0) 16 && is_digit (slice_index text 1) 16

-- there is a `%` without two hexadecimal digits after it
unfoldable pub has_bad_escape : List ℕ → Bool
has_bad_escape [] = false
has_bad_escape (b ∷ bs) = ((b == 37) && not (begins_with_digits bs)) || has_bad_escape bs

-- an `xdstp:` name, which need not have the form
abbrev pub is_xdstp : List ℕ → Bool
is_xdstp text = starts_with ◌==◌ text (codes "xdstp:")

abbrev pub default : Authority
default = record { 0 = 0 }

abbrev pub home_in : Option Authority → Home
home_in None = Nowhere UnknownAuthority
home_in (Some authority) = At authority

abbrev pub home_of_parts : List AuthorityEntry → Kind → Option Parts → Home
home_of_parts entries kind None = Nowhere WrongType
home_of_parts entries kind (Some parts) =
    if bytes_eq parts.resource (type_name kind) then home_in (authority_of entries parts.authority) else Nowhere WrongType

-- where a name of a kind lives: at the default authority, or, if it is an `xdstp:` name, at its own one, or nowhere with the first fault
unfoldable pub home_of : List AuthorityEntry → Kind → List ℕ → Home
home_of entries kind text =
    if is_xdstp text then (if has_bad_escape text then Nowhere BadEscape else home_of_parts entries kind (parts_of text))
    else At default

-- the key of a name of a kind
abbrev pub resource_key : List AuthorityEntry → Kind → List ℕ → Key
resource_key entries kind text = record { kind = kind; name = canonical_of text; home = home_of entries kind text }
