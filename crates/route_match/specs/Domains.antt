-- Which virtual host a text chooses by the domains of the hosts (gRFC A28, Envoy's VirtualHost.domains).
use Rattle.std.specs.Prelude.{◌≡◌, ℕ, ◌-◌, ◌<◌, ◌==◌, nat_lt, ◌&&◌, ◌||◌, List, filter, length, take, drop, get_or, slice_index, position, Bool, true, false, not, if◌then◌else◌, Option, All, Contains}
use Rattle.std.specs.List.{flat_map, list_any}
use Rattle.xds_config.specs.declared.route_values.Host.{Host}
use Rattle.header_match.specs.Texts.{is_same, begins_with, ends_with}
use Rattle.route_match.specs.declared.domains.Class.{Class}
use Rattle.route_match.specs.declared.domains.Class.TheVariants.{Exact, SuffixWildcard, PrefixWildcard, Universal}

-- what a domain is: `www.foo.com` is exact, `*.foo.com` a suffix wildcard, `foo.*` a prefix wildcard; 42 is `*`
abbrev pub class_of : List ℕ → Class
class_of domain =
    if slice_index domain 0 == 42 then (if length domain == 1 then Universal else SuffixWildcard)
    else if slice_index domain (length domain - 1) == 42 then PrefixWildcard
    else Exact

-- the classes, the preferred ones first
abbrev pub order_of : Class → ℕ
order_of Exact = 0
order_of SuffixWildcard = 1
order_of PrefixWildcard = 2
order_of Universal = 3

-- whether a text meets a domain of a class, without ASCII case; a wildcard stands for at least one character
abbrev pub class_met : Class → List ℕ → List ℕ → Bool
class_met Exact domain text = is_same true text domain
class_met SuffixWildcard domain text = nat_lt (length domain - 1) (length text) && ends_with true text (drop 1 domain)
class_met PrefixWildcard domain text = nat_lt (length domain - 1) (length text) && begins_with true text (take (length domain - 1) domain)
class_met Universal domain text = nat_lt 0 (length text)

abbrev pub domain_met : List ℕ → List ℕ → Bool
domain_met domain text = class_met (class_of domain) domain text

-- a domain is preferred to another: its class comes first, or in one class it is longer
abbrev pub is_preferred : List ℕ → List ℕ → Bool
is_preferred a b =
    nat_lt (order_of (class_of a)) (order_of (class_of b))
    || (order_of (class_of a) == order_of (class_of b) && nat_lt (length b) (length a))

-- the domains of all hosts that the text meets
abbrev pub met_domains : List Host → List ℕ → List (List ℕ)
met_domains hosts text = filter (λ d. domain_met d text) (flat_map (λ h. h.domains) hosts)

-- the text meets the domain, and none that is preferred to it
abbrev pub is_best : List Host → List ℕ → List ℕ → Bool
is_best hosts text domain = domain_met domain text && not (list_any (λ d. is_preferred d domain) (met_domains hosts text))

-- the place of the first host that has such a domain
abbrev pub host : List Host → List ℕ → Option ℕ
host hosts text = position (λ h. list_any (is_best hosts text) h.domains) hosts

-- The same said of one host: it has a domain that the text meets; none of those that the text meets is preferred
-- to that one, and that one is preferred to all of them that hosts before it have.
pub record IsChosen (hosts : List Host) (text : List ℕ) (place : ℕ) (domain : List ℕ) : Type 0 where
  pub within : place < length hosts
  pub own : (h : Host) → Contains (get_or hosts place h).domains domain
  pub met : domain_met domain text ≡ true
  pub best : All (λ h. All (λ d. domain_met d text ≡ true → is_preferred d domain ≡ false) h.domains) hosts
  pub first : All (λ h. All (λ d. domain_met d text ≡ true → is_preferred domain d ≡ true) h.domains) (take place hosts)

-- the text meets no domain of the host
abbrev pub MeetsNone : List ℕ → Host → Type 0
MeetsNone text h = All (λ d. domain_met d text ≡ false) h.domains
