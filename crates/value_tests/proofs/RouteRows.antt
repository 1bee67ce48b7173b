-- Hosts and routes, computed by the definitions.
use Rattle.std.specs.Prelude.{◌≡◌, refl, ℕ, List, [], ◌∷◌, map, true, false, codes, Option, Some, None, Ok, Err}
use Rattle.xc_base.specs.declared.call.Call.{Call}
use Rattle.xc_base.specs.declared.reason.Reason.{Reason}
use Rattle.weight_pick.specs.declared.fraction.Fraction.{Fraction}
use Rattle.header_match.specs.declared.rule.HeaderTest.{HeaderTest}
use Rattle.xds_config.specs.declared.config.Front.{Front}
use Rattle.xds_config.specs.declared.route_values.PathTest.{PathTest}
use Rattle.xds_config.specs.declared.route_values.Action.{Action}
use Rattle.xds_config.specs.declared.route_values.Host.{Host}
use Rattle.xds_config.specs.declared.route_values.Route.{Route}
use Rattle.xds_config.specs.declared.route_values.Weighted.{Weighted}
use Rattle.route_match.specs.declared.answer.RouteAnswer.{RouteAnswer}
use Rattle.route_match.specs.Domains as domains
use Rattle.route_match.specs.NamedClusters.{answer_cluster}
use Rattle.route_match.specs.Routes.{route, routed, routes_tried, tried}

-- ---- hosts

abbrev host_of : List (List ℕ) → Host
host_of names = record { name = []; domains = names; routes = [] }

-- the place of the host that a text chooses among hosts of one domain each
abbrev chosen : List (List ℕ) → List ℕ → Option ℕ
chosen names text = domains.host (map (λ name. host_of (name ∷ [])) names) text

-- an exact domain comes first, then a suffix wildcard, a prefix wildcard, and `*`; a wildcard stands for a byte at least
classes : map (chosen (codes "*" ∷ codes "*.example.com" ∷ codes "api.*" ∷ codes "api.example.com" ∷ [])) (codes "API.example.com" ∷ codes "api.x.example.com" ∷ codes "api.org" ∷ codes "api." ∷ codes ".example.com" ∷ [])
    ≡ Some 3 ∷ Some 1 ∷ Some 2 ∷ Some 0 ∷ Some 0 ∷ []
classes = refl

-- without `*` a text may choose none
no_host : map (chosen (codes "*.example.com" ∷ codes "api.*" ∷ [])) (codes "api.org" ∷ codes "api." ∷ codes ".example.com" ∷ codes "" ∷ []) ≡ Some 1 ∷ None ∷ None ∷ None ∷ []
no_host = refl

-- an exact domain is met by the whole text, without case
exact : map (chosen (codes "WWW.foo.com" ∷ [])) (codes "www.foo.com" ∷ codes "www.foo.co" ∷ codes "xwww.foo.com" ∷ []) ≡ Some 0 ∷ None ∷ None ∷ []
exact = refl

-- of one class the longest is taken wherever it stands, and the first of two that are as long
longest : map (chosen (codes "*.com" ∷ codes "*.foo.com" ∷ codes "*.FOO.com" ∷ [])) (codes "www.foo.com" ∷ codes "www.bar.com" ∷ []) ≡ Some 1 ∷ Some 0 ∷ []
longest = refl

-- a class counts more than a length, also within a host of several domains
within : domains.host (host_of (codes "foo.*" ∷ codes "*.com" ∷ []) ∷ host_of (codes "www.long.prefix.*" ∷ []) ∷ []) (codes "www.long.prefix.com") ≡ Some 0
within = refl

-- `*` is met by each text but the empty one
universal : map (chosen (codes "*" ∷ [])) (codes "x" ∷ codes "" ∷ []) ≡ Some 0 ∷ None ∷ []
universal = refl

-- ---- routes

abbrev to : List ℕ → ℕ → Weighted
to cluster weight = record { cluster = cluster; weight = weight }

abbrev one : Action
one = Action.To (to (codes "a") 1 ∷ [])

abbrev a_route : ℕ → PathTest → Option Fraction → Action → Route
a_route place path fraction action = record { place = place; path = path; headers = []; fraction = fraction; action = action }

abbrev a_call : List ℕ → ℕ → Call
a_call path word = record { id = record { 0 = 0 }; path = path; headers = []; word = word }

-- whether a route of this path test is for a call of the path `/p.S/M`
abbrev answers : PathTest → RouteAnswer
answers path = routed (a_route 0 path None one ∷ []) (a_call (codes "/p.S/M") 0)

paths : map answers (PathTest.Prefix (codes "/p") true ∷ PathTest.Prefix (codes "/P") true ∷ PathTest.Prefix (codes "/P") false ∷ PathTest.Whole (codes "/p.S/M") true ∷ PathTest.Whole (codes "/p.S/") true ∷ PathTest.Whole (codes "/P.s/m") false ∷ [])
    ≡ RouteAnswer.To 0 0 ∷ RouteAnswer.NoRoute ∷ RouteAnswer.To 0 0 ∷ RouteAnswer.To 0 0 ∷ RouteAnswer.NoRoute ∷ RouteAnswer.To 0 0 ∷ []
paths = refl

-- the first route that is for the call is taken by its place, and each up to it is one step
abbrev three : List Route
three = a_route 0 (PathTest.Prefix (codes "/q") true) None one ∷ a_route 3 (PathTest.Prefix (codes "/p") true) None Action.Nothing ∷ a_route 4 (PathTest.Prefix (codes "/") true) None one ∷ []

first : map (λ path. routed three (a_call path 0)) (codes "/q" ∷ codes "/p.S/M" ∷ codes "/x" ∷ codes "x" ∷ []) ≡ RouteAnswer.To 0 0 ∷ RouteAnswer.NoAction 3 ∷ RouteAnswer.To 4 0 ∷ RouteAnswer.NoRoute ∷ []
first = refl

steps : map (λ path. tried three (a_call path 0)) (codes "/q" ∷ codes "/p.S/M" ∷ codes "/x" ∷ codes "x" ∷ []) ≡ 1 ∷ 2 ∷ 3 ∷ 3 ∷ []
steps = refl

-- all header rules of a route hold, not one of them
abbrev two_rules : Route
two_rules = record {
  place = 0;
  path = PathTest.Prefix (codes "/") true;
  fraction = None;
  action = one;
  headers = record { name = codes "x"; test = HeaderTest.Present true; invert = false } ∷ record { name = codes "y"; test = HeaderTest.Present true; invert = false } ∷ [];
}

headers : map (λ names. routed (two_rules ∷ []) record { id = record { 0 = 0 }; path = codes "/"; headers = map (λ name. record { name = name; value = [] }) names; word = 0 })
    ((codes "x" ∷ []) ∷ (codes "y" ∷ []) ∷ (codes "y" ∷ codes "x" ∷ []) ∷ []) ≡ RouteAnswer.NoRoute ∷ RouteAnswer.NoRoute ∷ RouteAnswer.To 0 0 ∷ []
headers = refl

-- half of the calls, by the draw of number twice the place: 0 of the first route, 2 of a route of place 1
abbrev halves : ℕ → List Route
halves place = a_route place (PathTest.Prefix (codes "/") true) (Some record { n = 50; of = 100; known = refl }) one ∷ a_route 7 (PathTest.Prefix (codes "/") true) None Action.Nothing ∷ []

fractions : map (λ word. routed (halves 0) (a_call (codes "/p") word)) (9223372036854775807 ∷ 9223372036854775808 ∷ []) ≡ RouteAnswer.To 0 0 ∷ RouteAnswer.NoAction 7 ∷ []
fractions = refl

later_fractions : map (λ word. routed (halves 1) (a_call (codes "/p") word)) (4868686467622963158 ∷ 4868686471917930454 ∷ []) ≡ RouteAnswer.To 1 0 ∷ RouteAnswer.NoAction 7 ∷ []
later_fractions = refl

-- the cluster, by the draw of the next number; a cluster of weight 0 is never chosen
abbrev split : List Route
split = a_route 0 (PathTest.Prefix (codes "/") true) None (Action.To (to (codes "a") 0 ∷ to (codes "b") 1 ∷ to (codes "c") 4294967294 ∷ [])) ∷ []

clusters : map (λ word. routed split (a_call (codes "/p") word)) (7046029254386353131 ∷ 7046029258681320427 ∷ 7046029262976287723 ∷ 7046029250091385835 ∷ []) ≡ RouteAnswer.To 0 1 ∷ RouteAnswer.To 0 1 ∷ RouteAnswer.To 0 2 ∷ RouteAnswer.To 0 2 ∷ []
clusters = refl

-- ---- fronts

abbrev front : Front
front = record { listener = codes "svc"; routes = record { name = codes "r"; hosts = host_of [] ∷ record { name = []; domains = []; routes = split } ∷ [] }; host = 1 }

-- the routes of the front's own host; without a front the answer is its reason, at no step
fronts : map (λ f. route f (a_call (codes "/p") 7046029254386353131)) (Ok front ∷ Err Reason.NoHost ∷ []) ≡ RouteAnswer.To 0 1 ∷ RouteAnswer.NoFront Reason.NoHost ∷ []
fronts = refl

front_steps : map (λ f. routes_tried f (a_call (codes "/p") 0)) (Ok front ∷ Err Reason.NoHost ∷ []) ≡ 1 ∷ 0 ∷ []
front_steps = refl

-- only a `To` of a place and a choice that are there names a cluster
names : map (answer_cluster front) (RouteAnswer.To 0 2 ∷ RouteAnswer.To 0 3 ∷ RouteAnswer.To 1 0 ∷ RouteAnswer.NoAction 0 ∷ RouteAnswer.NoRoute ∷ []) ≡ Some (codes "c") ∷ None ∷ None ∷ None ∷ None ∷ []
names = refl
