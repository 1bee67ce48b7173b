-- The pattern texts of messages that were read are UTF-8.
use Rattle.std.proofs.Common.{◌≡◌, ℕ, List, [], ◌∷◌, Bool, true, false, cond, eqb, Option, Some, None, option_map, unwrap_or, Result, Ok, Err, refl, subst}
use Rattle.std.specs.List.{cons_option, last_or}
use Rattle.std.specs.Str.{IsUtf8}
use Rattle.std.proofs.lemmas.Str.{IsUtf8-nil}
use Rattle.proto_wire.specs.Oneof.{read_member, if_set, ◌or◌}
use Rattle.proto_wire.specs.Reading.{◌>>=◌, gathered, optional}
use Rattle.proto_wire.specs.FieldValues.{as_text, bytes_at, is_text, joined, last_run, last_text, read_repeated, read_singular, text_at, texts}
use Rattle.proto_wire.specs.Wire.{WireField, fields}
use Rattle.proto_route.specs.StringMatcher.{regex_matcher_of, string_matcher_of}
use Rattle.proto_route.specs.HeaderMatcher.{header_matcher_of, header_test}
use Rattle.proto_route.specs.RouteMatch.{route_match_of}
use Rattle.proto_route.specs.RawRouteFields.{route_of, routes_of, virtual_host_of}
use Rattle.proto_route.specs.declared.string_matcher.RawRegexMatcher.{RawRegexMatcher}
use Rattle.proto_route.specs.declared.string_matcher.RawStringMatcher.{RawStringMatcher}
use Rattle.proto_route.specs.declared.string_matcher.RawStringMatcherOne.{RawStringMatcherOne}
use Rattle.proto_route.specs.declared.string_matcher.RawStringMatcherOne.TheVariants as string
use Rattle.proto_route.specs.declared.header_matcher.RawHeaderMatcher.{RawHeaderMatcher}
use Rattle.proto_route.specs.declared.header_matcher.RawHeaderMatcherOne.{RawHeaderMatcherOne}
use Rattle.proto_route.specs.declared.header_matcher.RawHeaderMatcherOne.TheVariants as header
use Rattle.proto_route.specs.declared.header_matcher.RawRange.{RawRange}
use Rattle.proto_route.specs.declared.route_match.RawRouteMatch.{RawRouteMatch}
use Rattle.proto_route.specs.declared.route_match.RawRouteMatchOne.{RawRouteMatchOne}
use Rattle.proto_route.specs.declared.route_match.RawRouteMatchOne.TheVariants as raw_test
use Rattle.proto_route.specs.declared.routes.RawRoute.{RawRoute}
use Rattle.proto_route.specs.declared.routes.RawVirtualHost.{RawVirtualHost}
use Rattle.proto_route.specs.declared.routes.RawRoutes.{RawRoutes}
use Rattle.proto_route.specs.declared.fractional_percent.RawRuntimeFractionalPercent.{RawRuntimeFractionalPercent}
use Rattle.proto_route.specs.declared.route_action.RawRouteAction.{RawRouteAction}
use Rattle.proto_listener.specs.Manager.{manager_of}
use Rattle.proto_listener.specs.declared.manager.RawRds.{RawRds}
use Rattle.proto_listener.specs.declared.manager.RawManager.{RawManager}
use Rattle.proto_listener.specs.declared.manager.RawManagerOne.{RawManagerOne}
use Rattle.proto_listener.specs.declared.manager.RawManagerOne.TheVariants.{Rds, RouteConfig}
use Rattle.text_law.proofs.ByteLemmas.{text_utf8}
use Rattle.text_law.proofs.StopLemmas.{Each, HeaderUtf8, HostUtf8, MatchUtf8, MatcherUtf8, Maybe, PathUtf8, RouteUtf8, RoutesUtf8, StringUtf8}

-- what is read has a property
pub record Reads {A : Type 0} (P : A → Type 0) (r : Result A ℕ) : Type 0 where
  pub says : (x : A) → r ≡ Ok x → P x

pub reads_ok : {A : Type 0} (P : A → Type 0) (x : A) → P x → Reads P (Ok x)
reads_ok P x h = record { says = λ y is. let same : x ≡ y = cc is in subst P same h }

reads_err : {A : Type 0} (P : A → Type 0) (at : ℕ) → Reads P (Err at)
reads_err P at = record { says = λ y is. absurd (cc is) }

pub reads_then : {A B : Type 0} (Q : A → Type 0) (P : B → Type 0) (r : Result A ℕ) (f : A → Result B ℕ) → Reads Q r → ((x : A) → Q x → Reads P (f x)) → Reads P (r >>= f)
reads_then Q P (Ok x) f h k = k x (h.says x refl)
reads_then Q P (Err at) f h k = reads_err P at

-- a step of which nothing is wanted
pub reads_past : {A B : Type 0} (P : B → Type 0) (r : Result A ℕ) (f : A → Result B ℕ) → ((x : A) → Reads P (f x)) → Reads P (r >>= f)
reads_past P (Ok x) f k = k x
reads_past P (Err at) f k = reads_err P at

each_option : {A : Type 0} (P : A → Type 0) (o : Option A) (xs : List A) → Maybe P o → Each P xs → Each P (cons_option o xs)
each_option P None xs h k = k
each_option P (Some x) xs h k = (h, k)

reads_gathered : {X A : Type 0} (P : A → Type 0) (f : X → Result (Option A) ℕ) (xs : List X) → ((x : X) → Reads (Maybe P) (f x)) → Reads (Each P) (gathered f xs)
unfolding gathered
reads_gathered P f [] h = reads_ok (Each P) [] tt
reads_gathered P f (x ∷ xs) h =
    reads_then (Maybe P) (Each P) (f x) (λ y. gathered f xs >>= λ ys. Ok (cons_option y ys)) (h x)
    (λ y first. reads_then (Each P) (Each P) (gathered f xs) (λ ys. Ok (cons_option y ys)) (reads_gathered P f xs h) (λ ys more. reads_ok (Each P) (cons_option y ys) (each_option P y ys first more)))

reads_optional : {A : Type 0} (P : A → Type 0) (reading : List ℕ → Result A ℕ) (found : Option (List ℕ)) → ((bs : List ℕ) → Reads P (reading bs)) → Reads (Maybe P) (optional reading found)
unfolding optional
reads_optional P reading None h = reads_ok (Maybe P) None tt
reads_optional P reading (Some b) h = reads_then P (Maybe P) (reading b) (λ x. Ok (Some x)) (h b) (λ x is. reads_ok (Maybe P) (Some x) is)

pub reads_repeated : {A : Type 0} (P : A → Type 0) (reading : List ℕ → Result A ℕ) (number : ℕ) (fs : List WireField) → ((bs : List ℕ) → Reads P (reading bs)) → Reads (Each P) (read_repeated reading number fs)
unfolding read_repeated
reads_repeated P reading number fs h = reads_gathered P (λ f. optional reading (bytes_at number f)) fs (λ f. reads_optional P reading (bytes_at number f) h)

pub reads_singular : {A : Type 0} (P : A → Type 0) (reading : List ℕ → Result A ℕ) (number : ℕ) (fs : List WireField) → ((bs : List ℕ) → Reads P (reading bs)) → Reads (Maybe P) (read_singular reading number fs)
reads_singular P reading number fs h = reads_optional P reading (joined number fs) h

-- ---- texts

as_by : (b : Bool) (at : ℕ) (bs : List ℕ) → is_text bs ≡ b → Reads (Maybe IsUtf8) (cond b (Ok (Some bs)) (Err at))
as_by true at bs is = reads_ok (Maybe IsUtf8) (Some bs) (text_utf8 bs is)
as_by false at bs is = reads_err (Maybe IsUtf8) at

reads_as : (at : ℕ) (found : Option (List ℕ)) → Reads (Maybe IsUtf8) (as_text at found)
reads_as at None = reads_ok (Maybe IsUtf8) None tt
reads_as at (Some bs) = as_by (is_text bs) at bs refl

last_utf8 : (o : Option (List ℕ)) (xs : List (List ℕ)) → Maybe IsUtf8 o → Each IsUtf8 xs → IsUtf8 (unwrap_or (last_or o xs) [])
last_utf8 None [] h k = IsUtf8-nil
last_utf8 (Some x) [] h k = h
last_utf8 o (x ∷ xs) h k = last_utf8 (Some x) xs k.0 k.1

pub reads_last : (number : ℕ) (fs : List WireField) → Reads IsUtf8 (last_text number fs)
unfolding last_text texts
reads_last number fs =
    reads_then (Each IsUtf8) IsUtf8 (gathered (text_at number) fs) (λ ts. Ok (unwrap_or (last_or None ts) []))
    (reads_gathered IsUtf8 (text_at number) fs (λ f. reads_as f.at (bytes_at number f)))
    (λ ts all. reads_ok IsUtf8 (unwrap_or (last_or None ts) []) (last_utf8 None ts tt all))

-- ---- messages

abbrev RegexUtf8 : RawRegexMatcher → Type 0
RegexUtf8 raw = IsUtf8 raw.regex

reads_regex : (bs : List ℕ) → Reads RegexUtf8 (regex_matcher_of bs)
unfolding regex_matcher_of
reads_regex bs =
    reads_past RegexUtf8 (fields bs) (λ fs. last_text 2 fs >>= λ regex. Ok (record { regex = regex }))
    (λ fs. reads_then IsUtf8 RegexUtf8 (last_text 2 fs) (λ regex. Ok (record { regex = regex })) (reads_last 2 fs) (λ regex h. reads_ok RegexUtf8 (record { regex = regex }) h))

-- a step that reads a regex
regex_then : {B : Type 0} (P : B → Type 0) (number : ℕ) (members : List WireField) (f : Option RawRegexMatcher → Result B ℕ)
    → ((x : Option RawRegexMatcher) → Maybe RegexUtf8 x → Reads P (f x)) → Reads P (read_member regex_matcher_of number members >>= f)
regex_then P number members f k = reads_then (Maybe RegexUtf8) P (read_member regex_matcher_of number members) f (reads_singular RegexUtf8 regex_matcher_of number (last_run number members) reads_regex) k

-- ---- string matchers

string_or : (a b : Option RawStringMatcherOne) → StringUtf8 a → StringUtf8 b → StringUtf8 (a or b)
string_or None b h k = k
string_or (Some x) b h k = h

string_by : (b : Bool) (v : RawStringMatcherOne) → StringUtf8 (Some v) → StringUtf8 (cond b (Some v) None)
string_by true v h = h
string_by false v h = tt

string_set : (set : Option ℕ) (n : ℕ) (v : RawStringMatcherOne) → StringUtf8 (Some v) → StringUtf8 (if_set set n v)
string_set None n v h = tt
string_set (Some m) n v h = string_by (eqb m n) v h

string_regex : (r : Option RawRegexMatcher) → Maybe RegexUtf8 r → StringUtf8 (option_map string.SafeRegex r)
string_regex None h = tt
string_regex (Some r) h = h

abbrev StringMatcherUtf8 : RawStringMatcher → Type 0
StringMatcherUtf8 raw = StringUtf8 raw.one

string_end : (exact prefix suffix contains : List ℕ) (set : Option ℕ) (regex : Option RawRegexMatcher) (b : Bool) → Maybe RegexUtf8 regex
    → Reads StringMatcherUtf8 (Ok (record {
      one = if_set set 1 (string.Exact exact) or if_set set 2 (string.Prefix prefix) or if_set set 3 (string.Suffix suffix) or option_map string.SafeRegex regex or if_set set 7 (string.Contains contains);
      ignore_case = b;
    }))
string_end exact prefix suffix contains set regex b h =
    reads_ok StringMatcherUtf8 _
    (string_or (if_set set 1 (string.Exact exact) or if_set set 2 (string.Prefix prefix) or if_set set 3 (string.Suffix suffix) or option_map string.SafeRegex regex) (if_set set 7 (string.Contains contains))
    (string_or (if_set set 1 (string.Exact exact) or if_set set 2 (string.Prefix prefix) or if_set set 3 (string.Suffix suffix)) (option_map string.SafeRegex regex)
    (string_or (if_set set 1 (string.Exact exact) or if_set set 2 (string.Prefix prefix)) (if_set set 3 (string.Suffix suffix))
    (string_or (if_set set 1 (string.Exact exact)) (if_set set 2 (string.Prefix prefix)) (string_set set 1 (string.Exact exact) tt) (string_set set 2 (string.Prefix prefix) tt)) (string_set set 3 (string.Suffix suffix) tt))
    (string_regex regex h)) (string_set set 7 (string.Contains contains) tt))

reads_string : (bs : List ℕ) → Reads StringMatcherUtf8 (string_matcher_of bs)
unfolding string_matcher_of
reads_string bs = search (string_end, regex_then, reads_past) depth 40

string_then : {B : Type 0} (P : B → Type 0) (number : ℕ) (members : List WireField) (f : Option RawStringMatcher → Result B ℕ)
    → ((x : Option RawStringMatcher) → Maybe StringMatcherUtf8 x → Reads P (f x)) → Reads P (read_member string_matcher_of number members >>= f)
string_then P number members f k = reads_then (Maybe StringMatcherUtf8) P (read_member string_matcher_of number members) f (reads_singular StringMatcherUtf8 string_matcher_of number (last_run number members) reads_string) k

-- ---- header matchers

header_or : (a b : Option RawHeaderMatcherOne) → HeaderUtf8 a → HeaderUtf8 b → HeaderUtf8 (a or b)
header_or None b h k = k
header_or (Some x) b h k = h

header_by : (b : Bool) (v : RawHeaderMatcherOne) → HeaderUtf8 (Some v) → HeaderUtf8 (cond b (Some v) None)
header_by true v h = h
header_by false v h = tt

header_set : (set : Option ℕ) (n : ℕ) (v : RawHeaderMatcherOne) → HeaderUtf8 (Some v) → HeaderUtf8 (if_set set n v)
header_set None n v h = tt
header_set (Some m) n v h = header_by (eqb m n) v h

header_range : (r : Option RawRange) → HeaderUtf8 (option_map header.RangeMatch r)
header_range None = tt
header_range (Some r) = tt

header_regex : (r : Option RawRegexMatcher) → Maybe RegexUtf8 r → HeaderUtf8 (option_map header.SafeRegexMatch r)
header_regex None h = tt
header_regex (Some r) h = h

header_string : (r : Option RawStringMatcher) → Maybe StringMatcherUtf8 r → HeaderUtf8 (option_map header.StringMatch r)
header_string None h = tt
header_string (Some r) h = h

header_end : (exact prefix suffix contains : List ℕ) (present : Bool) (range : Option RawRange) (set : Option ℕ) (regex : Option RawRegexMatcher) (matcher : Option RawStringMatcher) → Maybe RegexUtf8 regex → Maybe StringMatcherUtf8 matcher
    → Reads HeaderUtf8 (Ok (if_set set 4 (header.ExactMatch exact) or option_map header.RangeMatch range or if_set set 7 (header.PresentMatch present)
    or if_set set 9 (header.PrefixMatch prefix) or if_set set 10 (header.SuffixMatch suffix) or option_map header.SafeRegexMatch regex
    or if_set set 12 (header.ContainsMatch contains) or option_map header.StringMatch matcher))
header_end exact prefix suffix contains present range set regex matcher h k =
    let a : HeaderUtf8 (if_set set 4 (header.ExactMatch exact) or option_map header.RangeMatch range) = header_or _ _ (header_set set 4 (header.ExactMatch exact) tt) (header_range range) in
    let b : HeaderUtf8 (if_set set 4 (header.ExactMatch exact) or option_map header.RangeMatch range or if_set set 7 (header.PresentMatch present)) = header_or _ _ a (header_set set 7 (header.PresentMatch present) tt) in
    let c : HeaderUtf8 (if_set set 4 (header.ExactMatch exact) or option_map header.RangeMatch range or if_set set 7 (header.PresentMatch present) or if_set set 9 (header.PrefixMatch prefix)) = header_or _ _ b (header_set set 9 (header.PrefixMatch prefix) tt) in
    let d : HeaderUtf8 (if_set set 4 (header.ExactMatch exact) or option_map header.RangeMatch range or if_set set 7 (header.PresentMatch present) or if_set set 9 (header.PrefixMatch prefix) or if_set set 10 (header.SuffixMatch suffix)) = header_or _ _ c (header_set set 10 (header.SuffixMatch suffix) tt) in
    reads_ok HeaderUtf8 _ (search (h, k, d, header_or, header_set, header_regex, header_string) depth 25)

reads_test : (fs : List WireField) → Reads HeaderUtf8 (header_test fs)
unfolding header_test
reads_test fs = search (header_end, regex_then, string_then, reads_past) depth 40

test_then : {B : Type 0} (P : B → Type 0) (fs : List WireField) (f : Option RawHeaderMatcherOne → Result B ℕ) → ((x : Option RawHeaderMatcherOne) → HeaderUtf8 x → Reads P (f x)) → Reads P (header_test fs >>= f)
test_then P fs f k = reads_then HeaderUtf8 P (header_test fs) f (reads_test fs) k

matcher_end : (name : List ℕ) (one : Option RawHeaderMatcherOne) (b : Bool) → HeaderUtf8 one → Reads MatcherUtf8 (Ok (record { name = name; one = one; invert_match = b }))
matcher_end name one b h = reads_ok MatcherUtf8 (record { name = name; one = one; invert_match = b }) h

reads_matcher : (bs : List ℕ) → Reads MatcherUtf8 (header_matcher_of bs)
unfolding header_matcher_of
reads_matcher bs = search (matcher_end, test_then, reads_past) depth 40

matchers_then : {B : Type 0} (P : B → Type 0) (number : ℕ) (fs : List WireField) (f : List RawHeaderMatcher → Result B ℕ) → ((x : List RawHeaderMatcher) → Each MatcherUtf8 x → Reads P (f x)) → Reads P (read_repeated header_matcher_of number fs >>= f)
matchers_then P number fs f k = reads_then (Each MatcherUtf8) P (read_repeated header_matcher_of number fs) f (reads_repeated MatcherUtf8 header_matcher_of number fs reads_matcher) k

-- ---- routes

path_or : (a b : Option RawRouteMatchOne) → PathUtf8 a → PathUtf8 b → PathUtf8 (a or b)
path_or None b h k = k
path_or (Some x) b h k = h

path_by : (b : Bool) (v : RawRouteMatchOne) → PathUtf8 (Some v) → PathUtf8 (cond b (Some v) None)
path_by true v h = h
path_by false v h = tt

path_set : (set : Option ℕ) (n : ℕ) (v : RawRouteMatchOne) → PathUtf8 (Some v) → PathUtf8 (if_set set n v)
path_set None n v h = tt
path_set (Some m) n v h = path_by (eqb m n) v h

path_regex : (r : Option RawRegexMatcher) → Maybe RegexUtf8 r → PathUtf8 (option_map raw_test.SafeRegex r)
path_regex None h = tt
path_regex (Some r) h = h

match_end : (prefix path : List ℕ) (set : Option ℕ) (case_sensitive : Option Bool) (headers : List RawHeaderMatcher) (query : List (List ℕ)) (fraction : Option RawRuntimeFractionalPercent) (regex : Option RawRegexMatcher)
    → Each MatcherUtf8 headers → Maybe RegexUtf8 regex
    → Reads MatchUtf8 (Ok (record {
      one = if_set set 1 (raw_test.Prefix prefix) or if_set set 2 (raw_test.Path path) or option_map raw_test.SafeRegex regex;
      case_sensitive = case_sensitive;
      headers = headers;
      query_parameters = query;
      runtime_fraction = fraction;
    }))
match_end prefix path set case_sensitive headers query fraction regex h k =
    let one : PathUtf8 (if_set set 1 (raw_test.Prefix prefix) or if_set set 2 (raw_test.Path path) or option_map raw_test.SafeRegex regex) =
    path_or (if_set set 1 (raw_test.Prefix prefix) or if_set set 2 (raw_test.Path path)) (option_map raw_test.SafeRegex regex)
    (path_or (if_set set 1 (raw_test.Prefix prefix)) (if_set set 2 (raw_test.Path path)) (path_set set 1 (raw_test.Prefix prefix) tt) (path_set set 2 (raw_test.Path path) tt)) (path_regex regex k) in
    reads_ok MatchUtf8 _ (one, h)

reads_match : (bs : List ℕ) → Reads MatchUtf8 (route_match_of bs)
unfolding route_match_of
reads_match bs = search (match_end, matchers_then, regex_then, reads_past) depth 40

match_then : {B : Type 0} (P : B → Type 0) (number : ℕ) (fs : List WireField) (f : Option RawRouteMatch → Result B ℕ) → ((x : Option RawRouteMatch) → Maybe MatchUtf8 x → Reads P (f x)) → Reads P (read_singular route_match_of number fs >>= f)
match_then P number fs f k = reads_then (Maybe MatchUtf8) P (read_singular route_match_of number fs) f (reads_singular MatchUtf8 route_match_of number fs reads_match) k

route_end : (m : Option RawRouteMatch) (route : Option RawRouteAction) → Maybe MatchUtf8 m → Reads RouteUtf8 (Ok (record { match_ = m; route = route }))
route_end m route h = reads_ok RouteUtf8 (record { match_ = m; route = route }) h

reads_route : (bs : List ℕ) → Reads RouteUtf8 (route_of bs)
unfolding route_of
reads_route bs = search (route_end, match_then, reads_past) depth 40

routes_then : {B : Type 0} (P : B → Type 0) (number : ℕ) (fs : List WireField) (f : List RawRoute → Result B ℕ) → ((x : List RawRoute) → Each RouteUtf8 x → Reads P (f x)) → Reads P (read_repeated route_of number fs >>= f)
routes_then P number fs f k = reads_then (Each RouteUtf8) P (read_repeated route_of number fs) f (reads_repeated RouteUtf8 route_of number fs reads_route) k

host_end : (name : List ℕ) (domains : List (List ℕ)) (routes : List RawRoute) → Each RouteUtf8 routes → Reads HostUtf8 (Ok (record { name = name; domains = domains; routes = routes }))
host_end name domains routes h = reads_ok HostUtf8 (record { name = name; domains = domains; routes = routes }) h

reads_host : (bs : List ℕ) → Reads HostUtf8 (virtual_host_of bs)
unfolding virtual_host_of
reads_host bs = search (host_end, routes_then, reads_past) depth 40

hosts_then : {B : Type 0} (P : B → Type 0) (number : ℕ) (fs : List WireField) (f : List RawVirtualHost → Result B ℕ) → ((x : List RawVirtualHost) → Each HostUtf8 x → Reads P (f x)) → Reads P (read_repeated virtual_host_of number fs >>= f)
hosts_then P number fs f k = reads_then (Each HostUtf8) P (read_repeated virtual_host_of number fs) f (reads_repeated HostUtf8 virtual_host_of number fs reads_host) k

routes_end : (name : List ℕ) (hosts : List RawVirtualHost) → Each HostUtf8 hosts → Reads RoutesUtf8 (Ok (record { name = name; virtual_hosts = hosts }))
routes_end name hosts h = reads_ok RoutesUtf8 (record { name = name; virtual_hosts = hosts }) h

pub reads_routes : (bs : List ℕ) → Reads RoutesUtf8 (routes_of bs)
unfolding routes_of
reads_routes bs = search (routes_end, hosts_then, reads_past) depth 40

-- ---- the connection manager

abbrev pub ManagerOneUtf8 : Option RawManagerOne → Type 0
ManagerOneUtf8 None = Unit {0}
ManagerOneUtf8 (Some (Rds rds)) = Unit {0}
ManagerOneUtf8 (Some (RouteConfig raw)) = RoutesUtf8 raw

abbrev pub ManagerUtf8 : RawManager → Type 0
ManagerUtf8 raw = ManagerOneUtf8 raw.one

manager_or : (a : Option RawRds) (b : Option RawRoutes) → Maybe RoutesUtf8 b → ManagerOneUtf8 (option_map Rds a or option_map RouteConfig b)
manager_or None None h = tt
manager_or None (Some b) h = h
manager_or (Some a) b h = tt

manager_end : (a : Option RawRds) (b : Option RawRoutes) → Maybe RoutesUtf8 b → Reads ManagerUtf8 (Ok (record { one = option_map Rds a or option_map RouteConfig b }))
manager_end a b h = reads_ok ManagerUtf8 _ (manager_or a b h)

config_then : {B : Type 0} (P : B → Type 0) (number : ℕ) (members : List WireField) (f : Option RawRoutes → Result B ℕ) → ((x : Option RawRoutes) → Maybe RoutesUtf8 x → Reads P (f x)) → Reads P (read_member routes_of number members >>= f)
config_then P number members f k = reads_then (Maybe RoutesUtf8) P (read_member routes_of number members) f (reads_singular RoutesUtf8 routes_of number (last_run number members) reads_routes) k

pub reads_manager : (bs : List ℕ) → Reads ManagerUtf8 (manager_of bs)
unfolding manager_of
reads_manager bs = search (manager_end, config_then, reads_past) depth 40
