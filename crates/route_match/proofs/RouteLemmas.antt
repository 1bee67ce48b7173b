-- The route that a call takes, in a list of rising places.
use Rattle.std.proofs.Common.{◌≡◌, ℕ, suc, zero, ◌+◌, ◌<◌, Bool, List, [], ◌∷◌, false, leb-false, length, length-take, take, eq-eqb, get_or, filter, true, Option, Some, refl, sym, ap, ◌∙◌, arith}
use Rattle.std.proofs.lemmas.List.{get_or-map, length-map}
use Rattle.std.proofs.lemmas.Slice.Eq.{bytes_eq-Decides}
use Rattle.std.specs.Char.{to_ascii_lowercase}
use Rattle.std.proofs.lemmas.List.Elements.{All-head, All-tail}
use Rattle.std.specs.Prelude.{◌*◌, ◌&&◌, All, AllPairs, map, not, slice_get, nat_le}
use Rattle.std.specs.Option.{option_map_or}
use Rattle.std.specs.List.{count_by, list_all}
use Rattle.xc_base.specs.declared.call.Call.{Call}
use Rattle.header_match.specs.Texts.{begins_with, folded, is_same}
use Rattle.xds_config.specs.declared.route_values.PathTest.{PathTest}
use Rattle.xds_config.specs.declared.route_values.PathTest.TheVariants.{Pattern, Prefix, Whole}
use Rattle.xds_config.specs.PathLengths.{length_met, length_test}
use Rattle.xds_config.specs.declared.path_lengths.LengthTest.{LengthTest}
use Rattle.header_match.specs.Headers.{header_met}
use Rattle.xc_base.specs.Draws.{draw}
use Rattle.xds_config.specs.declared.route_values.Route.{Route}
use Rattle.xds_config.specs.declared.route_values.Host.{Host}
use Rattle.xds_config.specs.declared.config.Front.{Front}
use Rattle.xds_config.specs.RouteValues.{IsLawfulHost}
use Rattle.xds_config.specs.Configs.{IsLawfulFront}
use Rattle.route_match.specs.declared.answer.RouteAnswer.TheVariants.{NoRoute}
use Rattle.route_match.specs.Routes.{path_met, route_met, routes_of, share_met, least_met, led, routed, tried}
use Rattle.route_match.proofs.Least.{least_is, count_is}

-- the first route that is for the call is the one of the least place
taken : (routes : List Route) (call : Call) (i : ℕ) (r : Route) → AllPairs (λ a b. a.place < b.place) routes → i < length routes → r ≡ get_or routes i r → filter (route_met call) (take i routes) ≡ [] → route_met call r ≡ true → least_met routes call ≡ Some r
taken routes call i r rising lt is none met = least_is (route_met call) (λ (r : Route). r.place) routes i r lt is rising none met

pub taken_leads : (routes : List Route) (call : Call) (i : ℕ) (r : Route) → AllPairs (λ a b. a.place < b.place) routes → i < length routes → r ≡ get_or routes i r → filter (route_met call) (take i routes) ≡ [] → route_met call r ≡ true → led call.word r.place r.action ≡ routed routes call
taken_leads routes call i r rising lt is none met =
    sym (ap (λ (o : Option Route). option_map_or (λ r. led call.word r.place r.action) o NoRoute) (taken routes call i r rising lt is none met))

pub taken_tried : (routes : List Route) (call : Call) (i : ℕ) (r : Route) → AllPairs (λ a b. a.place < b.place) routes → i < length routes → r ≡ get_or routes i r → filter (route_met call) (take i routes) ≡ [] → route_met call r ≡ true → tried routes call ≡ i + 1
taken_tried routes call i r rising lt is none met =
    ap (λ (o : Option Route). option_map_or (λ r. count_by (λ s. nat_le s.place r.place) routes) o (length routes)) (taken routes call i r rising lt is none met)
    ∙ count_is (route_met call) (λ (r : Route). r.place) routes i r lt is rising

nothing_rises : AllPairs {X = Route} (λ a b. a.place < b.place) []
nothing_rises = λ i j d before within. absurd (omega arith)

rising_at : (hosts : List Host) (i : ℕ) → All IsLawfulHost hosts → AllPairs (λ a b. a.place < b.place) (option_map_or (λ h. h.routes) (slice_get hosts i) [])
rising_at [] i all = nothing_rises
rising_at (h ∷ hs) zero all = (All-head IsLawfulHost h hs all).rising
rising_at (h ∷ hs) (suc i) all = rising_at hs i (All-tail IsLawfulHost h hs all)

pub routes_rise : (front : Front) → IsLawfulFront front → AllPairs (λ a b. a.place < b.place) (routes_of front)
routes_rise front lawful = rising_at front.routes.hosts front.host lawful.routes.hosts

-- ---- what the length of a path rules out

folded_length : (no_case : Bool) (text : List ℕ) → length (folded no_case text) ≡ length text
folded_length true text = length-map text to_ascii_lowercase
folded_length false text = refl

same_length : (no_case : Bool) (text other : List ℕ) → is_same no_case text other ≡ true → length text ≡ length other
same_length no_case text other is = sym (folded_length no_case text) ∙ ap length ((bytes_eq-Decides (folded no_case text) (folded no_case other)).0 is) ∙ folded_length no_case other

pub ruled_out : (test : PathTest) (path : List ℕ) → length_met (length_test test) (length path) ≡ false → path_met test path ≡ false
ruled_out (Prefix text case) path short = unmet (begins_with (not case) path text) refl
  where
    unmet : (b : Bool) → begins_with (not case) path text ≡ b → b ≡ false
    unmet true is = let never : ⊥ = omega (arith, leb-false (length text) (length path) short, same_length (not case) (take (length text) path) text is, length-take (length text) path) in absurd never
    unmet false is = refl
ruled_out (Whole text case) path other = unmet (is_same (not case) path text) refl
  where
    unmet : (b : Bool) → is_same (not case) path text ≡ b → b ≡ false
    unmet true is = absurd (cc (eq-eqb (length text) (length path) (sym (same_length (not case) path text is)), other))
    unmet false is = refl
ruled_out (Pattern pattern) path short = let never : ⊥ = omega (arith, leb-false 0 (length path) short) in absurd never

unmet_route : (met rest share : Bool) → met ≡ false → ((met && rest) && share) ≡ false
unmet_route true rest share is = absurd (cc is)
unmet_route false rest share is = refl

pub ruled_out_route : (call : Call) (route : Route) (test : LengthTest) (path : List ℕ) → test ≡ length_test route.path → path ≡ call.path → length_met test (length path) ≡ false → route_met call route ≡ false
ruled_out_route call route test path is own out =
    unmet_route (path_met route.path call.path) (list_all (λ h. header_met h call) route.headers) (share_met route.fraction (draw call.word (2 * route.place)))
    (ruled_out route.path call.path (ap (λ p. length_met (length_test route.path) (length p)) (sym own) ∙ ap (λ t. length_met t (length path)) (sym is) ∙ out))

-- of the route at a place its test says this
pub test_at : (routes list : List Route) (tests : List LengthTest) (i : ℕ) (route : Route) (d : LengthTest) → tests ≡ map (λ r. length_test r.path) routes → list ≡ routes → i < length list → route ≡ get_or list i route → get_or tests i d ≡ length_test route.path
test_at routes list tests i route d are same lt is =
    ap (λ ts. get_or ts i d) (are ∙ ap (map (λ r. length_test r.path)) (sym same))
    ∙ get_or-map (λ r. length_test r.path) list i route d lt
    ∙ ap (λ (r : Route). length_test r.path) (sym is)
