-- The routes of a virtual host, one after another.
use Rattle.std.proofs.Common.{◌≡◌, ℕ, ◌<◌, ◌≤◌, ◌+◌, List, [], ◌∷◌, ◌++◌, length, get_or, drop, Bool, Option, Some, None, refl, sym, ap, ◌∙◌, subst, append_assoc, append-nil, length-append, arith}
use Rattle.std.specs.Prelude.{All, AllPairs, IfSome, Result, Ok, Err}
use Rattle.std.specs.List.{cons_option}
use Rattle.std.proofs.lemmas.List.{drop_more, drop_all}
use Rattle.std.proofs.lemmas.List.Elements.{All-push}
use Rattle.std.proofs.lemmas.List.Quantifiers.{all_pairs_push}
use Rattle.proto_route.specs.declared.routes.RawRoute.{RawRoute}
use Rattle.xds_config.specs.declared.route_values.Route.{Route}
use Rattle.xds_config.specs.RouteValues.{IsLawfulRoute}
use Rattle.check_steps.specs.declared.check_fault.Stop.{Stop}
use Rattle.check_steps.specs.declared.check_fault.Fault.{Fault}
use Rattle.check_steps.specs.declared.check_fault.Fault.TheVariants.{Stopped, Memory}
use Rattle.check_steps.specs.Asking.{Agrees, Asks, TellsOver, Texts}
use Rattle.check_routes.specs.LawfulRoutes.{listed}
use Rattle.check_routes.specs.RouteTable.{kept_of, routes_from}
use Rattle.check_steps.specs.TableSteps.{◌>>=◌, Tells}
use Rattle.check_steps.proofs.AskingLemmas.{agrees_before}
use Rattle.check_steps.proofs.EachLemmas.{joined}
use Rattle.check_steps.proofs.LoopLemmas.{nothing_before}

-- the routes that are done, up to a place
abbrev pub AreUnderWay : List RawRoute → ℕ → List Route → Texts → Type 0
AreUnderWay raws place done texts =
    (refuses : List ℕ → Bool) → Agrees refuses texts → joined done (routes_from refuses place (drop place raws)) ≡ routes_from refuses 0 raws

pub routes_begin : (raws : List RawRoute) (texts : Texts) → AreUnderWay raws 0 [] texts
routes_begin raws texts refuses agrees = nothing_before (routes_from refuses 0 raws)

one_more : (done : List Route) (kept : Option Route) (rest : Result (List Route) Stop) → joined done (rest >>= λ routes. Ok (cons_option kept routes)) ≡ joined (done ++ listed kept) rest
one_more done None (Ok routes) = ap (λ (rs : List Route). Ok (rs ++ routes)) (sym (append-nil done))
one_more done (Some route) (Ok routes) = ap (λ (rs : List Route). Ok rs) (sym (append_assoc done (route ∷ []) routes))
one_more done kept (Err stop) = refl

at_first : (refuses : List ℕ → Bool) (place : ℕ) (done : List Route) (raw : RawRoute) (rest : List RawRoute) (kept : Option Route) → kept_of refuses place raw ≡ Ok kept
    → joined done (routes_from refuses place (raw ∷ rest)) ≡ joined (done ++ listed kept) (routes_from refuses (place + 1) rest)
unfolding routes_from
at_first refuses place done raw rest kept is = rw is (one_more done kept (routes_from refuses (place + 1) rest))

stops_at_first : (refuses : List ℕ → Bool) (place : ℕ) (done : List Route) (raw : RawRoute) (rest : List RawRoute) (stop : Stop) → kept_of refuses place raw ≡ Err stop
    → joined done (routes_from refuses place (raw ∷ rest)) ≡ Err stop
unfolding routes_from
stops_at_first refuses place done raw rest stop is = rw is refl

-- the rest begins with the route of the place
first_of_rest : (refuses : List ℕ → Bool) (place : ℕ) (done : List Route) (raws : List RawRoute) (raw : RawRoute) → place < length raws → raw ≡ get_or raws place raw
    → joined done (routes_from refuses place (drop place raws)) ≡ joined done (routes_from refuses place (raw ∷ drop (place + 1) raws))
first_of_rest refuses place done raws raw lt is =
    ap (λ (rs : List RawRoute). joined done (routes_from refuses place rs)) (drop_more raws place raw lt)
    ∙ ap (λ (r : RawRoute). joined done (routes_from refuses place (r ∷ drop (place + 1) raws))) (sym is)

pub routes_go_on : {texts later : Texts} {told tells : List (List ℕ)} (raws : List RawRoute) (place : ℕ) (raw : RawRoute) (done : List Route) (kept : Option Route)
    → place < length raws → raw ≡ get_or raws place raw → AreUnderWay raws place done texts → Asks texts later told tells → TellsOver later (Ok kept) (λ refuses. kept_of refuses place raw)
    → AreUnderWay raws (place + 1) (done ++ listed kept) later
routes_go_on raws place raw done kept lt is so_far asks gives refuses agrees =
    sym (at_first refuses place done raw (drop (place + 1) raws) kept (gives refuses agrees))
    ∙ (sym (first_of_rest refuses place done raws raw lt is)
    ∙ so_far refuses (agrees_before asks agrees))

stopped_at : (refuses : List ℕ → Bool) (raws : List RawRoute) (place : ℕ) (raw : RawRoute) (done : List Route) (fault : Fault) (whole : Result (List Route) Stop) → place < length raws → raw ≡ get_or raws place raw
    → joined done (routes_from refuses place (drop place raws)) ≡ whole → Tells (Err fault) (kept_of refuses place raw) → Tells (Err fault) whole
stopped_at refuses raws place raw done (Stopped stop) whole lt is so_far told =
    sym so_far ∙ (first_of_rest refuses place done raws raw lt is ∙ stops_at_first refuses place done raw (drop (place + 1) raws) stop told)
stopped_at refuses raws place raw done Memory whole lt is so_far told = tt

pub routes_stop : {texts later : Texts} {told tells : List (List ℕ)} (raws : List RawRoute) (place : ℕ) (raw : RawRoute) (done : List Route) (fault : Fault)
    → place < length raws → raw ≡ get_or raws place raw → AreUnderWay raws place done texts → Asks texts later told tells → TellsOver later (Err fault) (λ refuses. kept_of refuses place raw)
    → TellsOver later (Err fault) (λ refuses. routes_from refuses 0 raws)
routes_stop raws place raw done fault lt is so_far asks gives refuses agrees =
    stopped_at refuses raws place raw done fault (routes_from refuses 0 raws) lt is (so_far refuses (agrees_before asks agrees)) (gives refuses agrees)

at_end : (refuses : List ℕ → Bool) (place : ℕ) (done : List Route) (rest : List RawRoute) → rest ≡ [] → joined done (routes_from refuses place rest) ≡ Ok done
unfolding routes_from
at_end refuses place done rest none = rw none (ap (λ (rs : List Route). Ok rs) (append-nil done))

pub routes_end : {texts : Texts} (raws : List RawRoute) (place : ℕ) (done : List Route) → length raws ≤ place → AreUnderWay raws place done texts
    → TellsOver texts (Ok done) (λ refuses. routes_from refuses 0 raws)
routes_end raws place done le so_far refuses agrees = sym (so_far refuses agrees) ∙ at_end refuses place done (drop place raws) (drop_all place raws le)

-- ---- they are lawful, and stand by rising place

-- routes whose places are below this one
pub record AreBelow (place : ℕ) (routes : List Route) : Type 0 where
  pub each : All IsLawfulRoute routes
  pub below : All (λ r. r.place < place) routes
  pub rising : AllPairs (λ a b. a.place < b.place) routes
  pub few : length routes ≤ place

pub none_below : AreBelow 0 []
none_below = record {
  each = λ k d lt. absurd (omega arith);
  below = λ k d lt. absurd (omega arith);
  rising = λ j k d lt within. absurd (omega arith);
  few = omega arith;
}

later_place : (place : ℕ) (routes : List Route) → All (λ r. r.place < place) routes → All (λ r. r.place < place + 1) routes
later_place place routes below = λ k d lt. let b : (get_or routes k d).place < place = below k d lt in omega arith

pub more_below : (place : ℕ) (routes : List Route) (kept : Option Route) → AreBelow place routes → IfSome kept IsLawfulRoute → IfSome kept (λ r. r.place ≡ place) → AreBelow (place + 1) (routes ++ listed kept)
more_below place routes None are lawful is =
    let P : List Route → Type 0 = λ rs. AreBelow (place + 1) rs in
    subst P (sym (append-nil routes)) record {
      each = are.each;
      below = later_place place routes are.below;
      rising = are.rising;
      few = let few = are.few in omega arith;
    }
more_below place routes (Some route) are lawful is = record {
  each = All-push IsLawfulRoute routes route are.each lawful;
  below = All-push (λ r. r.place < place + 1) routes route (later_place place routes are.below) (omega arith);
  rising = all_pairs_push (λ a b. a.place < b.place) routes route are.rising (λ k d lt. let b : (get_or routes k d).place < place = are.below k d lt in omega arith);
  few = let few = are.few in simp length-append (omega arith);
}
