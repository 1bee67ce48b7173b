-- The cluster of an answer is one that the virtual host names.
use Rattle.std.proofs.Common.{◌≡◌, ℕ, List, [], ◌∷◌, ◌++◌, map, Bool, true, false, cond, eqb, Option, Some, None, sym, ap, ◌∙◌}
use Rattle.std.proofs.lemmas.List.Elements.{Contains-append_left, Contains-append_right}
use Rattle.std.proofs.lemmas.Option.{slice_get-map, slice_get_within, get_or_from_slice_get}
use Rattle.std.specs.Prelude.{Contains, IfSome, option_copied, option_and_then, slice_get}
use Rattle.std.specs.Borrow.{Bor}
use Rattle.std.specs.List.{find, flat_map}
use Rattle.std.specs.Option.{option_map_or}
use Rattle.xds_config.specs.declared.route_values.Action.{Action}
use Rattle.xds_config.specs.declared.route_values.Action.TheVariants.{To as Forward, Nothing}
use Rattle.xds_config.specs.declared.route_values.Host.{Host}
use Rattle.xds_config.specs.declared.route_values.Route.{Route}
use Rattle.xds_config.specs.declared.config.Front.{Front}
use Rattle.xds_config.specs.RouteValues.{action_clusters, host_clusters}
use Rattle.xds_config.specs.Configs.{front_clusters}
use Rattle.route_match.specs.declared.answer.RouteAnswer.{RouteAnswer}
use Rattle.route_match.specs.declared.answer.RouteAnswer.TheVariants.{To, NoRoute, NoAction, NoFront}
use Rattle.route_match.specs.NamedClusters.{chosen_of, answer_cluster}

chosen_named : (action : Action) (choice : ℕ) (name : List ℕ) → chosen_of action choice ≡ Some name → Contains (action_clusters action) name
chosen_named (Forward clusters) choice name e =
    let at : slice_get (map (λ c. c.cluster) clusters) choice ≡ Some name = slice_get-map (λ c. c.cluster) clusters choice ∙ e in
    (choice, slice_get_within (map (λ c. c.cluster) clusters) choice name at, get_or_from_slice_get (map (λ c. c.cluster) clusters) choice name name at)
chosen_named Nothing choice name e = absurd (cc)

route_named : (b : Bool) (r : Route) (rs : List Route) (o : Option Route) (choice : ℕ) (name : List ℕ) → (option_and_then (λ r. chosen_of r.action choice) o ≡ Some name → Contains (flat_map (λ r. action_clusters r.action) rs) name)
    → option_and_then (λ r. chosen_of r.action choice) (cond b (Some r) o) ≡ Some name → Contains (action_clusters r.action ++ flat_map (λ r. action_clusters r.action) rs) name
route_named true r rs o choice name more e = Contains-append_left (action_clusters r.action) (flat_map (λ r. action_clusters r.action) rs) name (chosen_named r.action choice name e)
route_named false r rs o choice name more e = Contains-append_right (action_clusters r.action) (flat_map (λ r. action_clusters r.action) rs) name (more e)

routes_named : (routes : List Route) (place choice : ℕ) (name : List ℕ) → option_and_then (λ r. chosen_of r.action choice) (find (λ r. eqb r.place place) routes) ≡ Some name → Contains (flat_map (λ r. action_clusters r.action) routes) name
routes_named [] place choice name e = absurd (cc)
routes_named (r ∷ rs) place choice name e = route_named (eqb r.place place) r rs (find (λ r. eqb r.place place) rs) choice name (routes_named rs place choice name) e

host_named : (host : Option Host) (place choice : ℕ) (name : List ℕ) → option_and_then (λ r. chosen_of r.action choice) (find (λ r. eqb r.place place) (option_map_or (λ h. h.routes) host [])) ≡ Some name → Contains (option_map_or host_clusters host []) name
host_named None place choice name e = absurd (cc)
host_named (Some h) place choice name e = routes_named h.routes place choice name e

answer_named : (front : Front) (answer : RouteAnswer) (name : List ℕ) → answer_cluster front answer ≡ Some name → Contains (front_clusters front) name
answer_named front (To place choice) name e = host_named (slice_get front.routes.hosts front.host) place choice name e
answer_named front NoRoute name e = absurd (cc)
answer_named front (NoAction place) name e = absurd (cc)
answer_named front (NoFront reason) name e = absurd (cc)

pub cluster_named : (front : Front) (answer : RouteAnswer) (cluster : Option (Bor (List ℕ))) → option_copied cluster ≡ answer_cluster front answer → IfSome cluster (λ c. Contains (front_clusters front) c.now)
cluster_named front answer None e = tt
cluster_named front answer (Some c) e = answer_named front answer c.now (sym e)

pub cluster_is : (front : Front) (answer : RouteAnswer) (host : Host) (r : Route) (place choice : ℕ) (cluster : Option (List ℕ)) → answer ≡ To place choice → Some host ≡ slice_get front.routes.hosts front.host → Some r ≡ find (λ r. eqb r.place place) host.routes → cluster ≡ chosen_of r.action choice → cluster ≡ answer_cluster front answer
cluster_is front answer host r place choice cluster is own found chosen =
    chosen
    ∙ (ap (option_and_then (λ (r : Route). chosen_of r.action choice)) (found ∙ ap (λ o. find (λ (r : Route). eqb r.place place) (option_map_or (λ (h : Host). h.routes) o [])) own)
    ∙ sym (ap (answer_cluster front) is))
