use Rattle.std.proofs.Common.{◌≡◌, rules, subst, map}
use Rattle.std.specs.Prelude.{IfOk, option_to_list}
use Rattle.xc_base.specs.declared.names.Kind.{Kind}
use Rattle.xc_keys.specs.Keys.{key_cmp}
use Rattle.config_assembly.specs.Front.{named_routes}
use Rattle.config_assembly.specs.Reach.{endpoint_names}
use Rattle.config_assembly.specs.ReachedResources.{Resources}
use Rattle.config_assembly.specs.DepsViews.{seen}
use Rattle.config_assembly.proofs.OrderLemmas.{put_four}
use Rattle.config_assembly.proofs.reach.reached_keys.Goals as goal

pub returns : goal.returns
returns g c =
    let r : Resources = seen c.args.sight in
    let copy : c.in_ok-clone.field-0 ≡ c.args.sight.target.now.key = search rules in
    subst (λ k. IfOk c.keys_in_order.result (λ keys. keys ≡ k))
    (put_four key_cmp c.in_ok-clone.field-0 r.target.key c.new-keys.result.keys c.put_key.new.keys.keys c.put_routes.new.keys.keys c.put_clusters.new.keys.keys c.put_endpoints.new.keys.keys
    (map (r.key Kind.Route) (option_to_list (named_routes (r.fate r.target.key)))) (map (r.key Kind.Cluster) c.args.clusters.now) (map (r.key Kind.Endpoint) (endpoint_names r c.args.clusters.now))
    copy c.new-keys.ensures.empty c.in_ok-put_key.ensures c.in_ok-put_routes.ensures c.in_ok-put_clusters.ensures c.in_ok-put_endpoints.ensures)
    c.keys_in_order.ensures
