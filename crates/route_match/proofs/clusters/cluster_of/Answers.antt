use Rattle.route_match.proofs.ClusterLemmas.{cluster_is, cluster_named}
use Rattle.route_match.proofs.clusters.cluster_of.Goals as goal

pub returns-in_ok-route-in-To-clause-cluster : goal.returns-in_ok-route-in-To-clause-cluster
returns-in_ok-route-in-To-clause-cluster c =
    cluster_is c.args.front.now c.args.answer.now c.in_ok-host-in-To.host.now c.in_ok-route-in-To.route.now c.in-To.route c.in-To.choice _ c.in-To.is c.in_ok-host-in-To.ensures c.in_ok-route-in-To.ensures c.chosen_of.ensures

pub returns-in_ok-route-in-To-clause-named : goal.returns-in_ok-route-in-To-clause-named
returns-in_ok-route-in-To-clause-named c = cluster_named c.args.front.now c.args.answer.now _ (returns-in_ok-route-in-To-clause-cluster c)
