use Rattle.check_clusters.proofs.cluster_check.shape.Goals as goal

pub returns-in-Some-ClusterType-clause-lawful : goal.returns-in-Some-ClusterType-clause-lawful
returns-in-Some-ClusterType-clause-lawful c = c.aggregate_shape.ensures.lawful c.args.name.now
