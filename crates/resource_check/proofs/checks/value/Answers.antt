use Rattle.check_steps.proofs.AskingLemmas.{ends_asking_nothing, ends_so}
use Rattle.resource_check.proofs.checks.value.Goals as goal

pub returns-in_err-name-in-Route-clause-asked : goal.returns-in_err-name-in-Route-clause-asked
returns-in_err-name-in-Route-clause-asked g c = ends_asking_nothing _ _

pub returns-in_err-value-in-Cluster-clause-asked : goal.returns-in_err-value-in-Cluster-clause-asked
returns-in_err-value-in-Cluster-clause-asked g c = ends_asking_nothing _ _

pub returns-in_err-new-in-Cluster-clause-asked : goal.returns-in_err-new-in-Cluster-clause-asked
returns-in_err-new-in-Cluster-clause-asked g c = ends_asking_nothing _ _

pub returns-in_err-value-in-Endpoint-clause-asked : goal.returns-in_err-value-in-Endpoint-clause-asked
returns-in_err-value-in-Endpoint-clause-asked g c = ends_asking_nothing _ _

pub returns-in_err-new-in-Endpoint-clause-asked : goal.returns-in_err-new-in-Endpoint-clause-asked
returns-in_err-new-in-Endpoint-clause-asked g c = ends_asking_nothing _ _

pub returns-in_ok-new-in-Cluster-clause-asked : goal.returns-in_ok-new-in-Cluster-clause-asked
returns-in_ok-new-in-Cluster-clause-asked g c = ends_asking_nothing _ _

pub returns-in_ok-new-in-Endpoint-clause-asked : goal.returns-in_ok-new-in-Endpoint-clause-asked
returns-in_ok-new-in-Endpoint-clause-asked g c = ends_asking_nothing _ _

pub returns-in_err-new-in-Listener-clause-asked : goal.returns-in_err-new-in-Listener-clause-asked
returns-in_err-new-in-Listener-clause-asked g c = ends_so c.in_ok-value-in-Listener.ensures.asked

pub returns-in_err-new-in-Route-clause-asked : goal.returns-in_err-new-in-Route-clause-asked
returns-in_err-new-in-Route-clause-asked g c = ends_so c.in_ok-value-in-Route.ensures.asked
