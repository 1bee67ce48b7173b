use Rattle.check_steps.proofs.AskingLemmas.{ends_asking_nothing}
use Rattle.check_routes.proofs.route_check.kept_route.Goals as goal

pub returns-then-is_left_out-clause-asked : goal.returns-then-is_left_out-clause-asked
returns-then-is_left_out-clause-asked g c = ends_asking_nothing _ _
