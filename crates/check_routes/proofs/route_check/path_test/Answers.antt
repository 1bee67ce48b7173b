use Rattle.check_steps.proofs.AskingLemmas.{ends_asking_nothing}
use Rattle.check_routes.proofs.route_check.path_test.Goals as goal

pub returns-in_err-text-in-Some-Prefix-clause-asked : goal.returns-in_err-text-in-Some-Prefix-clause-asked
returns-in_err-text-in-Some-Prefix-clause-asked g c = ends_asking_nothing _ _

pub returns-in_err-text-in-Some-Path-clause-asked : goal.returns-in_err-text-in-Some-Path-clause-asked
returns-in_err-text-in-Some-Path-clause-asked g c = ends_asking_nothing _ _

pub returns-in_ok-text-in-Some-Prefix-clause-asked : goal.returns-in_ok-text-in-Some-Prefix-clause-asked
returns-in_ok-text-in-Some-Prefix-clause-asked g c = ends_asking_nothing _ _

pub returns-in_ok-text-in-Some-Path-clause-asked : goal.returns-in_ok-text-in-Some-Path-clause-asked
returns-in_ok-text-in-Some-Path-clause-asked g c = ends_asking_nothing _ _

pub returns-in-None-clause-asked : goal.returns-in-None-clause-asked
returns-in-None-clause-asked g c = ends_asking_nothing _ _
