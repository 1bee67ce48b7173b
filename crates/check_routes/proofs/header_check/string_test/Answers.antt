use Rattle.check_steps.proofs.AskingLemmas.{ends_asking_nothing}
use Rattle.check_routes.proofs.header_check.string_test.Goals as goal

pub returns-in_err-clone-in-Some-Exact-clause-asked : goal.returns-in_err-clone-in-Some-Exact-clause-asked
returns-in_err-clone-in-Some-Exact-clause-asked g c = ends_asking_nothing _ _

pub returns-in_err-clone-in-Some-Prefix-clause-asked : goal.returns-in_err-clone-in-Some-Prefix-clause-asked
returns-in_err-clone-in-Some-Prefix-clause-asked g c = ends_asking_nothing _ _

pub returns-in_err-clone-in-Some-Suffix-clause-asked : goal.returns-in_err-clone-in-Some-Suffix-clause-asked
returns-in_err-clone-in-Some-Suffix-clause-asked g c = ends_asking_nothing _ _

pub returns-in_err-clone-in-Some-Contains-clause-asked : goal.returns-in_err-clone-in-Some-Contains-clause-asked
returns-in_err-clone-in-Some-Contains-clause-asked g c = ends_asking_nothing _ _

pub returns-in_ok-clone-in-Some-Exact-clause-asked : goal.returns-in_ok-clone-in-Some-Exact-clause-asked
returns-in_ok-clone-in-Some-Exact-clause-asked g c = ends_asking_nothing _ _

pub returns-in_ok-clone-in-Some-Prefix-clause-asked : goal.returns-in_ok-clone-in-Some-Prefix-clause-asked
returns-in_ok-clone-in-Some-Prefix-clause-asked g c = ends_asking_nothing _ _

pub returns-in_ok-clone-in-Some-Suffix-clause-asked : goal.returns-in_ok-clone-in-Some-Suffix-clause-asked
returns-in_ok-clone-in-Some-Suffix-clause-asked g c = ends_asking_nothing _ _

pub returns-in_ok-clone-in-Some-Contains-clause-asked : goal.returns-in_ok-clone-in-Some-Contains-clause-asked
returns-in_ok-clone-in-Some-Contains-clause-asked g c = ends_asking_nothing _ _

pub returns-in-None-clause-asked : goal.returns-in-None-clause-asked
returns-in-None-clause-asked g c = ends_asking_nothing _ _
