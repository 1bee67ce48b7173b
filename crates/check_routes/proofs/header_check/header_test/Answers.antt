use Rattle.check_steps.proofs.AskingLemmas.{ends_asking_nothing}
use Rattle.check_routes.proofs.header_check.header_test.Goals as goal

pub returns-in_err-clone-in-Some-ExactMatch-clause-asked : goal.returns-in_err-clone-in-Some-ExactMatch-clause-asked
returns-in_err-clone-in-Some-ExactMatch-clause-asked g c = ends_asking_nothing _ _

pub returns-in_err-clone-in-Some-PrefixMatch-clause-asked : goal.returns-in_err-clone-in-Some-PrefixMatch-clause-asked
returns-in_err-clone-in-Some-PrefixMatch-clause-asked g c = ends_asking_nothing _ _

pub returns-in_err-clone-in-Some-SuffixMatch-clause-asked : goal.returns-in_err-clone-in-Some-SuffixMatch-clause-asked
returns-in_err-clone-in-Some-SuffixMatch-clause-asked g c = ends_asking_nothing _ _

pub returns-in_err-clone-in-Some-ContainsMatch-clause-asked : goal.returns-in_err-clone-in-Some-ContainsMatch-clause-asked
returns-in_err-clone-in-Some-ContainsMatch-clause-asked g c = ends_asking_nothing _ _

pub returns-in_ok-clone-in-Some-ExactMatch-clause-asked : goal.returns-in_ok-clone-in-Some-ExactMatch-clause-asked
returns-in_ok-clone-in-Some-ExactMatch-clause-asked g c = ends_asking_nothing _ _

pub returns-in_ok-clone-in-Some-PrefixMatch-clause-asked : goal.returns-in_ok-clone-in-Some-PrefixMatch-clause-asked
returns-in_ok-clone-in-Some-PrefixMatch-clause-asked g c = ends_asking_nothing _ _

pub returns-in_ok-clone-in-Some-SuffixMatch-clause-asked : goal.returns-in_ok-clone-in-Some-SuffixMatch-clause-asked
returns-in_ok-clone-in-Some-SuffixMatch-clause-asked g c = ends_asking_nothing _ _

pub returns-in_ok-clone-in-Some-ContainsMatch-clause-asked : goal.returns-in_ok-clone-in-Some-ContainsMatch-clause-asked
returns-in_ok-clone-in-Some-ContainsMatch-clause-asked g c = ends_asking_nothing _ _

pub returns-in-None-clause-asked : goal.returns-in-None-clause-asked
returns-in-None-clause-asked g c = ends_asking_nothing _ _

pub returns-in-Some-RangeMatch-clause-asked : goal.returns-in-Some-RangeMatch-clause-asked
returns-in-Some-RangeMatch-clause-asked g c = ends_asking_nothing _ _

pub returns-in-Some-PresentMatch-clause-asked : goal.returns-in-Some-PresentMatch-clause-asked
returns-in-Some-PresentMatch-clause-asked g c = ends_asking_nothing _ _
