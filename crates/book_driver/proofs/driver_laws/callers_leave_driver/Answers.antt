use Rattle.book_driver.proofs.SteppedLemmas as lemmas
use Rattle.book_driver.proofs.driver_laws.callers_leave_driver.Goals as goal

pub returns : goal.returns
returns c = lemmas.callers_leave_driver
