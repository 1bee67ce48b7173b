use Rattle.book_driver.proofs.StillLemmas as lemmas
use Rattle.book_driver.proofs.driver_laws.drivers_have_history.Goals as goal

pub returns : goal.returns
returns c = lemmas.drivers_have_history
