use Rattle.book_driver.proofs.StillLemmas as lemmas
use Rattle.book_driver.proofs.driver_laws.still_repeats.Goals as goal

pub returns : goal.returns
returns c = lemmas.still_repeats
