use Rattle.book_driver.proofs.StillLemmas as lemmas
use Rattle.book_driver.proofs.driver_laws.streams_are_all.Goals as goal

pub returns : goal.returns
returns c = lemmas.streams_are_all
