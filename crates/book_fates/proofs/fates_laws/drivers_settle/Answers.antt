use Rattle.book_fates.proofs.PageLemmas.{drivers_settle}
use Rattle.book_fates.proofs.fates_laws.drivers_settle.Goals as goal

pub returns : goal.returns
returns c = drivers_settle
