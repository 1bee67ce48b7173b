use Rattle.book_fates.proofs.QuietLemmas.{quiet_stays}
use Rattle.book_fates.proofs.fates_laws.quiet_stays.Goals as goal

pub returns : goal.returns
returns c = quiet_stays
