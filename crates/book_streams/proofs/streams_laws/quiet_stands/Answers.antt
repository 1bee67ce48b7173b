use Rattle.book_streams.proofs.QuietLemmas.{quiet_stands}
use Rattle.book_streams.proofs.streams_laws.quiet_stands.Goals as goal

pub returns : goal.returns
returns c = quiet_stands
