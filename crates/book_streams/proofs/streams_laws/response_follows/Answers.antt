use Rattle.book_streams.proofs.TurnLemmas.{response_follows}
use Rattle.book_streams.proofs.streams_laws.response_follows.Goals as goal

pub returns : goal.returns
returns c = response_follows
