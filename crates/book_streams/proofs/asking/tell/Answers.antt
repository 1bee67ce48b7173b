use Rattle.xds_history.specs.Requests.{sent_to}
use Rattle.book_streams.specs.StreamsKept.{names_among}
use Rattle.book_streams.proofs.StepLemmas.{down_sends, down_stands}
use Rattle.book_streams.proofs.asking.tell.Goals as goal

pub returns-then-not-is_up-clause-sent : goal.returns-then-not-is_up-clause-sent
returns-then-not-is_up-clause-sent c = down_sends c.args.stream.now (names_among c.args.told.now c.args.authority) (sent_to c.args.authority) c.args.sent.now c.is_up.result c.is_up.ensures c.if-not-is_up.true

pub returns-then-not-is_up-clause-state : goal.returns-then-not-is_up-clause-state
returns-then-not-is_up-clause-state c = down_stands c.args.stream.now (names_among c.args.told.now c.args.authority) c.is_up.result c.is_up.ensures c.if-not-is_up.true
