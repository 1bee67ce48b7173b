use Rattle.book_streams.proofs.PlaceLemmas.{opened_all}
use Rattle.book_streams.proofs.all_streams.Streams.opened.Goals as goal

pub returns-clause-after : goal.returns-clause-after
returns-clause-after c = λ s came past event is. opened_all s came past c.args.self.now.states c.open.new.self.states c.args.authority event is c.requires c.open.ensures.state
