use Rattle.book_streams.proofs.PlaceLemmas.{ended_all}
use Rattle.book_streams.proofs.all_streams.Streams.end.Goals as goal

pub returns-clause-after : goal.returns-clause-after
returns-clause-after c = λ s came past turns is. ended_all s came past c.args.self.now.states c.lose.new.self.states c.args.authority turns is c.requires c.lose.ensures.state
