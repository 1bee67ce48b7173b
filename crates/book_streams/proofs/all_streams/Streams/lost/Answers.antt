use Rattle.std.proofs.Common.{◌∙◌}
use Rattle.book_streams.proofs.PlaceLemmas.{ended_all, lost_turns, lost_verdict}
use Rattle.book_streams.proofs.all_streams.Streams.lost.Goals as goal

pub returns-clause-verdict : goal.returns-clause-verdict
returns-clause-verdict c = λ s past refused is. c.verdict_if.ensures ∙ lost_verdict s past c.args.self.now.states c.args.authority refused c.lose-was_up.result is c.requires c.lose-was_up.ensures.was_up

pub returns-clause-after : goal.returns-clause-after
returns-clause-after c = λ s came past event is. ended_all s came past c.args.self.now.states c.lose-was_up.new.self.states c.args.authority (lost_turns came c.args.authority event) is c.requires c.lose-was_up.ensures.state
