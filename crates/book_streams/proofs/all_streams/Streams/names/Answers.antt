use Rattle.std.proofs.Common.{◌∙◌}
use Rattle.book_streams.proofs.StepLemmas.{all_sent, all_told}
use Rattle.book_streams.proofs.all_streams.Streams.names.Goals as goal

pub returns-clause-sent : goal.returns-clause-sent
returns-clause-sent c = λ s came past watched are is. c.in_ok-sent.ensures.sent ∙ all_sent s came past watched c.args.keys.now c.args.self.now.states are is

pub returns-clause-after : goal.returns-clause-after
returns-clause-after c = λ s actor line event reply past watched are is sent. c.in_ok-sent.ensures.state ∙ all_told s actor line event reply past watched c.args.keys.now c.args.self.now.states are is sent
