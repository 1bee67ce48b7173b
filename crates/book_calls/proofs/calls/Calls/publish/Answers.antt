use Rattle.std.proofs.lemmas.List.{nil_from_length}
use Rattle.book_calls.proofs.CallsProofs.{calls_with_one}
use Rattle.book_calls.proofs.calls.Calls.publish.Goals as goal

pub returns-clause-kept : goal.returns-clause-kept
returns-clause-kept c = λ s past actor line event reply right made kept.
    calls_with_one c.args.archive.now s past actor line event reply c.args.self.now c.args.ticket c.push.new.self c.in_ok-latest.latest c.is_empty-self.result right made c.requires c.in_ok-push.ensures.ok c.in_ok-latest.ensures.ticket c.in_ok-latest.ensures.number
    c.in_ok-latest.ensures.names (λ is. nil_from_length c.args.self.now.pins.entries (c.is_empty-self.ensures.0 is)) kept
