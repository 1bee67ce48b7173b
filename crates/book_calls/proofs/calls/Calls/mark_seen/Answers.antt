use Rattle.std.proofs.lemmas.List.{nil_from_length}
use Rattle.book_calls.proofs.CallsProofs.{calls_seen}
use Rattle.book_calls.proofs.calls.Calls.mark_seen.Goals as goal

pub returns-clause-kept : goal.returns-clause-kept
returns-clause-kept c = λ archive s past actor line event reply right none kept.
    calls_seen archive s past actor line event reply c.args.self.now c.is_empty-self.result right none (λ is. nil_from_length c.args.self.now.pins.entries (c.is_empty-self.ensures.0 is)) kept
