use Rattle.std.proofs.lemmas.List.{nil_from_length}
use Rattle.book_calls.proofs.CallsProofs.{calls_stay, not_false}
use Rattle.book_calls.proofs.calls.Calls.may_differ.Goals as goal

pub returns : goal.returns
returns c = λ archive s past right kept is.
    calls_stay archive s past c.args.self.now c.is_empty.result (λ none. nil_from_length c.args.self.now.pins.entries (c.is_empty.ensures.0 none)) right kept c.if-not-self.false c.if-not-self-2.false
    (not_false c.is_empty.result is)
