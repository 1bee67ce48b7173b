use Rattle.std.proofs.Common.{◌≡◌, ◌∙◌, ap}
use Rattle.std.specs.Option.{option_copied}
use Rattle.book_streams.specs.StreamsLaws.{error_in}
use Rattle.book_hearing.proofs.HeardLemmas.{answered_heard, told_is}
use Rattle.book_hearing.proofs.event_hearing.answer.Goals as goal

pub returns-clause-heard : goal.returns-clause-heard
returns-clause-heard c = λ s past event is are.
    let error_is : option_copied c.as_ref.result ≡ error_in c.args.response.parts = c.as_ref.ensures.value ∙ c.in_ok-error.ensures ∙ ap error_in c.as_slice-2.ensures in
    let told = told_is s past event c.args.response are (option_copied c.as_ref.result) error_is in
    answered_heard s past event c.args.response are c.in_ok-verdict.verdict c.in_ok-names.names c.response-2.new.self.states
    (c.in_ok-verdict.ensures.verdict s past are.payload are.response c.args.response.refused is told)
    (c.in_ok-verdict.ensures.after s past are.payload are.response c.args.response.refused is told)
