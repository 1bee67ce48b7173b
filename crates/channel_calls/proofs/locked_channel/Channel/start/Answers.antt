use Rattle.std.proofs.lemmas.Result.{err_from_is_err_and}
use Rattle.channel_calls.proofs.locked_channel.Channel.start.Goals as goal

pub returns-in_err-answer-clause-cause : goal.returns-in_err-answer-clause-cause
returns-in_err-answer-clause-cause g c =
    let p = err_from_is_err_and c.from_residual-in_err-answer.result c.from_residual-in_err-answer.ensures.1 in
    rw (p.1, p.2) (c.in_err-answer.ensures.cause c.pin.new.lane.count)
