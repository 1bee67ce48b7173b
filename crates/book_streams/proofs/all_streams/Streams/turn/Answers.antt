use Rattle.std.proofs.Common.{◌<◌, length, sym, subst}
use Rattle.std.specs.Prelude.{IfSome}
use Rattle.book_streams.proofs.PlaceLemmas.{unanswered_none, unanswered_some}
use Rattle.book_streams.proofs.all_streams.Streams.turn.Goals as goal

pub returns-in-None-clause-after : goal.returns-in-None-clause-after
returns-in-None-clause-after c = λ s past refused unanswered is. unanswered_none s past refused c.args.self.now.states c.args.event.now c.args.verdict (sym c.in-None.ensures) is

pub returns-in-Some-clause-after : goal.returns-in-Some-clause-after
returns-in-Some-clause-after c = λ s past refused unanswered is.
    unanswered_some s past refused c.args.self.now.states c.turn_at.new.self.states c.args.event.now c.args.verdict c.in-Some.authority _ (sym c.in-Some.ensures)
    (subst (λ o. IfSome o (λ a. a.0 < length c.args.self.now.states)) (sym c.in-Some.ensures) c.requires)
    unanswered c.turn_by-turn.ensures is c.turn_at.ensures.state
