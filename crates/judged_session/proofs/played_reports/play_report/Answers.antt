use Rattle.std.proofs.Common.{rules, List, length, subst, sym}
use Rattle.call_journal.specs.declared.plan.Listed.{Listed}
use Rattle.report_replay.specs.turn_player.TurnPlans.{SeatView}
use Rattle.report_replay.specs.xds_book.BookKept.{HasActors}
use Rattle.report_replay.specs.ReplayedTurns.{HasReplayed, IsLegalReplay, IsPlayedByAny, IsUnderWay}
use Rattle.judged_session.proofs.PlayedLemmas.{any_none, any_some, beside_none, beside_some, play_begins}
use Rattle.judged_session.proofs.PlayedOutLemmas.{all_played, first_is_under_way}
use Rattle.judged_session.proofs.played_reports.play_report.Goals as goal

pub returns-in-Some-clause-any : goal.returns-in-Some-clause-any
returns-in-Some-clause-any g c = λ session callers of first lanes_are.
    any_some c.args.trial.now.plan.actors c.play_all.new.book c.play_all.new.self.seats c.in_ok-mistake.mistake c.in-Some.mistake c.in-Some.is
    (subst (λ (lists : List (List Listed)). IsPlayedByAny lists c.play_all.new.book c.play_all.new.self.seats c.in_ok-mistake.mistake) c.new-replay.ensures.plan_is
    (c.in_ok-mistake.ensures.any
    (subst (λ (ss : List SeatView). IsUnderWay c.args.book.now ss) (sym c.new-replay.ensures.seats_are) (first_is_under_way callers c.args.book.now c.args.lanes c.in_ok-table.table first lanes_are c.in_ok-table.ensures))))

pub returns-in-Some-clause-beside : goal.returns-in-Some-clause-beside
returns-in-Some-clause-beside g c = λ session history callers number parts legal some first lanes_are same.
    let own : IsLegalReplay g.J.Job.plan g.J.Job.boot g.J.Job.target session history c.new-replay.result.plan =
    subst (λ (lists : List (List Listed)). IsLegalReplay g.J.Job.plan g.J.Job.boot g.J.Job.target session history lists) (sym c.new-replay.ensures.plan_is) legal in
    let begun : HasReplayed session history parts.parting 0 c.args.book.now c.new-replay.result =
    play_begins g.J.Job.plan g.J.Job.boot g.J.Job.target session history c.args.trial.now.plan.actors callers c.args.book.now c.args.lanes c.in_ok-table.table c.args.trial.now.report.now c.new-replay.result number parts legal some first
    lanes_are c.in_ok-table.ensures c.new-replay.ensures in
    beside_some session history parts.parting c.in_ok-mistake.mistake c.in-Some.mistake c.play_all.new.book c.play_all.new.self.seats c.in-Some.is
    (c.in_ok-mistake.ensures.replayed session history parts.parting own parts.listed begun same)

pub returns-in_ok-lanes-in-None-clause-any : goal.returns-in_ok-lanes-in-None-clause-any
returns-in_ok-lanes-in-None-clause-any g c = λ session callers of first lanes_are.
    let actors : HasActors g.J.Job.plan (length c.play_all.new.book.counts) = search (rules, c.actors-actors.ensures.plan, c.actors-actors.ensures.counts) in
    all_played g.J.Job.plan g.J.Job.boot g.J.Job.target session c.args.trial.now.plan.actors c.play_all.new.book c.play_all.new.self.seats c.in_ok-lanes-in-None.lanes.items of actors c.actors-actors.ensures.played
    (any_none c.args.trial.now.plan.actors c.play_all.new.book c.play_all.new.self.seats c.in_ok-mistake.mistake c.in-None.is
    (subst (λ (lists : List (List Listed)). IsPlayedByAny lists c.play_all.new.book c.play_all.new.self.seats c.in_ok-mistake.mistake) c.new-replay.ensures.plan_is
    (c.in_ok-mistake.ensures.any
    (subst (λ (ss : List SeatView). IsUnderWay c.args.book.now ss) (sym c.new-replay.ensures.seats_are) (first_is_under_way callers c.args.book.now c.args.lanes c.in_ok-table.table first lanes_are c.in_ok-table.ensures)))))
    c.in_ok-lanes-in-None.ensures

pub returns-in_ok-lanes-in-None-clause-beside : goal.returns-in_ok-lanes-in-None-clause-beside
returns-in_ok-lanes-in-None-clause-beside g c = λ session history callers number parts legal some first lanes_are same.
    let own : IsLegalReplay g.J.Job.plan g.J.Job.boot g.J.Job.target session history c.new-replay.result.plan =
    subst (λ (lists : List (List Listed)). IsLegalReplay g.J.Job.plan g.J.Job.boot g.J.Job.target session history lists) (sym c.new-replay.ensures.plan_is) legal in
    let begun : HasReplayed session history parts.parting 0 c.args.book.now c.new-replay.result =
    play_begins g.J.Job.plan g.J.Job.boot g.J.Job.target session history c.args.trial.now.plan.actors callers c.args.book.now c.args.lanes c.in_ok-table.table c.args.trial.now.report.now c.new-replay.result number parts legal some first
    lanes_are c.in_ok-table.ensures c.new-replay.ensures in
    beside_none session history parts.parting c.in_ok-mistake.mistake c.play_all.new.book c.play_all.new.self.seats (c.in_ok-mistake.ensures.replayed session history parts.parting own parts.listed begun same)
