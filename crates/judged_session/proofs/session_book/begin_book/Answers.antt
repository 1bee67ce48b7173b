use Rattle.std.proofs.Common.{◌≡◌, ◌+◌, List}
use Rattle.report_replay.proofs.session_player.ScriptLemmas.{actors_of}
use Rattle.report_replay.specs.xds_book.BookEntries.{first_book}
use Rattle.report_replay.specs.xds_book.BookViews.{BookView, LaneView}
use Rattle.report_replay.proofs.PlayLemmas.{if_ok}
use Rattle.judged_session.specs.JudgedTurns.{IsFirst}
use Rattle.judged_session.proofs.session_book.begin_book.Goals as goal

pub begin-requires-clause-plan : goal.begin-requires-clause-plan
begin-requires-clause-plan g c = actors_of g.J.Job.plan g.J.Job.boot g.J.Job.target c.args.session.now c.args.plan.now.actors c.requires.of

pub returns-clause-book : goal.returns-clause-book
returns-clause-book g c =
    if_ok (λ (begun : BookView × List LaneView). begun.0 ≡ first_book (c.args.session.now.callers + 1) c.room-room.result) (λ (begun : BookView × List LaneView). IsFirst c.args.session.now.callers begun.0) c.begin.result
    (λ begun is. record { room = c.room-room.result; is = is }) c.begin.ensures.book
