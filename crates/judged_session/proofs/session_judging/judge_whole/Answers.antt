use Rattle.std.proofs.Common.{rules, ◌∙◌, Err, ap, length}
use Rattle.report_replay.specs.xds_book.BookKept.{HasActors}
use Rattle.closed_book.specs.declared.stops.Stop.{Stop}
use Rattle.judged_session.proofs.JudgeLemmas.{found_by}
use Rattle.judged_session.proofs.PlayedOutLemmas.{first_is_driver, is_ready, mistake_of, some_lanes}
use Rattle.judged_session.proofs.WrongLines.{compared_apart}
use Rattle.judged_session.proofs.session_judging.judge_whole.Goals as goal

pub split_lanes-lanes-requires : goal.split_lanes-lanes-requires
split_lanes-lanes-requires g c =
    let actors : HasActors g.J.Job.plan (length c.args.book.counts) = search (rules, c.actors-actors.ensures.plan, c.actors-actors.ensures.counts) in
    record { some = some_lanes g.J.Job.plan g.J.Job.boot g.J.Job.target c.args.trial.session.now c.args.trial.plan.actors c.args.book c.args.lanes.items c.requires.of actors c.requires.played }

pub report-requires-clause-driver : goal.report-requires-clause-driver
report-requires-clause-driver g c κs within = first_is_driver c.args.trial.plan.actors c.args.book c.split_lanes-lanes.result.driver c.split_lanes-lanes.result.callers c.args.lanes.items c.split_lanes-lanes.ensures.lanes c.requires.played

pub unreachable-requires : goal.unreachable-requires
unreachable-requires g c =
    let actors : HasActors g.J.Job.plan (length c.args.book.counts) = search (rules, c.actors-actors.ensures.plan, c.actors-actors.ensures.counts) in
    c.report.ensures.plays
    (is_ready g.J.Job.plan g.J.Job.boot g.J.Job.target c.args.trial.session.now c.args.trial.plan.actors c.args.book c.split_lanes-lanes.result.driver c.split_lanes-lanes.result.callers c.args.lanes.items c.requires.of actors
    c.actors-actors.ensures.played c.split_lanes-lanes.ensures.lanes c.requires.played)
    (c.in-Err-Strange.is ∙ ap (λ (stop : Stop). Err stop) c.in-Err-Strange.field-0-is)

pub compare-requires-clause-legal : goal.compare-requires-clause-legal
compare-requires-clause-legal g c = c.in-Ok.ensures.legal c.args.trial.session.now c.requires.of

pub compare-requires-clause-snapshots : goal.compare-requires-clause-snapshots
compare-requires-clause-snapshots g c = c.in-Ok.ensures.snapshots c.args.trial.session.now c.requires.of

pub returns-clause-above : goal.returns-clause-above
returns-clause-above g c =
    mistake_of c.args.trial.session.now c.in-Ok.played.journal.entries c.args.trial.report.now c.compare.result (c.in-Ok.ensures.legal c.args.trial.session.now c.requires.of) c.compare.ensures.above

pub returns-clause-found : goal.returns-clause-found
returns-clause-found g c =
    found_by c.args.trial.session.now c.args.book c.in-Ok.played.journal.entries c.args.trial.report.now c.compare.result c.requires.of.formed.lines (c.in-Ok.ensures.legal c.args.trial.session.now c.requires.of) c.in-Ok.ensures.past
    c.compare.ensures.same

pub returns-clause-wrong : goal.returns-clause-wrong
returns-clause-wrong g c =
    compared_apart c.args.trial.session.now c.args.trial.report.now c.args.book c.in-Ok.played.journal.entries c.compare.result c.requires.of.formed.lines (c.in-Ok.ensures.legal c.args.trial.session.now c.requires.of) c.in-Ok.ensures.past
    c.compare.ensures.differs
