use Rattle.std.proofs.Common.{ap, ◌∙◌}
use Rattle.call_journal.specs.declared.plan.Plan.{Plan}
use Rattle.threaded_player.proofs.DriverTexts.{if_more}
use Rattle.threaded_player.proofs.NextEvents.{of_same}
use Rattle.threaded_player.proofs.threaded_playing.play_by.Goals as goal

pub returns-clause-legal : goal.returns-clause-legal
returns-clause-legal g c =
    let of = of_same g.J.Job.plan g.J.Job.boot g.J.Job.target c.args.staging.session.now c.args.staging.plan.actors c.in_ok-closed.closed.plan.actors c.requires.of
    (ap (λ (p : Plan). p.actors) (c.in_ok-closed.ensures ∙ c.in_ok-players.ensures.plan)) in
    if_more _ _ c.report.result (λ played legal. legal c.args.staging.session.now of) c.report.ensures.legal

pub returns-clause-snapshots : goal.returns-clause-snapshots
returns-clause-snapshots g c =
    let of = of_same g.J.Job.plan g.J.Job.boot g.J.Job.target c.args.staging.session.now c.args.staging.plan.actors c.in_ok-closed.closed.plan.actors c.requires.of
    (ap (λ (p : Plan). p.actors) (c.in_ok-closed.ensures ∙ c.in_ok-players.ensures.plan)) in
    if_more _ _ c.report.result (λ played shown. shown c.args.staging.session.now of) c.report.ensures.snapshots
