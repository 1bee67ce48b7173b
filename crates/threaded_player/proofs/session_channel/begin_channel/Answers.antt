use Rattle.closed_book.proofs.session_player.ScriptLemmas.{actors_of}
use Rattle.threaded_player.proofs.NextEvents.{plan_fits}
use Rattle.threaded_player.proofs.session_channel.begin_channel.Goals as goal

pub begin-requires-clause-actors : goal.begin-requires-clause-actors
begin-requires-clause-actors g c = actors_of g.J.Job.plan g.J.Job.boot g.J.Job.target c.args.session.now c.args.plan.now.actors c.requires.of

pub begin-requires-clause-plan : goal.begin-requires-clause-plan
begin-requires-clause-plan g c = plan_fits g.J.Job.plan g.J.Job.boot g.J.Job.target c.args.session.now c.args.plan.now.actors c.room-room.result c.requires.of c.room-room.ensures.count
