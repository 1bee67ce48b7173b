use Rattle.std.proofs.Common.{◌≡◌, refl}
use Rattle.session_player.proofs.BeginLemmas.{legal_end, stands_begin}
use Rattle.session_player.proofs.ScriptLemmas.{actors_of}
use Rattle.session_player.proofs.session_playing.play_by.Goals as goal

pub begin-requires-clause-plan : goal.begin-requires-clause-plan
begin-requires-clause-plan g c = actors_of g.J.Job.plan g.J.Job.boot g.J.Job.target c.args.script.now.session.now c.args.script.now.plan.now.actors c.requires.of

pub play-requires-clause-stands : goal.play-requires-clause-stands
play-requires-clause-stands g c = λ _ _.
    stands_begin c.args.script.now.session.now c.in_ok-stage.stage c.requires.of.formed c.in_ok-stage.ensures.goes c.in_ok-stage.ensures.entries

pub returns-clause-legal : goal.returns-clause-legal
returns-clause-legal g c =
    legal_end g.J.Job.plan g.J.Job.boot g.J.Job.target c.args.script.now.session.now c.args.script.now.plan.now.actors c.play.new.stage c.finish-journal.result.0.entries c.requires.of c.in_ok-play.ensures.stands
    c.finish-journal.ensures.entries c.finish-journal.ensures.right c.finish-journal.ensures.played c.finish-journal.ensures.made
