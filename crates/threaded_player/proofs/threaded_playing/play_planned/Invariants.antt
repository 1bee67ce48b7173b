use Rattle.std.proofs.Common.{Some}
use Rattle.threaded_player.proofs.threaded_playing.play_planned.Given as goal

abbrev pub ghosts-play_by-J-Job : goal.ghosts-play_by-J-Job
ghosts-play_by-J-Job g a = record {
  plan = Some a.staging.plan.actors;
  archive = a.staging.archive;
  boot = a.staging.session.now.boot;
  target = a.staging.session.now.target;
}

abbrev pub ghosts-play_by-L-Ledger : goal.ghosts-play_by-L-Ledger
ghosts-play_by-L-Ledger g a = record { name = a.blank.name; parts = a.blank.parts }
