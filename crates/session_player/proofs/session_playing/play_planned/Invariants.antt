use Rattle.std.proofs.Common.{Some}
use Rattle.session_player.proofs.session_playing.play_planned.Given as goal

abbrev pub ghosts-play_by-J-Job : goal.ghosts-play_by-J-Job
ghosts-play_by-J-Job g a = record {
  plan = Some a.script.now.plan.now.actors;
  archive = a.archive;
  boot = a.script.now.session.now.boot;
  target = a.script.now.session.now.target;
}

abbrev pub ghosts-play_by-L-Ledger : goal.ghosts-play_by-L-Ledger
ghosts-play_by-L-Ledger g a = record { name = a.blank.name; parts = a.blank.parts }
