use Rattle.std.proofs.Common.{Some}
use Rattle.thread_tests.proofs.stranger_tests.a_lane_of_another_channel_is_a_stranger.Given as goal

abbrev pub ghosts-knows_stranger-J-Job : goal.ghosts-knows_stranger-J-Job
ghosts-knows_stranger-J-Job g a = record {
  plan = Some a.setup.plan.now.actors;
  archive = a.setup.archive;
  boot = a.setup.session.now.boot;
  target = a.setup.session.now.target;
}

abbrev pub ghosts-knows_stranger-L-Ledger : goal.ghosts-knows_stranger-L-Ledger
ghosts-knows_stranger-L-Ledger g a = record { name = a.blank.name; parts = a.blank.parts }
