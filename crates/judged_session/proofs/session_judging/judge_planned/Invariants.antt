use Rattle.std.proofs.Common.{Some}
use Rattle.judged_session.proofs.session_judging.judge_planned.Given as goal

abbrev pub ghosts-judge_by-J-Job : goal.ghosts-judge_by-J-Job
ghosts-judge_by-J-Job g a = record {
  plan = Some a.trial.plan.actors;
  archive = a.archive;
  boot = a.trial.session.now.boot;
  target = a.trial.session.now.target;
}

abbrev pub ghosts-judge_by-L-Ledger : goal.ghosts-judge_by-L-Ledger
ghosts-judge_by-L-Ledger g a = record { name = a.blank.name; parts = a.blank.parts }
