use Rattle.judged_session.proofs.session_judging.judge_by.Given as goal

abbrev pub ghosts-play_report : goal.ghosts-play_report
ghosts-play_report g a = record { name = a.blank.name; parts = a.blank.parts }
