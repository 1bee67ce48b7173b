use Rattle.client_tests.proofs.dep_manager_tests.first_updates.Given as goal

abbrev pub ghosts-update_counted : goal.ghosts-update_counted
ghosts-update_counted a = record { name = a.blank.name; parts = a.blank.parts }
