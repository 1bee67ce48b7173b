use Rattle.client_tests.proofs.aggregate_expand_tests.leaves_of.Given as goal

abbrev pub ghosts-leaves_counted : goal.ghosts-leaves_counted
ghosts-leaves_counted a = record { name = a.blank.name; parts = a.blank.parts }
