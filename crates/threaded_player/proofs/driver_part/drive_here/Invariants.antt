use Rattle.threaded_player.proofs.driver_part.drive_here.Given as goal

abbrev pub ghosts-drive_with : goal.ghosts-drive_with
ghosts-drive_with g a = record { name = a.patterns.ghost_name; told = g.P.Patterns.refused a.patterns.now }
