use Rattle.threaded_player.proofs.driver_part.drive_with.Given as goal

abbrev pub ghosts-drive : goal.ghosts-drive
ghosts-drive g a = record { name = a.blank.name; parts = a.blank.parts }
