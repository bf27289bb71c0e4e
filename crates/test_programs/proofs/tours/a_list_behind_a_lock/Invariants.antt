use Rattle.test_programs.proofs.tours.a_list_behind_a_lock.Given as goal

abbrev pub ghosts-submits_and_takes : goal.ghosts-submits_and_takes
ghosts-submits_and_takes g a = record { name = a.blank.name; parts = 1 }
