use Rattle.cordyceps_stack.proofs.shared.parting.split.Given as goal

abbrev pub ghosts-cut : goal.ghosts-cut
ghosts-cut g a = record { rooms = a.rooms }
