use Rattle.cordyceps_stack.proofs.shared.pool.give_rest.Given as goal

abbrev pub ghosts-put_rest : goal.ghosts-put_rest
ghosts-put_rest g a = record { rooms = a.rooms }
