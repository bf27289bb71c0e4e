use Rattle.cordyceps_queue.proofs.shared.pool.give_back.Given as goal

abbrev pub ghosts-put : goal.ghosts-put
ghosts-put g a = record { rooms = a.rooms }
