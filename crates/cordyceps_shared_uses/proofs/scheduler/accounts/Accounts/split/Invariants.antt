use Rattle.cordyceps_shared_uses.proofs.scheduler.accounts.Accounts.split.Given as goal

abbrev pub ghosts-cut : goal.ghosts-cut
ghosts-cut a = record { parts = a._parts; name = record { id = 0; number = 0; rounds = 0; pause = 0; ran = 0 } }
