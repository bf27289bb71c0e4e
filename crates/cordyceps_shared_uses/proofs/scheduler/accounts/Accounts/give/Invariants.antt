use Rattle.cordyceps_shared_uses.proofs.scheduler.accounts.Accounts.give.Given as goal

abbrev pub ghosts-hand_over : goal.ghosts-hand_over
ghosts-hand_over a = record { parts = 0; name = a._name }
