use Rattle.cordyceps_shared_uses.proofs.scheduler.accounts.Accounts.audit.Given as goal

abbrev pub ghosts-learn : goal.ghosts-learn
ghosts-learn a = record { parts = a.self.now.parts; name = record { id = 0; number = 0; rounds = 0; pause = 0; ran = 0 } }
