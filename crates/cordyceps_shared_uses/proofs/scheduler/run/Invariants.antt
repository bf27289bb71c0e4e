use Rattle.cordyceps_shared_uses.proofs.scheduler.run.Given as goal

abbrev pub ghosts-run_in : goal.ghosts-run_in
ghosts-run_in g a = record { accounts = a.accounts.table }
