use Rattle.test_schedulers.proofs.schedules.the_shorter_pause_ends_first.Given as goal

abbrev pub ghosts-run_alone : goal.ghosts-run_alone
ghosts-run_alone g a = record { accounts = a.accounts.now.table }
