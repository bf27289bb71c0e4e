use Rattle.test_stack_threads.proofs.receipts.who_was_told_takes_each_element.Given as goal

abbrev pub ghosts-tell_another : goal.ghosts-tell_another
ghosts-tell_another g a = record { table = a.party.table }
