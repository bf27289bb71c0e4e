use Rattle.test_stack_threads.proofs.receipts.an_inbox_learns_a_receipt.Given as goal

abbrev pub ghosts-tell_an_inbox : goal.ghosts-tell_an_inbox
ghosts-tell_an_inbox g a = record { table = a.party.table }
