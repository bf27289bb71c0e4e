use Rattle.test_stack_threads.proofs.receipts.a_receipt_goes_between_parties.Given as goal

abbrev pub ghosts-tell_in_turn : goal.ghosts-tell_in_turn
ghosts-tell_in_turn g a = record { table = a.party.table }
