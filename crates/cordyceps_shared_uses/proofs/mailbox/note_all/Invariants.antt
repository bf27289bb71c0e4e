use Rattle.std.proofs.Common.{◌≡◌, ◌++◌, map}
use Rattle.cordyceps_shared_uses.specs.Mailbox.{value_of}
use Rattle.cordyceps_shared_uses.proofs.mailbox.note_all.Given as goal

abbrev pub invariant-loop-letter : goal.invariant-loop-letter
invariant-loop-letter l = l.received.items ++ map value_of l.letter-iterator ≡ l.initial.received.items ++ map value_of l.fn.letters
