use Rattle.cordyceps.proofs.Queues.PartyMoves.{moves_clear}
use Rattle.cordyceps_shared_uses.specs.Mailbox.{value_of}
use Rattle.cordyceps_shared_uses.proofs.mailbox.pause.Goals as goal

pub returns-then-not-is_cleared-clause-moves : goal.returns-then-not-is_cleared-clause-moves
returns-then-not-is_cleared-clause-moves g c = moves_clear value_of c.args.party.now c.clear_bell.new.party c.clear_bell.ensures
