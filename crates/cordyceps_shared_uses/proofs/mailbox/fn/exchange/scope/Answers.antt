use Rattle.std.proofs.Common.{rules}
use Rattle.std.proofs.lemmas.Result.{IfOk-at_ok}
use Rattle.cordyceps.proofs.Queues.PartyMoves.{moves_ring}
use Rattle.cordyceps.proofs.Queues.Sending.{then_nothing}
use Rattle.cordyceps_shared_uses.specs.Mailbox.{value_of}
use Rattle.cordyceps_shared_uses.proofs.mailbox.fn.exchange.scope.Goals as goal

pub returns : goal.returns
returns g c =
    let (all, delivers, moves) = IfOk-at_ok _ c.in_ok-result.was c.send_each-party.ensures.sent in
    let w = c.ring.new.party in
    record {
      received = search rules;
      sent = (all, delivers, then_nothing value_of w moves (moves_ring value_of c.send_each-party.result.party w c.ring.ensures));
    }
