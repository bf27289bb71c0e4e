use Rattle.std.proofs.Common.{[], ◌∙◌}
use Rattle.std.proofs.lemmas.Result.{IfOk-weaker}
use Rattle.cordyceps.specs.Queues.Moves.{Moves}
use Rattle.cordyceps.proofs.Queues.PartyMoves.{moves_gave_all}
use Rattle.cordyceps.proofs.Queues.Sending.{then_nothing}
use Rattle.cordyceps_shared_uses.specs.Mailbox.{value_of}
use Rattle.cordyceps_shared_uses.proofs.mailbox.send_all.Goals as goal

pub give_all_back_waiting-requires : goal.give_all_back_waiting-requires
give_all_back_waiting-requires g c = c.send_values-result.ensures.table

pub returns-clause-table : goal.returns-clause-table
returns-clause-table g c = c.give_all_back_waiting.ensures.same.0 ∙ c.send_values-result.ensures.table

pub returns-clause-sent : goal.returns-clause-sent
returns-clause-sent g c =
    let v = c.send_values-result.new.party in
    let w = c.give_all_back_waiting.new.party in
    IfOk-weaker c.send_values-result.result (λ _. Moves value_of c.args.values.now [] c.args.party v) (λ _. Moves value_of c.args.values.now [] c.args.party w)
    (λ _ sent. then_nothing value_of w sent (moves_gave_all value_of v w c.give_all_back_waiting.ensures.answer)) c.send_values-result.ensures.sent
