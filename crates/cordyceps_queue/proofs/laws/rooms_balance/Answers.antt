use Rattle.cordyceps_queue.proofs.SharedTheory.PartyBalances.{calls_balance, no_room_is_lost}
use Rattle.cordyceps_queue.proofs.laws.rooms_balance.Goals as goal

pub returns-clause-calls : goal.returns-clause-calls
returns-clause-calls g c = calls_balance

pub returns-clause-none_lost : goal.returns-clause-none_lost
returns-clause-none_lost g c = no_room_is_lost
