use Rattle.cordyceps_queue.proofs.PartyOrder.{producers_in_order}
use Rattle.cordyceps_queue.proofs.laws.producers_in_order.Goals as goal

pub returns : goal.returns
returns g c = producers_in_order g.row.P.Denot g.row.E.Denot
