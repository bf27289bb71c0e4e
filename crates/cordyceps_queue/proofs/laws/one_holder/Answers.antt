use Rattle.cordyceps_queue.proofs.PartyOrder.{one_holder}
use Rattle.cordyceps_queue.proofs.laws.one_holder.Goals as goal

pub returns : goal.returns
returns g c = one_holder g.row.P.Denot g.row.E.Denot
