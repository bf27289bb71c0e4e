use Rattle.cordyceps_queue.proofs.BothWays.{legal_both_ways, blocked_both_ways, was_blocked_both_ways}
use Rattle.cordyceps_queue.proofs.laws.both_ways.Goals as goal

pub returns : goal.returns
returns g c = record { legal = legal_both_ways g.row.P.Denot g.row.E.Denot; blocked = blocked_both_ways g.row.P.Denot g.row.E.Denot; was_blocked = was_blocked_both_ways g.row.P.Denot g.row.E.Denot }
