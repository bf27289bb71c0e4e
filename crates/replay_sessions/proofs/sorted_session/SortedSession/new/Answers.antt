use Rattle.std.proofs.Common.{◌/◌}
use Rattle.cordyceps_tables.proofs.Keys.{computes_by}
use Rattle.replay_sessions.specs.Tens.{by_tens}
use Rattle.replay_sessions.proofs.sorted_session.SortedSession.new.Goals as goal

pub new-requires-clause-total : goal.new-requires-clause-total
new-requires-clause-total g c = (by_tens, computes_by (λ x. x.value / 10) g.F.Fn c.args.by c.requires.tens)
