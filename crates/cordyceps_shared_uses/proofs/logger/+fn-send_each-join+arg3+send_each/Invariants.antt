use Rattle.std.proofs.Common.{length, ◌+◌, ◌*◌}
use Rattle.cordyceps_shared_uses.proofs.logger.+fn-send_each-join+arg3+send_each.Given as goal

abbrev pub decreases-join+arg3 : goal.decreases-join+arg3
decreases-join+arg3 g l = 2 * length l.producers + 1

abbrev pub decreases-send_each : goal.decreases-send_each
decreases-send_each g l = 2 * length l.producers
