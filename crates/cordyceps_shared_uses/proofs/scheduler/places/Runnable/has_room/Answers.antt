use Rattle.std.proofs.Common.{rules}
use Rattle.cordyceps_shared_uses.proofs.scheduler.places.Runnable.has_room.Goals as goal

pub returns : goal.returns
returns g c = search rules
