use Rattle.cordyceps_shared_uses.proofs.Scheduling.{came_given}
use Rattle.cordyceps_shared_uses.proofs.scheduler.threads.dispatch_one.Goals as goal

pub returns : goal.returns
returns g c = came_given c.take_in.ensures.came c.rooms-rooms.result c.give_back.result c.give_back.new.party c.give_back.ensures.answer
