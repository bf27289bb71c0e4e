use Rattle.std.proofs.Common.{Some}
use Rattle.cordyceps_queue.proofs.cores.machine.Machine.new.Goals as goal

pub returns : goal.returns
returns g c = λ i. record { head = 0; right = Some 0; rooms = c.new.ensures i; parties = c.new-2.ensures.items i }
