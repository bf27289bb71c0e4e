use Rattle.std.proofs.Common.{length}
use Rattle.cordyceps_channel.specs.Channels.{IsRegister}
use Rattle.cordyceps_channel.proofs.register.Register.collect.Given as goal

abbrev pub invariant-loop-home : goal.invariant-loop-home
invariant-loop-home g l = IsRegister l.fn.queue.table l.self.party l.self.homes.items

abbrev pub decreases-loop-home : goal.decreases-loop-home
decreases-loop-home g l = length l.self.homes.items
