use Rattle.std.proofs.Common.{◌≡◌}
use Rattle.cordyceps_channel.proofs.register.Register.reopen.Given as goal

abbrev pub invariant-loop-i : goal.invariant-loop-i
invariant-loop-i g l = (l.self.party ≡ l.initial.self.party) × (l.self.homes.items ≡ l.initial.self.homes.items)
