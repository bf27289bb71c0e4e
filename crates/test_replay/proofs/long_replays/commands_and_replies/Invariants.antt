use Rattle.std.proofs.Common.{All}
use Rattle.cordyceps.specs.Lists.{Fits}
use Rattle.test_replay.proofs.long_replays.commands_and_replies.Given as goal

abbrev pub invariant-loop-number : goal.invariant-loop-number
invariant-loop-number g l = All Fits l.commands.items
