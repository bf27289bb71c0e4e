use Rattle.std.proofs.Common.{All}
use Rattle.std.specs.VecDeque.{deque_len}
use Rattle.cordyceps_tables.specs.Stacks.{step, Fits}
use Rattle.cordyceps_tables.specs.Plays.{Plays}
use Rattle.cordyceps_tables.proofs.replay.stacks.replay_stacks.Given as goal

abbrev pub invariant-loop-command : goal.invariant-loop-command
invariant-loop-command l = record { played : Plays step l.fn.stacks l.fn.commands.items l.replies.items l.rest.items l.stacks; fit : All Fits l.rest.items }

abbrev pub decreases-loop-command : goal.decreases-loop-command
decreases-loop-command l = deque_len l.rest
