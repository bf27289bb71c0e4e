use Rattle.std.proofs.Common.{rules}
use Rattle.cordyceps.specs.Stacks.{Fits}
use Rattle.test_replay.proofs.Rests.{All-left}
use Rattle.test_replay.proofs.stack_replays.replies.Goals as goal

pub replay_stacks-second-requires : goal.replay_stacks-second-requires
replay_stacks-second-requires g c =
    let first = c.replay_stacks-first in
    All-left Fits first.ensures.ran first.result.rest.items first.ensures.split (search rules)
