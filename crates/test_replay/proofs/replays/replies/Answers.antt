use Rattle.std.proofs.Common.{rules}
use Rattle.cordyceps.specs.Lists.{Fits}
use Rattle.test_replay.proofs.Rests.{All-left}
use Rattle.test_replay.proofs.replays.replies.Goals as goal

pub replay_lists-second-requires : goal.replay_lists-second-requires
replay_lists-second-requires g c =
    let first = c.replay_lists-first in
    All-left Fits first.ensures.ran first.result.rest.items first.ensures.split (search rules)
