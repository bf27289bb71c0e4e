use Rattle.cordyceps_stable.proofs.Reached.{joined_spot}
use Rattle.test_stable_lists.proofs.stable_calls.spot_after.Goals as goal

pub returns-in-Append : goal.returns-in-Append
returns-in-Append g c = joined_spot _ _ _ c.front-first.result c.append.ensures.joined c.front-first.ensures.first
