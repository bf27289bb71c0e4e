-- Lists that many put in, each in its order.
use Rattle.std.specs.Prelude.{List}
use Rattle.cordyceps_shared.specs.Sending as parties
use Rattle.cordyceps_queue.specs.Shared.Calls.{PartyOf}
use Rattle.cordyceps_queue.specs.Shared.Moves.{put_by, got_by}

-- the party, and those that were split off it, put in elements of which f tells these lists, each in its order
abbrev pub Sends : {E A : Type 0} → (E → A) → List (List A) → PartyOf E → PartyOf E → Type 0
Sends f lists u w = parties.Sends (put_by f) (got_by f) lists u w
