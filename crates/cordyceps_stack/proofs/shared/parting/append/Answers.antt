use Rattle.std.proofs.Common.{rules}
use Rattle.cordyceps_shared.proofs.TrackRooms.{tracks_joined}
use Rattle.cordyceps_stack.proofs.SharedTheory.PartsJoin.{first_low}
use Rattle.cordyceps_stack.proofs.shared.parting.append.Goals as goal

pub tie-requires-clause-few : goal.tie-requires-clause-few
tie-requires-clause-few g c =
    first_low c.args.words.now.table_id.slots c.args.other c.args._seat.now.me.0.free c.requires.tracks.1 c.requires.near (search rules)

pub returns-then-other-gt0-clause-tracks : goal.returns-then-other-gt0-clause-tracks
returns-then-other-gt0-clause-tracks g c =
    tracks_joined c.tie.new.free c.args.other c.tie.new.seat.me.0.free c.args._seat.now.me.0.free c.tie.ensures.tracks.0 c.requires.tracks.1 (search rules) c.tie.ensures.first
