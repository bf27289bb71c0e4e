use Rattle.std.proofs.Common.{◌-◌, ◌<◌, refl, sym, subst, arith, rules}
use Rattle.cordyceps_shared.specs.Places.{ItemAt}
use Rattle.cordyceps_shared.proofs.TrackRooms.{first_room}
use Rattle.cordyceps_queue.specs.Shared.View.{free_chain}
use Rattle.cordyceps_queue.proofs.SharedTheory.SpareRooms.{tracks_joined}
use Rattle.cordyceps_queue.proofs.shared.parting.append.Goals as goal

pub tie-requires-clause-low : goal.tie-requires-clause-low
tie-requires-clause-low g c =
    let (_, first, some_of) = first_room c.args.other.rooms (free_chain c.args._seat.now.me.0) c.requires.tracks.1.tracks (search rules) in
    let near : c.args.other.rooms.first - 1 < c.args.words.now.table_id.slots = c.requires.near 0 (c.args.other.rooms.first - 1) (subst (λ l. ItemAt l 0 (c.args.other.rooms.first - 1)) (sym first) refl) in omega arith

pub returns-then-other-gt0-clause-tracks : goal.returns-then-other-gt0-clause-tracks
returns-then-other-gt0-clause-tracks g c =
    tracks_joined c.tie.new.spare.rooms c.args.other (free_chain c.tie.new.seat.me.0) (free_chain c.args._seat.now.me.0) c.tie.ensures.tracks.0 c.requires.tracks.1 (search rules) c.tie.ensures.first
