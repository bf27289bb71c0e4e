use Rattle.cordyceps_queue.proofs.SharedTheory.PoolJoins.{first_near, filled, filled_returns, filled_last, refilled, tracks_refilled}
use Rattle.cordyceps_queue.proofs.shared.pool.refill.Goals as goal

pub tie-requires-clause-low : goal.tie-requires-clause-low
tie-requires-clause-low g c =
    let u = c.unpack-taken.ensures in
    first_near _ _ _ _ _ c.take-found.ensures.finds c.if-found-eq0.false u.0 u.1

pub gather-end-requires-clause-hand : goal.gather-end-requires-clause-hand
gather-end-requires-clause-hand g c =
    let u = c.unpack-taken.ensures in
    let d = c.take-found.ensures.finds in
    let f = filled _ _ _ _ _ _ d c.if-found-eq0.false u.0 u.1 c.tie.ensures.relinked c.tie.ensures.tied in
    filled_returns _ _ _ _ _ _ c.requires.rest d f

pub gather-end-requires-clause-last : goal.gather-end-requires-clause-last
gather-end-requires-clause-last g c =
    let u = c.unpack-taken.ensures in
    filled_last _ _ _ _ _ (filled _ _ _ _ _ _ c.take-found.ensures.finds c.if-found-eq0.false u.0 u.1 c.tie.ensures.relinked c.tie.ensures.tied)

pub returns-clause-refills : goal.returns-clause-refills
returns-clause-refills g c =
    let u = c.unpack-taken.ensures in
    let d = c.take-found.ensures.finds in
    let f = filled _ _ _ _ _ _ d c.if-found-eq0.false u.0 u.1 c.tie.ensures.relinked c.tie.ensures.tied in
    refilled _ _ _ _ _ _ _ c.requires.rest d f c.gather-end.ensures.gathered

pub returns-clause-tracks : goal.returns-clause-tracks
returns-clause-tracks g c =
    let u = c.unpack-taken.ensures in
    let d = c.take-found.ensures.finds in
    let f = filled _ _ _ _ _ _ d c.if-found-eq0.false u.0 u.1 c.tie.ensures.relinked c.tie.ensures.tied in
    tracks_refilled _ _ c.tie.new.spare.rooms _ _ _ _ _ f c.gather-end.ensures.gathered c.tie.ensures.tracks.0 c.tie.ensures.first c.gather-end.ensures.end
