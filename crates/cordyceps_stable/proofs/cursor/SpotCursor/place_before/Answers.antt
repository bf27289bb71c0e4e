use Rattle.std.proofs.Common.{Some, None, refl}
use Rattle.cordyceps_base.specs.BySpot.{IsFirst, AreNext}
use Rattle.cordyceps_base.specs.Nodes.{Nodes}
use Rattle.cordyceps_stable.specs.Walk.{IsBack}
use Rattle.cordyceps_stable.proofs.Reached.{back_has}
use Rattle.cordyceps_stable.proofs.Spots.{step_said, place_said}
use Rattle.cordyceps_stable.proofs.cursor.SpotCursor.place_before.Goals as goal

pub returns-in-Some-clause-place : goal.returns-in-Some-clause-place
returns-in-Some-clause-place g c =
    let s : Nodes g.row.T.Denot = c.self.inside.chain.now in
    place_said IsBack s c.self.inside.at c.spot_of.result (Some c.in-Some.at) c.args.self.now (step_said IsFirst (λ s p q. AreNext s q p) c.prev_at.result c.spot_of.result c.spot_of.ensures s s c.at.inside.address.ptr c.in-Some.at c.prev_at.ensures refl c.at.view_is) c.in-Some.is c.self.view_is

pub returns-in-Some-clause-there : goal.returns-in-Some-clause-there
returns-in-Some-clause-there g c = back_has c.args.self.now.nodes c.args.self.now.spot c.spot_of.result (returns-in-Some-clause-place g c)

pub returns-in-None-clause-place : goal.returns-in-None-clause-place
returns-in-None-clause-place g c =
    let s : Nodes g.row.T.Denot = c.self.inside.chain.now in
    place_said IsBack s c.self.inside.at c.last_spot.result None c.args.self.now c.last_spot.ensures c.in-None.is c.self.view_is

pub returns-in-None-clause-there : goal.returns-in-None-clause-there
returns-in-None-clause-there g c = back_has c.args.self.now.nodes c.args.self.now.spot c.last_spot.result (returns-in-None-clause-place g c)
