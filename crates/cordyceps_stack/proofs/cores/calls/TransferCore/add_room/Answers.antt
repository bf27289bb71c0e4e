use Rattle.std.proofs.Common.{subst, sym, rules}
use Rattle.cordyceps_stack.specs.Cores.Machine.{Machine}
use Rattle.cordyceps_stack.specs.Cores.CoreMeets.{CoreMeets}
use Rattle.cordyceps_stack.proofs.CoreTheory.CoreGrows.{room_tried}
use Rattle.cordyceps_stack.proofs.CoreTheory.WalkCalls.{hands_room_tried}
use Rattle.cordyceps_stack.proofs.cores.calls.TransferCore.add_room.Goals as goal

pub invariant_of-self : goal.invariant_of-self
invariant_of-self g c =
    let m : Machine g.row.E.Denot = record { head = c.self.inside.head; rooms = c.self.inside.rooms; parties = c.self.inside.parties.items } in
    (c.self.invariant.0, room_tried c.self.invariant.0 m _ c.add.new.self c.add.result c.add.ensures.ok c.add.ensures.err c.self.invariant.1)

pub returns-clause-history : goal.returns-clause-history
returns-clause-history g c = λ h was.
    let m : Machine g.row.E.Denot = record { head = c.self.inside.head; rooms = c.self.inside.rooms; parties = c.self.inside.parties.items } in
    room_tried h m _ c.add.new.self c.add.result c.add.ensures.ok c.add.ensures.err (subst (CoreMeets h) (sym c.self.view_is) was)

pub returns-clause-walks : goal.returns-clause-walks
returns-clause-walks g c = λ h.
    let m : Machine g.row.E.Denot = record { head = c.self.inside.head; rooms = c.self.inside.rooms; parties = c.self.inside.parties.items } in
    rw (← c.self.view_is) (hands_room_tried h m _ c.add.new.self c.add.result c.add.ensures.ok c.add.ensures.err)

pub returns-clause-not_there : goal.returns-clause-not_there
returns-clause-not_there g c = search rules

pub returns-clause-ok : goal.returns-clause-ok
returns-clause-ok g c = search rules

pub returns-clause-err : goal.returns-clause-err
returns-clause-err g c = search rules
