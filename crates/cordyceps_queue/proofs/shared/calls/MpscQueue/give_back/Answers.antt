use Rattle.std.proofs.Common.{◌≡◌, ap, ◌∙◌, subst, rules}
use Rattle.cordyceps_queue.specs.Shared.Parts.{standing}
use Rattle.cordyceps_shared.specs.Standings.{GivesBack}
use Rattle.cordyceps_queue.proofs.SharedTheory.PoolCalls.{give_back_seated, gives_back, lacks_rooms}
use Rattle.cordyceps_queue.proofs.shared.calls.MpscQueue.give_back.Goals as goal

pub invariant_of-party : goal.invariant_of-party
invariant_of-party g c =
    let e = c.give_back.ensures in
    give_back_seated _ _ c.args.rooms c.give_back.result c.party.inside.seat.me c.give_back.new.seat.me _ _ c.party.invariant e.table e.gives e.tracks

pub returns-clause-answer : goal.returns-clause-answer
returns-clause-answer g c =
    let e = c.give_back.ensures in
    let z' = c.give_back.new.seat.table_id in
    let k = c.give_back.new.seat.me in
    subst (λ u. GivesBack c.args.rooms c.give_back.result u (standing z' k.0)) c.party.view_is
    (gives_back c.party.inside.seat.table_id z' c.args.rooms c.give_back.result c.party.inside.seat.me k e.table e.gives)

pub returns-clause-whole : goal.returns-clause-whole
returns-clause-whole g c is not =
    let e = c.give_back.ensures in
    let there : c.party.inside.seat.table_id ≡ c.self.inside.rooms.shared.table_id = search rules in
    lacks_rooms c.party.inside.seat.table_id c.give_back.new.seat.table_id c.self.inside.rooms.shared.table_id c.args.rooms c.give_back.result c.party.inside.seat.me c.give_back.new.seat.me e.table there e.gives not (e.lacks not)
    (ap (λ u. u.share) c.party.view_is ∙ is)
