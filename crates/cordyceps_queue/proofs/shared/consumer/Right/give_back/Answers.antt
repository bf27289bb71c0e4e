use Rattle.std.proofs.Common.{◌≡◌, ap, ◌∙◌, subst}
use Rattle.cordyceps_queue.specs.Shared.Parts.{standing}
use Rattle.cordyceps_shared.specs.Standings.{GivesBack}
use Rattle.cordyceps_queue.proofs.SharedTheory.PoolCalls.{give_back_consuming, give_back_knows, gives_back, lacks_rooms}
use Rattle.cordyceps_queue.proofs.shared.consumer.Right.give_back.Goals as goal

pub invariant_of-self : goal.invariant_of-self
invariant_of-self g c =
    let e = c.give_back.ensures in (
      give_back_consuming _ _ _ c.args.rooms c.give_back.result c.self.inside.seat.me c.give_back.new.seat.me _ _ c.self.invariant.0 e.table e.gives e.tracks,
      give_back_knows c.args.rooms c.give_back.result c.self.inside.seat.me c.give_back.new.seat.me c.self.inside.tail e.gives c.self.invariant.1,
    )

pub returns-clause-answer : goal.returns-clause-answer
returns-clause-answer g c =
    let e = c.give_back.ensures in
    let z' = c.give_back.new.seat.table_id in
    let k = c.give_back.new.seat.me in
    subst (λ u. GivesBack c.args.rooms c.give_back.result u (standing z' k.0)) c.self.view_is
    (gives_back c.self.inside.seat.table_id z' c.args.rooms c.give_back.result c.self.inside.seat.me k e.table e.gives)

pub returns-clause-whole : goal.returns-clause-whole
returns-clause-whole g c is not =
    let e = c.give_back.ensures in
    let there : c.self.inside.seat.table_id ≡ c.args.words.now.table_id = ap (λ u. u.table) c.self.view_is ∙ c.requires.table in
    lacks_rooms c.self.inside.seat.table_id c.give_back.new.seat.table_id c.args.words.now.table_id c.args.rooms c.give_back.result c.self.inside.seat.me c.give_back.new.seat.me e.table there e.gives not (e.lacks not)
    (ap (λ u. u.share) c.self.view_is ∙ is)
