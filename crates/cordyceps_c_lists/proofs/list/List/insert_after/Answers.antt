use Rattle.std.proofs.Common.{sym, subst}
use Rattle.cordyceps_base.specs.Element.{Element}
use Rattle.cordyceps_base.specs.Nodes.{Nodes}
use Rattle.cordyceps_base.specs.BySpot.{HasSpot, IsPutAfter}
use Rattle.cordyceps_stable.proofs.Holding.{after_taken}
use Rattle.cordyceps_c_lists.specs.declared.list.Item.{Item}
use Rattle.cordyceps_c_lists.specs.Lists.{Listed}
use Rattle.cordyceps_c_lists.proofs.Keeping.{gives, put_sound, same_sound}
use Rattle.cordyceps_c_lists.proofs.Naming.{has_spot}
use Rattle.cordyceps_c_lists.proofs.list.List.insert_after.Goals as goal

pub invariant_of-self : goal.invariant_of-self
invariant_of-self c = same_sound c.self.inside.tickets c.make.new.tickets c.self.inside.list c.make.ensures.same c.make.ensures.given c.self.invariant

pub insert_after-spot-requires-clause-there : goal.insert_after-spot-requires-clause-there
insert_after-spot-requires-clause-there c =
    let at = c.in_ok-at.at in
    subst (λ (l : Listed). HasSpot l.nodes at) (sym c.self.view_is) (has_spot c.args.self.now c.args.at at c.in_ok-at.ensures)

pub invariant_of-self-2 : goal.invariant_of-self-2
invariant_of-self-2 c =
    let was = c.self.inside.list in let new = c.insert_after-spot.new.self in let spot = c.insert_after-spot.result in let member = c.in_ok-ticket.member in
    let (next, is) = c.in_ok-ticket.ensures.made in
    let sound = same_sound c.self.inside.tickets c.make.new.tickets was c.make.ensures.same c.make.ensures.given c.self.invariant in
    put_sound c.make.new.tickets c.give.new.self was new spot c.in_ok-ticket.ticket c.args.payload member sound next is
    (after_taken new was c.in_ok-at.at spot member c.insert_after-spot.ensures.holds) c.give.ensures.given c.give.ensures.put

pub returns : goal.returns
returns c =
    let at = c.in_ok-at.at in
    let was = c.self.inside.list in let new = c.insert_after-spot.new.self in let member = c.in_ok-ticket.member in
    let spot = c.insert_after-spot.result in let (next, is) = c.in_ok-ticket.ensures.made in (
      at,
      spot,
      c.in_ok-at.ensures,
      subst (λ (v : Nodes Item × Element Item). IsPutAfter v.0 at spot v.1 new) (λ i. ((c.self.view_is i).nodes, is i)) c.insert_after-spot.ensures.holds,
      gives c.self.inside.tickets was c.args.self.now c.self.view_is c.make.new.tickets c.give.new.self new spot c.in_ok-ticket.ticket c.args.payload member
          c.make.ensures.collection c.make.ensures.given next is (after_taken new was c.in_ok-at.at spot member c.insert_after-spot.ensures.holds) c.give.ensures.collection c.give.ensures.given,
    )
