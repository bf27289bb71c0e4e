use Rattle.std.proofs.Common.{◌∷◌, ◌∙◌}
use Rattle.cordyceps_stable.proofs.Holding.{first_taken}
use Rattle.cordyceps_c_lists.proofs.Keeping.{gives, put_sound, same_sound}
use Rattle.cordyceps_c_lists.proofs.list.List.push_front.Goals as goal

pub invariant_of-self : goal.invariant_of-self
invariant_of-self c = same_sound c.self.inside.tickets c.make.new.tickets c.self.inside.list c.make.ensures.same c.make.ensures.given c.self.invariant

pub invariant_of-self-2 : goal.invariant_of-self-2
invariant_of-self-2 c =
    let was = c.self.inside.list in let new = c.push_front-spot.new.self in let spot = c.push_front-spot.result in let member = c.in_ok-ticket.member in
    let (next, is) = c.in_ok-ticket.ensures.made in
    let sound = same_sound c.self.inside.tickets c.make.new.tickets was c.make.ensures.same c.make.ensures.given c.self.invariant in
    put_sound c.make.new.tickets c.give.new.self was new spot c.in_ok-ticket.ticket c.args.payload member sound next is (first_taken new was spot member c.push_front-spot.ensures.holds)
    c.give.ensures.given c.give.ensures.put

pub returns : goal.returns
returns c =
    let was = c.self.inside.list in let new = c.push_front-spot.new.self in let member = c.in_ok-ticket.member in
    let spot = c.push_front-spot.result in let (next, is) = c.in_ok-ticket.ensures.made in (
      spot,
      c.push_front-spot.ensures.holds ∙ (λ i. (spot, is i) ∷ (c.self.view_is i).nodes),
      gives c.self.inside.tickets was c.args.self.now c.self.view_is c.make.new.tickets c.give.new.self new spot c.in_ok-ticket.ticket c.args.payload member
          c.make.ensures.collection c.make.ensures.given next is (first_taken new was spot member c.push_front-spot.ensures.holds) c.give.ensures.collection c.give.ensures.given,
    )
