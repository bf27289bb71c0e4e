use Rattle.std.proofs.Common.{sym, ap, ◌∙◌, subst}
use Rattle.cordyceps_stable.proofs.Holding.{first_taken}
use Rattle.cordyceps_c_lists.specs.Lists.{Listed, Sound}
use Rattle.cordyceps_c_lists.proofs.Keeping.{ends, taken_sound}
use Rattle.cordyceps_c_lists.proofs.list.List.pop_front.Goals as goal

pub invariant_of-self : goal.invariant_of-self
invariant_of-self c = let (was, is) = c.in_err-member.ensures.taken in subst (Sound c.self.inside.tickets) (was ∙ sym is) c.self.invariant

pub invariant_of-self-2 : goal.invariant_of-self-2
invariant_of-self-2 c =
    let was = c.self.inside.list in let new = c.pop_front.new.self in let member = c.in_ok-member.member in let (spot, is) = c.in_ok-member.ensures.taken in
    taken_sound c.self.inside.tickets c.end.new.tickets was new spot member c.self.invariant c.spots_are_distinct.ensures (first_taken was new spot member is)
    c.end.ensures.ended

pub returns : goal.returns
returns c =
    let was = c.self.inside.list in let new = c.pop_front.new.self in let member = c.in_ok-member.member in let (spot, is) = c.in_ok-member.ensures.taken in (
      spot,
      member,
      sym (ap (λ (l : Listed). l.nodes) c.self.view_is) ∙ is,
      c.end.ensures.payload,
      ends c.self.inside.tickets was c.args.self.now c.self.view_is c.end.new.tickets new spot member c.self.invariant c.spots_are_distinct.ensures
          (first_taken was new spot member is) c.end.ensures.ended,
    )
