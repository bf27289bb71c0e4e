use Rattle.std.proofs.Common.{sym, subst}
use Rattle.cordyceps_base.specs.Nodes.{spots}
use Rattle.cordyceps_base.specs.BySpot.{HasSpot, IsTaken}
use Rattle.cordyceps_base.specs.Spots.{AreDistinct}
use Rattle.cordyceps_c_lists.specs.Lists.{Listed}
use Rattle.cordyceps_c_lists.proofs.Keeping.{ends, taken_sound}
use Rattle.cordyceps_c_lists.proofs.Naming.{has_spot, taken_named}
use Rattle.cordyceps_c_lists.proofs.list.List.remove.Goals as goal

pub remove-member-requires : goal.remove-member-requires
remove-member-requires c =
    let at = c.in_ok-spot.spot in
    subst (λ (l : Listed). HasSpot l.nodes at) (sym c.self.view_is) (has_spot c.args.self.now c.args.at at c.in_ok-spot.ensures)

pub invariant_of-self : goal.invariant_of-self
invariant_of-self c =
    let was = c.self.inside.list in let (_, named) = c.in_ok-spot.ensures in
    let distinct = subst (λ (l : Listed). AreDistinct (spots l.nodes)) (sym c.self.view_is) named.alone in
    taken_sound c.self.inside.tickets c.end.new.tickets was c.remove-member.new.self c.in_ok-spot.spot c.remove-member.result c.self.invariant distinct
    c.remove-member.ensures.taken c.end.ensures.ended

pub returns : goal.returns
returns c =
    let spot = c.in_ok-spot.spot in let member = c.remove-member.result in let new = c.remove-member.new.self in let (_, named) = c.in_ok-spot.ensures in
    let distinct = subst (λ (l : Listed). AreDistinct (spots l.nodes)) (sym c.self.view_is) named.alone in
    let taken = subst (λ (l : Listed). IsTaken l.nodes spot member new) c.self.view_is c.remove-member.ensures.taken in (
      spot,
      member,
      taken_named c.args.self.now c.args.at spot member new c.in_ok-spot.ensures taken,
      taken,
      c.end.ensures.payload,
      ends c.self.inside.tickets c.self.inside.list c.args.self.now c.self.view_is c.end.new.tickets new spot member c.self.invariant distinct
          c.remove-member.ensures.taken c.end.ensures.ended,
    )
