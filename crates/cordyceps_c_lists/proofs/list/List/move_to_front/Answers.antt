use Rattle.std.proofs.Common.{sym, subst}
use Rattle.cordyceps_base.specs.BySpot.{HasSpot, IsMovedFront}
use Rattle.cordyceps_stable.proofs.Holding.{first_taken}
use Rattle.cordyceps_c_lists.specs.Lists.{Listed}
use Rattle.cordyceps_c_lists.proofs.Keeping.{moved_sound, moves}
use Rattle.cordyceps_c_lists.proofs.Naming.{has_spot}
use Rattle.cordyceps_c_lists.proofs.list.List.move_to_front.Goals as goal

pub move_to_front-requires : goal.move_to_front-requires
move_to_front-requires c =
    let at = c.in-Some.spot in
    subst (λ (l : Listed). HasSpot l.nodes at) (sym c.self.view_is) (has_spot c.args.self.now c.args.at at c.in-Some.ensures)

pub invariant_of-self : goal.invariant_of-self
invariant_of-self c =
    let was = c.self.inside.list in let new = c.move_to_front.new.self in let spot = c.in-Some.spot in let (e, rest, taken, is) = c.move_to_front.ensures.moved in
    moved_sound c.self.inside.tickets was new rest spot e c.self.invariant taken (first_taken new rest spot e is)

pub returns : goal.returns
returns c =
    let spot = c.in-Some.spot in let new = c.move_to_front.new.self in let (e, rest, taken, is) = c.move_to_front.ensures.moved in (
      spot,
      c.in-Some.ensures,
      subst (λ (l : Listed). IsMovedFront l.nodes spot new) c.self.view_is c.move_to_front.ensures.moved,
      moves c.self.inside.tickets c.self.inside.list c.args.self.now c.self.view_is new rest spot e taken (first_taken new rest spot e is),
    )
