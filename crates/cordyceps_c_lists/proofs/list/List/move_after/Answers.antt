use Rattle.std.proofs.Common.{inr, refl, sym, subst}
use Rattle.cordyceps_base.specs.BySpot.{HasSpot, IsMovedAfter}
use Rattle.cordyceps_stable.proofs.Holding.{after_taken}
use Rattle.cordyceps_c_lists.specs.Lists.{IsAt, Listed}
use Rattle.cordyceps_c_lists.proofs.Keeping.{moved_sound, moves}
use Rattle.cordyceps_c_lists.proofs.Naming.{has_spot, other_spot, same_ticket}
use Rattle.cordyceps_c_lists.proofs.list.List.move_after.Goals as goal

pub returns-then-at-to : goal.returns-then-at-to
returns-then-at-to c =
    let at = c.args.at in let to = c.args.to in let p = c.in-Some.spot in let q = c.in-Some-find.after in let view = sym c.self.view_is in
    let same = same_ticket c.self.inside.tickets c.self.inside.list at to p q c.self.invariant (subst (λ (l : Listed). IsAt l at p) view c.in-Some.ensures)
    (subst (λ (l : Listed). IsAt l to q) view c.in-Some-find.ensures) c.if-at-to.true in
    (inr (inr same), refl)

pub move_after-requires-clause-there : goal.move_after-requires-clause-there
move_after-requires-clause-there c =
    let at = c.in-Some.spot in
    subst (λ (l : Listed). HasSpot l.nodes at) (sym c.self.view_is) (has_spot c.args.self.now c.args.at at c.in-Some.ensures)

pub move_after-requires-clause-target : goal.move_after-requires-clause-target
move_after-requires-clause-target c =
    let to = c.in-Some-find.after in
    subst (λ (l : Listed). HasSpot l.nodes to) (sym c.self.view_is) (has_spot c.args.self.now c.args.to to c.in-Some-find.ensures)

pub move_after-requires-clause-other : goal.move_after-requires-clause-other
move_after-requires-clause-other c =
    other_spot c.args.self.now c.args.at c.args.to c.in-Some.spot c.in-Some-find.after c.in-Some.ensures c.in-Some-find.ensures c.if-at-to.false

pub invariant_of-self : goal.invariant_of-self
invariant_of-self c =
    let was = c.self.inside.list in let new = c.move_after.new.self in let spot = c.in-Some.spot in let (e, rest, taken, put) = c.move_after.ensures.moved in
    moved_sound c.self.inside.tickets was new rest spot e c.self.invariant taken (after_taken new rest c.in-Some-find.after spot e put)

pub returns : goal.returns
returns c =
    let p = c.in-Some.spot in let q = c.in-Some-find.after in let new = c.move_after.new.self in let (e, rest, taken, put) = c.move_after.ensures.moved in (
      p,
      q,
      c.in-Some.ensures,
      c.in-Some-find.ensures,
      subst (λ (l : Listed). IsMovedAfter l.nodes p q new) c.self.view_is c.move_after.ensures.moved,
      moves c.self.inside.tickets c.self.inside.list c.args.self.now c.self.view_is new rest p e taken (after_taken new rest q p e put),
    )
