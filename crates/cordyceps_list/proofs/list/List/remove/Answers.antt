use Rattle.std.proofs.Common.{refl, sym, ap, ◌∙◌, arith}
use Rattle.cordyceps_base.specs.Nodes.{elements}
use Rattle.cordyceps_base.proofs.Places.{elements-unlinked, element-at}
use Rattle.cordyceps_list.specs.declared.finger.Finger.{Finger}
use Rattle.cordyceps_list.proofs.Places.{fits_next, fit_stand}
use Rattle.cordyceps_list.proofs.list.List.remove.Goals as goal

pub invariant_of-self : goal.invariant_of-self
invariant_of-self g c =
    let left = c.unlink-node.new.self in
    let finger : Finger = record { address = c.next-next.result; index = c.in_ok-found.found.index } in
    let there = fits_next c.self.inside.chain left finger c.in_ok-found.found.index c.in_ok-found.ensures.on.0.0 c.unlink-node.ensures.others refl c.next-next.ensures.on in
    fit_stand left c.stand.new.self finger c.stand.ensures.front there (omega arith)

pub returns-clause-answer : goal.returns-clause-answer
returns-clause-answer g c =
    let (address, is) = c.unlink-node.ensures.node in
    rw (← c.self.view_is, c.from_ptr.ensures) (sym (c.in_ok-found.ensures.on.1 ∙ element-at c.self.inside.chain c.in_ok-found.found.index address c.unlink-node.result is))

pub returns-clause-kept : goal.returns-clause-kept
returns-clause-kept g c =
    rw (← c.self.view_is) (ap elements c.unlink-node.ensures.others ∙ elements-unlinked c.self.inside.chain c.in_ok-found.found.index ∙ sym c.in_ok-found.ensures.others)
