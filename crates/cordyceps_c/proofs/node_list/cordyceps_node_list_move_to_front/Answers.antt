use Rattle.std.proofs.Common.{sym, subst}
use Rattle.cordyceps_base.specs.Nodes.{Nodes}
use Rattle.cordyceps_base.specs.BySpot.{HasSpot, IsMovedFront}
use Rattle.cordyceps_c_base.specs.declared.carried.Carried.{Carried}
use Rattle.cordyceps_c.proofs.node_list.cordyceps_node_list_move_to_front.Goals as goal

pub move_to_front-requires : goal.move_to_front-requires
move_to_front-requires c = subst (λ (l : Nodes Carried). HasSpot l c.args.at) (sym c.deref_mut.ensures.value) (c.requires.there c.take-held.result.value c.take-held.ensures.taken)

pub returns : goal.returns
returns c =
    let new = c.move_to_front.new.self in
    (c.take-held.result.value, new, c.take-held.ensures.taken, c.put.ensures, subst (λ (l : Nodes Carried). IsMovedFront l c.args.at new) c.deref_mut.ensures.value c.move_to_front.ensures.moved)
