use Rattle.std.proofs.Common.{◌<◌, length, sym, subst}
use Rattle.cordyceps_base.specs.Nodes.{Nodes}
use Rattle.cordyceps_base.specs.BySpot.{HasSpot, IsPutBefore}
use Rattle.cordyceps_c_base.specs.declared.carried.Carried.{Carried}
use Rattle.cordyceps_c.proofs.node_list.cordyceps_node_list_insert_before.Goals as goal

pub insert_before-requires-clause-there : goal.insert_before-requires-clause-there
insert_before-requires-clause-there c = subst (λ (l : Nodes Carried). HasSpot l c.args.at) (sym c.deref_mut.ensures.value) (c.requires.at c.take-held.result.value c.take-held.ensures.taken)

pub insert_before-requires-clause-fits : goal.insert_before-requires-clause-fits
insert_before-requires-clause-fits c = subst (λ (l : Nodes Carried). length l < _) (sym c.deref_mut.ensures.value) (c.requires.fits c.take-held.result.value c.take-held.ensures.taken)

pub returns : goal.returns
returns c =
    let new = c.insert_before.new.self in let e = c.take_node.result in let p = c.insert_before.result in
    (c.take-held.result.value, e, new, c.take-held.ensures.taken, c.take_node.ensures.0, c.put.ensures, c.take_node.ensures.1, subst (λ (l : Nodes Carried). IsPutBefore l c.args.at p e new) c.deref_mut.ensures.value c.insert_before.ensures.holds)
