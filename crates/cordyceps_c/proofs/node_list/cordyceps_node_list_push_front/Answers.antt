use Rattle.std.proofs.Common.{◌≡◌, ◌<◌, ◌∷◌, length, sym, subst}
use Rattle.cordyceps_base.specs.Nodes.{Nodes}
use Rattle.cordyceps_c_base.specs.declared.carried.Carried.{Carried}
use Rattle.cordyceps_c.proofs.node_list.cordyceps_node_list_push_front.Goals as goal

pub push_front-requires : goal.push_front-requires
push_front-requires c = subst (λ (l : Nodes Carried). length l < _) (sym c.deref_mut.ensures.value) (c.requires.fits c.take-held.result.value c.take-held.ensures.taken)

pub returns : goal.returns
returns c =
    let new = c.push_front.new.self in let e = c.take_node.result in let p = c.push_front.result in
    (c.take-held.result.value, e, new, c.take-held.ensures.taken, c.take_node.ensures.0, c.put.ensures, c.take_node.ensures.1, subst (λ (l : Nodes Carried). new ≡ (p, e) ∷ l) c.deref_mut.ensures.value c.push_front.ensures.holds)
