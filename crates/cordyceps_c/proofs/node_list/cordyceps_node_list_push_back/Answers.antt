use Rattle.std.proofs.Common.{◌≡◌, ◌<◌, [], ◌∷◌, ◌++◌, length, sym, subst}
use Rattle.cordyceps_base.specs.Nodes.{Nodes}
use Rattle.cordyceps_c_base.specs.declared.carried.Carried.{Carried}
use Rattle.cordyceps_c.proofs.node_list.cordyceps_node_list_push_back.Goals as goal

pub push_back-requires : goal.push_back-requires
push_back-requires c = subst (λ (l : Nodes Carried). length l < _) (sym c.deref_mut.ensures.value) (c.requires.fits c.take-held.result.value c.take-held.ensures.taken)

pub returns : goal.returns
returns c =
    let new = c.push_back.new.self in let e = c.take_node.result in let p = c.push_back.result in
    (c.take-held.result.value, e, new, c.take-held.ensures.taken, c.take_node.ensures.0, c.put.ensures, c.take_node.ensures.1, subst (λ (l : Nodes Carried). new ≡ l ++ (p, e) ∷ []) c.deref_mut.ensures.value c.push_back.ensures.holds)
