use Rattle.std.proofs.Common.{◌≡◌, [], ◌∷◌, ◌++◌, subst, MatchOption}
use denote.RawPtr.{Ptr}
use Rattle.cordyceps_base.specs.Nodes.{Nodes}
use Rattle.cordyceps_c_base.specs.declared.carried.Carried.{Carried}
use Rattle.cordyceps_c_base.proofs.NodesOut.{out_of}
use Rattle.cordyceps_c.proofs.node_list.cordyceps_node_list_pop_back.Goals as goal

pub returns : goal.returns
returns c =
    let old = c.take-held.result.value in let new = c.pop_back-node.new.self in
    let told = subst (λ (l : Nodes Carried). MatchOption c.pop_back-node.result ((l ≡ []) × (new ≡ [])) (λ e. (p : Ptr) × (l ≡ new ++ (p, e) ∷ []))) c.deref_mut.ensures.value c.pop_back-node.ensures.taken in
    (old, new, c.take-held.ensures.taken, c.put.ensures, out_of ((old ≡ []) × (new ≡ [])) (λ e. (p : Ptr) × (old ≡ new ++ (p, e) ∷ [])) c.put_found.new.self.held c.pop_back-node.result c.put_found.result c.put_found.ensures told)
