use Rattle.std.proofs.Common.{◌≡◌, [], refl}
use Rattle.cordyceps_base.specs.BySpot.{IsLast}
use Rattle.cordyceps_c_base.proofs.Answering.{found}
use Rattle.cordyceps_c.proofs.node_list.cordyceps_node_list_back.Goals as goal

pub returns : goal.returns
returns c =
    let l = c.list_mut.result.now in let tried = c.back-spot in let out = c.write_found in
    (l, c.list_mut.ensures.value, refl, found (l ≡ []) (λ p. IsLast l p) tried.result out.result out.new.out c.args.out.now out.ensures tried.ensures.last)
