use Rattle.std.proofs.Common.{◌≡◌, [], refl}
use Rattle.cordyceps_base.specs.BySpot.{IsFirst}
use Rattle.cordyceps_c_base.proofs.Answering.{found}
use Rattle.cordyceps_c.proofs.node_list.cordyceps_node_list_front.Goals as goal

pub returns : goal.returns
returns c =
    let l = c.list_mut.result.now in let tried = c.front-spot in let out = c.write_found in
    (l, c.list_mut.ensures.value, refl, found (l ≡ []) (λ p. IsFirst l p) tried.result out.result out.new.out c.args.out.now out.ensures tried.ensures.first)
