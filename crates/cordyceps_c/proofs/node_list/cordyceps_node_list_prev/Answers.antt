use Rattle.std.proofs.Common.{refl}
use Rattle.cordyceps_base.specs.BySpot.{AreNext, IsFirst}
use Rattle.cordyceps_c_base.proofs.Answering.{found}
use Rattle.cordyceps_c.proofs.node_list.cordyceps_node_list_prev.Goals as goal

pub prev-spot-requires : goal.prev-spot-requires
prev-spot-requires c = c.requires.there c.list_mut.result.now c.list_mut.ensures.value

pub returns : goal.returns
returns c =
    let l = c.list_mut.result.now in let tried = c.prev-spot in let out = c.write_found in
    (l, c.list_mut.ensures.value, refl, found (IsFirst l c.args.at) (λ p. AreNext l p c.args.at) tried.result out.result out.new.out c.args.out.now out.ensures tried.ensures.step)
