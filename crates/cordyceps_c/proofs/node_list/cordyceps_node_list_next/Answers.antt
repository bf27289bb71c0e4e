use Rattle.std.proofs.Common.{refl}
use Rattle.cordyceps_base.specs.BySpot.{AreNext, IsLast}
use Rattle.cordyceps_c_base.proofs.Answering.{found}
use Rattle.cordyceps_c.proofs.node_list.cordyceps_node_list_next.Goals as goal

pub next-spot-requires : goal.next-spot-requires
next-spot-requires c = c.requires.there c.list_mut.result.now c.list_mut.ensures.value

pub returns : goal.returns
returns c =
    let l = c.list_mut.result.now in let tried = c.next-spot in let out = c.write_found in
    (l, c.list_mut.ensures.value, refl, found (IsLast l c.args.at) (λ p. AreNext l c.args.at p) tried.result out.result out.new.out c.args.out.now out.ensures tried.ensures.step)
