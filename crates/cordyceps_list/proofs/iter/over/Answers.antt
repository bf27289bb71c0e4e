use Rattle.std.proofs.Common.{rules, arith, ap, ◌-◌}
use Rattle.std.proofs.lemmas.List.{length-map, take_all}
use Rattle.cordyceps_base.specs.Element.{values}
use Rattle.cordyceps_base.specs.Nodes.{elements}
use Rattle.cordyceps_list.proofs.iter.over.Goals as goal

pub invariant_of-result : goal.invariant_of-result
invariant_of-result g c = search rules

pub returns : goal.returns
returns g c = let chain = c.args.chain.now in ap values (take_all (c.len-back.result - 0) (elements chain) (omega (arith, length-map chain (λ n. n.1))))
