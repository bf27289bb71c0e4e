use Rattle.std.proofs.Common.{refl, sym, subst, slice_set}
use Rattle.cordyceps_map.specs.Chains.{IsCut}
use Rattle.cordyceps_many.proofs.ValueAt.{held_value}
use Rattle.cordyceps_map.proofs.chains.leave.Goals as goal

pub returns-in-Some-clause-cut : goal.returns-in-Some-clause-cut
returns-in-Some-clause-cut g c = subst (λ o. IsCut c.args.nodes.now.nodes c.args.buckets.now c.args.place.bucket o c.args.place.at c.redirect.new.nodes.nodes c.args.buckets.now) (sym c.in-Some.is) (record {
  entry = c.get.result.now;
  was = held_value c.args.nodes.now.nodes c.args.place.at c.get.result.now c.lists_agree.ensures.distinct c.get.ensures;
  cut = (c.redirect.ensures.nodes, refl);
})

pub returns-in-None-clause-cut : goal.returns-in-None-clause-cut
returns-in-None-clause-cut g c = subst (λ o. IsCut c.args.nodes.now.nodes c.args.buckets.now c.args.place.bucket o c.args.place.at c.args.nodes.now.nodes (slice_set c.args.buckets.now c.args.place.bucket c.get.result.now.next)) (sym c.in-None.is) (record {
  entry = c.get.result.now;
  was = held_value c.args.nodes.now.nodes c.args.place.at c.get.result.now c.lists_agree.ensures.distinct c.get.ensures;
  cut = (refl, refl);
})
