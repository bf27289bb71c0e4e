use Rattle.std.proofs.Common.{refl}
use Rattle.cordyceps.proofs.Spots.ValueAt.{held_value}
use Rattle.cordyceps_uses.proofs.keyed.value_of.Goals as goal

pub returns : goal.returns
returns g c = record {
  entry = (c.value_at.ensures.0, c.value_at.result.now);
  value = held_value c.args.map.now.nodes c.args.at (c.value_at.ensures.0, c.value_at.result.now) c.lists_agree.ensures.distinct c.value_at.ensures.1;
  holds = refl;
}
