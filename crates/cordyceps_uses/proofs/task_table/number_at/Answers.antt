use Rattle.std.proofs.Common.{refl}
use Rattle.cordyceps.proofs.Spots.ValueAt.{held_value}
use Rattle.cordyceps_uses.proofs.task_table.number_at.Goals as goal

pub returns : goal.returns
returns g c = record {
  entry = (c.key_at.result.now, c.key_at.ensures.0);
  value = held_value c.args.map.now.nodes c.args.at (c.key_at.result.now, c.key_at.ensures.0) c.lists_agree.ensures.distinct c.key_at.ensures.1;
  holds = refl;
}
