use Rattle.std.proofs.Common.{sym, ◌∙◌}
use Rattle.cordyceps.specs.Spots.MultiList.{list_at}
use Rattle.cordyceps_uses.proofs.Ordered.{order_long}
use Rattle.cordyceps_uses.proofs.keyed.count.Goals as goal

pub returns : goal.returns
returns g c = let m = c.args.map.now in c.len.ensures ∙ sym (order_long m.nodes (list_at 0 m.lists) (c.lists_agree.ensures.inside 0))
