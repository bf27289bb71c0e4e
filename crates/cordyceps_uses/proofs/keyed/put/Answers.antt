use Rattle.std.proofs.Common.{arith}
use Rattle.cordyceps.specs.Spots.MultiList.{list_at}
use Rattle.cordyceps_uses.proofs.ByKey.{is_put}
use Rattle.cordyceps_uses.proofs.Ordered.{order_long}
use Rattle.cordyceps_uses.proofs.keyed.put.Goals as goal

pub insert-inserted-requires : goal.insert-inserted-requires
insert-inserted-requires g c =
    let v = c.args.map.now in let long = order_long v.nodes (list_at 0 v.lists) (c.lists_agree.ensures.inside 0) in let fits = c.requires.fits in
    record { fits = omega (arith, long, fits) }

pub returns-clause-put : goal.returns-clause-put
returns-clause-put g c =
    let i = c.insert-inserted.result in
    is_put g.K.PartialEq.eq c.args.map.now c.lists_agree.ensures c.args.node c.requires.absent g.H.Rows.count i.spot c.insert-inserted.new.self c.lists_agree-2.ensures i.replaced c.insert-inserted.ensures.inserted
