use Rattle.cordyceps_uses.proofs.States.{moved_timed}
use Rattle.cordyceps_uses.proofs.expiring.use_at.Goals as goal

pub returns-clause-timed : goal.returns-clause-timed
returns-clause-timed g c =
    let r = c.requires.at in let b = c.move_back.ensures in
    moved_timed g.K.PartialEq.eq c.args.map.now c.lists_agree.ensures c.requires.timed c.args.at r.entry r.value c.move_back.new.map b.nodes b.list b.others
