use Rattle.cordyceps_uses.proofs.ByKey.{listed, moved}
use Rattle.cordyceps_uses.proofs.keyed.move_back.Goals as goal

pub move_to_back-requires-clause-in_list : goal.move_to_back-requires-clause-in_list
move_to_back-requires-clause-in_list g c = let r = c.requires.at in listed g.K.PartialEq.eq c.args.map.now c.lists_agree.ensures c.args.at r.entry r.value

pub returns-clause-others : goal.returns-clause-others
returns-clause-others g c = c.move_to_back.ensures.others.lists

pub returns-clause-moved : goal.returns-clause-moved
returns-clause-moved g c =
    let r = c.requires.at in let b = c.move_to_back.ensures in
    moved g.K.PartialEq.eq c.args.map.now c.lists_agree.ensures c.args.at r.entry r.value c.args.key.now r.same c.move_to_back.new.self b.nodes b.list
