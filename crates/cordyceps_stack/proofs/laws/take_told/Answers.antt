use Rattle.std.proofs.Common.{sym, ◌∙◌}
use Rattle.cordyceps_stack.proofs.SharedTheory.ToldFinds.{takes_told, gone_at_taking, told_gone, takes_others}
use Rattle.cordyceps_stack.proofs.laws.take_told.Goals as goal

pub returns-clause-takes : goal.returns-clause-takes
returns-clause-takes g c =
    let (batch, is, took) = c.take_all.ensures in
    (batch, is, takes_told c.args.receipt.told batch c.args.party.now c.learn.new.party c.take_all.new.party c.learn.ensures took)

pub returns-clause-gone : goal.returns-clause-gone
returns-clause-gone g c =
    let (batch, is, took) = c.take_all.ensures in
    told_gone c.args.receipt.told c.args.party.now c.learn.new.party c.take_all.new.party c.learn.ensures (gone_at_taking batch c.learn.new.party c.take_all.new.party took)

pub returns-clause-others : goal.returns-clause-others
returns-clause-others g c none more =
    let (batch, is, took) = c.take_all.ensures in
    takes_others g.T.Linked.element c.args.receipt.told batch c.args.party.now c.learn.new.party c.take_all.new.party more c.learn.ensures (sym is ∙ none) took
