use Rattle.freelist.proofs.ToldGets.{gets_told, gets_gone, gets_others}
use Rattle.freelist.proofs.laws.get_told.Goals as goal

pub returns-clause-gets : goal.returns-clause-gets
returns-clause-gets g c =
    let e = c.learn.ensures in
    gets_told g.T.Linked.element c.args.receipt.told c.args.local.now c.learn.new.self c.get.new.self c.get.result e.blocks e.party c.get.ensures

pub returns-clause-gone : goal.returns-clause-gone
returns-clause-gone g c none =
    let element = g.T.Linked.element in
    let e = c.learn.ensures in
    let told = gets_told element c.args.receipt.told c.args.local.now c.learn.new.self c.get.new.self c.get.result e.blocks e.party c.get.ensures in
    gets_gone element c.args.receipt.told c.args.local.now c.get.new.self c.get.result told none

pub returns-clause-others : goal.returns-clause-others
returns-clause-others g c none more =
    let element = g.T.Linked.element in
    let e = c.learn.ensures in
    let told = gets_told element c.args.receipt.told c.args.local.now c.learn.new.self c.get.new.self c.get.result e.blocks e.party c.get.ensures in
    gets_others element c.args.receipt.told c.args.local.now c.get.new.self c.get.result told none more
