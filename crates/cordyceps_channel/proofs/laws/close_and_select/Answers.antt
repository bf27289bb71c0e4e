use Rattle.std.proofs.Common.{subst}
use Rattle.cordyceps_channel.specs.Selects.{LearnsAt}
use Rattle.cordyceps_channel.proofs.Telling.{all_selected, order_selected}
use Rattle.cordyceps_channel.proofs.laws.close_and_select.Goals as goal

pub returns-clause-all : goal.returns-clause-all
returns-clause-all g c = all_selected (λ v. v.items) c.select_all.result c.args.index c.close.result.told c.args.select.now c.learn.new.self c.select_all.new.select c.learn.ensures c.select_all.ensures

pub returns-clause-order : goal.returns-clause-order
returns-clause-order g c =
    let us = c.args.select.now in
    let vs = c.learn.new.self in
    let learned = subst (λ h. LearnsAt c.args.index h us vs) c.close.ensures.receipt.1 c.learn.ensures in
    order_selected (λ v. v.items) c.select_all.result c.args.index c.args.sender us vs c.select_all.new.select learned c.select_all.ensures
