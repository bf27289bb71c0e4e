use Rattle.std.proofs.Common.{subst}
use Rattle.cordyceps_shared.specs.Histories.{plain}
use Rattle.cordyceps_shared.specs.Knowing.{IsPrefixOf}
use Rattle.cordyceps_channel.proofs.Among.{all_received, order_kept}
use Rattle.cordyceps_channel.proofs.laws.close_and_receive.Goals as goal

pub returns-clause-all : goal.returns-clause-all
returns-clause-all g c = all_received (λ v. v.items) c.receive_all.result c.args.receiver.now c.learn.new.self c.receive_all.new.receiver c.learn.ensures.received c.receive_all.ensures

pub returns-clause-order : goal.returns-clause-order
returns-clause-order g c =
    let v = c.learn.new.self in
    let told = subst (λ h. IsPrefixOf h (plain v.seen)) c.close.ensures.receipt.1 c.learn.ensures.told in
    order_kept (λ l. l.items) c.receive_all.result c.args.sender v c.receive_all.new.receiver told c.receive_all.ensures
