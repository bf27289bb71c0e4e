use Rattle.std.proofs.Common.{sym, subst, IfOk}
use Rattle.cordyceps_channel.specs.Channels.{IsChannel, TellsReceiver}
use Rattle.cordyceps_channel.proofs.Among.{tells_of}
use Rattle.test_channels.proofs.one_thread.a_receiver_that_is_told_receives.Goals as goal

pub recv_told-element-requires-clause-more : goal.recv_told-element-requires-clause-more
recv_told-element-requires-clause-more g c =
    let u = c.made-sender.result.0 in
    let v = c.made-sender.result.1 in
    let new : IsChannel 2 u v = subst (λ r. IfOk r (λ ends. IsChannel 2 ends.0 ends.1)) c.made-sender.ensures c.channel.ensures in
    subst (λ told. TellsReceiver told v) (sym c.receipt-told.ensures.receipt.1) (tells_of c.element.result u v c.try_send.new.self c.in-Ok.ensures new.none)
